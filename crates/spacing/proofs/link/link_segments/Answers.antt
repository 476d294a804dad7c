-- Each turn reads a segment's ends and its cost, and writes its two edges.
use mathlib.Core.Path.{ap}
use mathlib.Core.List.{[], ◌∷◌}
use native.Mathlib.Omega.{arith}
use lib.ListN.{length, length-append}
use Rattle.std.proofs.lemmas.Iterator.{YieldsList-from_slice, YieldsList-from_zip}
use Rattle.std.proofs.lemmas.Iterator.Consumers.{YieldsList-from_enumerate, YieldsList-turn, YieldsList-end}
use Rattle.std.proofs.lemmas.List.{length_push}
use Rattle.buffers.proofs.ZipLaws.{numbered-triples, numbered-triple-at}
use Rattle.flatten.specs.Flat.{flat_edges}
use Rattle.spacing.proofs.ExtendLaws.{pulling-start, pulling-count, pulling-turn, pulling-end}
use Rattle.spacing.proofs.link.link_segments.Goals as goal

pub loop-k-init : goal.loop-k-init
loop-k-init c = pulling-start

pub push-requires : goal.push-requires
push-requires c =
    let t = YieldsList-turn (YieldsList-from_enumerate (YieldsList-from_zip (YieldsList-from_zip (YieldsList-from_slice c.args.upper.now cc) (YieldsList-from_slice c.args.lower.now cc)) (YieldsList-from_slice c.args.cost.now cc)) cc)
    c.loop-k.yielded _ c.loop-k.yielded_by _ c.next.new.self _ c.in-Some.is c.next.ensures.steps in
    omega (arith, (numbered-triple-at _ _ _ c.requires.long.0 c.requires.long.1 _ _ _ _ _ t).0, pulling-count c.loop-k.invariant, c.requires.room)

pub push-requires-in-loop-k : goal.push-requires-in-loop-k
push-requires-in-loop-k c =
    let t = YieldsList-turn (YieldsList-from_enumerate (YieldsList-from_zip (YieldsList-from_zip (YieldsList-from_slice c.args.upper.now cc) (YieldsList-from_slice c.args.lower.now cc)) (YieldsList-from_slice c.args.cost.now cc)) cc)
    c.loop-k.yielded _ c.loop-k.yielded_by _ c.next.new.self _ c.in-Some.is c.next.ensures.steps in
    omega (
      arith,
      (numbered-triple-at _ _ _ c.requires.long.0 c.requires.long.1 _ _ _ _ _ t).0,
      pulling-count c.loop-k.invariant,
      c.requires.room,
      ap length c.push.ensures,
      length-append (flat_edges c.loop-k.links) (c.pulling.result ∷ []),
    )

pub loop-k-preserved : goal.loop-k-preserved
loop-k-preserved c =
    let t = YieldsList-turn (YieldsList-from_enumerate (YieldsList-from_zip (YieldsList-from_zip (YieldsList-from_slice c.args.upper.now cc) (YieldsList-from_slice c.args.lower.now cc)) (YieldsList-from_slice c.args.cost.now cc)) cc)
    c.loop-k.yielded _ c.loop-k.yielded_by _ c.next.new.self _ c.in-Some.is c.next.ensures.steps in
    pulling-turn c.loop-k.invariant (length_push c.loop-k.yielded _) (numbered-triple-at _ _ _ c.requires.long.0 c.requires.long.1 _ _ _ _ _ t)
    (rw c.pulling.ensures at c.push.ensures) (rw c.pulling-in-loop-k.ensures at c.push-in-loop-k.ensures)

pub returns : goal.returns
returns c =
    let t = YieldsList-end (YieldsList-from_enumerate (YieldsList-from_zip (YieldsList-from_zip (YieldsList-from_slice c.args.upper.now cc) (YieldsList-from_slice c.args.lower.now cc)) (YieldsList-from_slice c.args.cost.now cc)) cc)
    c.loop-k.yielded _ c.loop-k.yielded_by _ c.next.new.self c.in-None.is c.next.ensures.steps in
    pulling-end c.loop-k.invariant (omega (arith, t.1, numbered-triples _ _ _ c.requires.long.0 c.requires.long.1))
