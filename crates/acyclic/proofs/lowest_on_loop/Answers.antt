use mathlib.Core.List.{[]}
use mathlib.Core.Path.{subst, ◌∙◌}
use Prim.Native.Nat.{◌<◌, zero-le}
use native.Mathlib.Omega.{arith}
use lib.ListN.{length, get_or, length-set}
use borrow.Author.Count.{below_more}
use borrow.Author.Rules.{rules}
use Rattle.acyclic.specs.Loops.{Walk}
use Rattle.acyclic.specs.Scan.{Open}
use Rattle.relaxation.specs.Network.{edges_of}
use Rattle.acyclic.proofs.FoundLaws.{shaped-ends}
use Rattle.acyclic.proofs.MarkLaws.{sound_more, open-walk, no_return}
use Rattle.acyclic.proofs.SetLaws.{unmarked-set}
use Rattle.acyclic.proofs.LoopLaws.{walk_inside}
use Rattle.acyclic.proofs.WalkLaws.{ends-within}
use Rattle.acyclic.proofs.lowest_on_loop.Goals as goal

pub loop-i-smaller : goal.loop-i-smaller
loop-i-smaller c =
    let open-at : Open c.args.arcs.now.from.now c.args.arcs.now.to.now c.loop-s.s-counter c.loop-i.seen c.in-Some.i = search rules in
    let inside : get_or c.args.arcs.now.to.now c.in-Some.i 0 < length c.loop-i.seen = omega (arith, c.args.arcs.now.shaped.to_in c.in-Some.i c.in-Some.ensures.0) in
    unmarked-set c.loop-i.seen _ inside open-at.fresh

pub loop-i-preserved : goal.loop-i-preserved
loop-i-preserved c =
    let i = c.in-Some.i in
    let arcs = c.args.arcs.now in
    let open-at : Open arcs.from.now arcs.to.now c.loop-s.s-counter c.loop-i.seen i = search rules in
    let inside : get_or arcs.to.now i 0 < length c.loop-i.seen = omega (arith, arcs.shaped.to_in i c.in-Some.ensures.0) in (
      length-set _ _ _ ∙ c.loop-i.invariant.0,
      omega (arith, c.in-Some.ensures.0),
      sound_more arcs.from.now arcs.to.now c.loop-s.s-counter c.loop-i.seen i c.in-Some.ensures.0 inside open-at c.if-arcs-i.false c.loop-i.invariant.2,
    )

pub loop-s-preserved : goal.loop-s-preserved
loop-s-preserved c =
    let arcs = c.args.arcs.now in (
      omega arith,
      below_more _ c.loop-s.s-counter c.loop-s.invariant.1
          (no_return arcs.from.now arcs.to.now c.loop-s.s-counter c.loop-i.seen (λ i h o. let e = c.in_default.ensures i zero-le h in search rules) c.loop-i.invariant.2.apart),
    )

pub returns-then-arcs-i : goal.returns-then-arcs-i
returns-then-arcs-i c =
    let arcs = c.args.arcs.now in
    let open-at : Open arcs.from.now arcs.to.now c.loop-s.s-counter c.loop-i.seen c.in-Some.i = search rules in
    let back = open-walk arcs.from.now arcs.to.now c.loop-s.s-counter c.loop-i.seen c.in-Some.i c.in-Some.ensures.0 open-at c.loop-i.invariant.2 in
    record {
      inside = c.loop-s-test.true;
      closed = subst (Walk (edges_of arcs.from.now arcs.to.now [] []) c.loop-s.s-counter) c.if-arcs-i.true back;
      lowest = c.loop-s.invariant.1;
    }

pub returns-after-loop-s : goal.returns-after-loop-s
returns-after-loop-s c =
    record { free = λ k w. c.loop-s.invariant.1 k (omega (arith, walk_inside (ends-within _ _ [] [] (shaped-ends c.args.arcs.now.shaped)) w)) w }
