-- Each turn writes the edge of a pair, where there is one.
use mathlib.Core.Path.{sym, ap, ◌∙◌}
use mathlib.Core.List.{◌++◌, append-nil}
use native.Mathlib.Omega.{arith}
use Rattle.std.proofs.lemmas.Iterator.{window_more}
use Rattle.spacing.specs.Limits.{max_links}
use Rattle.flatten.specs.Flat.{flat_edges}
use Rattle.spacing.proofs.ExtendLaws.{link-same, link-other, siding-start, siding-room, siding-turn, siding-end}
use Rattle.spacing.proofs.link.link_points.Goals as goal

pub loop-pair-init : goal.loop-pair-init
loop-pair-init c = rw (c.into_iter-pair-iterator.ensures.into_iter_gives, c.windows-pair-items.ensures.rest, c.windows-pair-items.ensures.size) siding-start

pub push-requires : goal.push-requires
push-requires c =
    let i = c.loop-pair.invariant in
    let w = window_more c.args.order.now _ _ _ _ c.in-Some.is c.next.ensures.steps (omega (arith, i.pairs)) i.inside i.left in
    (omega arith, siding-room i max_links (omega (arith, w.2, i.pairs)) c.requires.room)

pub loop-pair-preserved-then-row-p : goal.loop-pair-preserved-then-row-p
loop-pair-preserved-then-row-p c =
    let i = c.loop-pair.invariant in
    let w = window_more c.args.order.now _ _ _ _ c.in-Some.is c.next.ensures.steps (omega (arith, i.pairs)) i.inside i.left in
    siding-turn i _ w c.next.ensures.steps.0 (c.push.ensures ∙ ap (λ l. flat_edges c.loop-pair.links ++ l) (sym (link-same c.args.row.now _ _ c.if-row-p.true)))

pub loop-pair-preserved : goal.loop-pair-preserved
loop-pair-preserved c =
    let i = c.loop-pair.invariant in
    let w = window_more c.args.order.now _ _ _ _ c.in-Some.is c.next.ensures.steps (omega (arith, i.pairs)) i.inside i.left in
    siding-turn i _ w c.next.ensures.steps.0
    (sym (append-nil (flat_edges c.loop-pair.links)) ∙ ap (λ l. flat_edges c.loop-pair.links ++ l) (sym (link-other c.args.row.now _ _ c.if-row-p.false)))

pub returns : goal.returns
returns c = let s = rw c.in-None.is at c.next.ensures.steps in siding-end c.loop-pair.invariant s.1.0
