use native.Mathlib.Omega.{arith}
use borrow.Author.Rules.{rules}
use Rattle.std.proofs.lemmas.List.{length_push}
use Rattle.std.proofs.lemmas.Slice.Zip.{zip_turn, zip_end}
use Rattle.reordering.proofs.PickLaws.{picking_in, picking-out, picking-end}
use Rattle.reordering.proofs.pick.pick_segments.Goals as goal

pub loop-u-preserved-then-chart-u : goal.loop-u-preserved-then-chart-u
loop-u-preserved-then-chart-u c = let s = c.args.chart.now in
    let t = zip_turn s.upper.now s.lower.now c.loop-u.yielded c.into_iter-u-iterator.result c.loop-u.u-iterator c.next.new.self _ (search rules) (search rules) c.loop-u.yielded_by _ c.in-Some.is c.next.ensures.steps in
    let e = rw (t.2 0) at c.if-chart-u.true in
    let p = picking_in _ _ _ _ _ _ _ c.loop-u.invariant.2 t.0 c.requires.pickable.both e in
    ((tt, tt), tt, rw (length_push c.loop-u.yielded (c.in-Some.field-0-0, c.in-Some.field-0-1), c.push.ensures.items, t.2 0, t.3 0) p)

pub loop-u-preserved : goal.loop-u-preserved
loop-u-preserved c = let s = c.args.chart.now in
    let t = zip_turn s.upper.now s.lower.now c.loop-u.yielded c.into_iter-u-iterator.result c.loop-u.u-iterator c.next.new.self _ (search rules) (search rules) c.loop-u.yielded_by _ c.in-Some.is c.next.ensures.steps in
    let e = rw (t.2 0) at c.if-chart-u.false in
    ((tt, tt), tt, rw (length_push c.loop-u.yielded (c.in-Some.field-0-0, c.in-Some.field-0-1)) (picking-out _ _ _ _ _ _ _ c.loop-u.invariant.2 t.0 c.requires.pickable.both e))

pub returns : goal.returns
returns c = let s = c.args.chart.now in
    let z = zip_end s.upper.now s.lower.now c.loop-u.yielded c.into_iter-u-iterator.result c.loop-u.u-iterator c.next.new.self _ (search rules) (search rules) c.loop-u.yielded_by c.in-None.is c.next.ensures.steps in
    picking-end _ _ _ _ _ _ _ c.loop-u.invariant.2 (omega (arith, z, c.requires.pickable.both))
