use native.Mathlib.Omega.{arith}
use lib.ListN.{length}
use borrow.Author.Rules.{rules}
use Rattle.std.proofs.lemmas.List.{length_push}
use Rattle.std.proofs.lemmas.Slice.Zip.{zip_turn, zip_end}
use Rattle.points.specs.Laying.{edges_between}
use Rattle.points.proofs.EdgeLaws.{between-turn, between-end, points-fit}
use Rattle.points.proofs.PointLaws.{points-length}
use Rattle.points.proofs.Layout.count_points.Goals as goal

pub overflow_add-count : goal.overflow_add-count
overflow_add-count c = let s = c.args.self.now in
    let t = zip_turn s.from.now s.to.now c.loop-a.yielded c.into_iter-a-iterator.result c.loop-a.a-iterator c.next.new.self _ (search rules) (search rules) c.loop-a.yielded_by _ c.in-Some.is c.next.ensures.steps in
    let k = c.count_between-count.ensures in
    let k' = rw (t.2 0, t.3 0) at k in
    omega (arith, k', between-turn s.rows.now s.from.now s.to.now (length c.loop-a.yielded) t.0, points-fit s.chart)

pub loop-a-preserved : goal.loop-a-preserved
loop-a-preserved c = let s = c.args.self.now in
    let t = zip_turn s.from.now s.to.now c.loop-a.yielded c.into_iter-a-iterator.result c.loop-a.a-iterator c.next.new.self _ (search rules) (search rules) c.loop-a.yielded_by _ c.in-Some.is c.next.ensures.steps in
    let k = c.count_between-count.ensures in
    let k' = rw (t.2 0, t.3 0) at k in
    rw (length_push c.loop-a.yielded (c.in-Some.field-0-0, c.in-Some.field-0-1)) (omega (arith, k', between-turn s.rows.now s.from.now s.to.now (length c.loop-a.yielded) t.0))

pub returns : goal.returns
returns c = let s = c.args.self.now in
    let z = zip_end s.from.now s.to.now c.loop-a.yielded c.into_iter-a-iterator.result c.loop-a.a-iterator c.next.new.self _ (search rules) (search rules) c.loop-a.yielded_by c.in-None.is c.next.ensures.steps in
    omega (arith, between-end s.rows.now s.from.now s.to.now (length c.loop-a.yielded) (omega (arith, z, s.chart.to_long)), points-length s.rows.now (edges_between s.from.now s.to.now))
