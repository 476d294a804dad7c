use Prim.Native.Nat.{suc, ◌+◌}
use native.Mathlib.Omega.{arith}
use lib.ListN.{length, get_or}
use borrow.Author.Rules.{rules}
use Rattle.std.proofs.lemmas.List.{length_push}
use Rattle.std.proofs.lemmas.Slice.Zip.{zip_turn, zip_end}
use Rattle.graph.specs.Search.{run}
use Rattle.points.specs.Laying.{edges_between}
use Rattle.buffers.proofs.WriteLaws.{writing_start, writing-room, writing-part, writing-end, stored-append, stored-long}
use Rattle.buffers.proofs.RunLaws.{run_length}
use Rattle.points.proofs.EdgeLaws.{between_at, dummy_rows, edges_from, rows-length, rows-turn, rows_end}
use Rattle.points.proofs.PointLaws.{rows_are, points-length, stored-run}
use Rattle.points.proofs.Layout.lay_rows.Goals as goal

pub copy_front-p-requires : goal.copy_front-p-requires
copy_front-p-requires c = let s = c.args.self.now in omega (arith, c.requires, points-length s.rows.now (edges_between s.from.now s.to.now))

pub loop-a-init : goal.loop-a-init
loop-a-init c = let s = c.args.self.now in let edges = edges_between s.from.now s.to.now in
    let copied = c.copy_front-p.ensures in
    writing_start _ _ _ (omega (arith, copied.counts, stored-long copied, rows-length s.rows.now edges, points-length s.rows.now edges, c.requires))

pub slice_bounds-number_from-end : goal.slice_bounds-number_from-end
slice_bounds-number_from-end c = let s = c.args.self.now in
    let t = zip_turn s.from.now s.to.now c.loop-a.yielded c.into_iter-a-iterator.result c.loop-a.a-iterator c.next.new.self _ (search rules) (search rules) c.loop-a.yielded_by _ c.in-Some.is c.next.ensures.steps in
    let i = length c.loop-a.yielded in
    let k' = c.count_between.ensures in
    let k = rw (t.2 0, t.3 0) at k' in
    let a = suc (get_or s.rows.now (get_or s.from.now i 0) 0) in
    let n = between_at s.rows.now s.from.now s.to.now i in
    let turn = rows-turn s.rows.now s.from.now s.to.now i t.0 in
    let room = writing-room (run a n) (dummy_rows s.rows.now (edges_from s.from.now s.to.now (i + 1))) turn c.loop-a.invariant in
    omega (arith, k, run_length a n, room)

pub loop-a-preserved : goal.loop-a-preserved
loop-a-preserved c = let s = c.args.self.now in
    let t = zip_turn s.from.now s.to.now c.loop-a.yielded c.into_iter-a-iterator.result c.loop-a.a-iterator c.next.new.self _ (search rules) (search rules) c.loop-a.yielded_by _ c.in-Some.is c.next.ensures.steps in
    let i = length c.loop-a.yielded in
    let k' = c.count_between.ensures in
    let k = rw (t.2 0, t.3 0) at k' in
    let a = suc (get_or s.rows.now (get_or s.from.now i 0) 0) in
    let n = between_at s.rows.now s.from.now s.to.now i in
    let turn = rows-turn s.rows.now s.from.now s.to.now i t.0 in
    let room = writing-room (run a n) (dummy_rows s.rows.now (edges_from s.from.now s.to.now (i + 1))) turn c.loop-a.invariant in
    let laid' = stored-run c.loop-a.row c.loop-a.p (c.loop-a.p + c.count_between.result) (get_or s.rows.now c.in-Some.field-0-0.now 0 + 1) a n c.number_from.ensures (omega arith) (omega (arith, k, run_length a n, room)) (rw (t.2 0) (omega arith)) (omega (arith, k)) in
    rw (length_push c.loop-a.yielded (c.in-Some.field-0-0, c.in-Some.field-0-1)) (writing-part _ _ turn c.loop-a.invariant laid')

pub returns : goal.returns
returns c = let s = c.args.self.now in
    let z = zip_end s.from.now s.to.now c.loop-a.yielded c.into_iter-a-iterator.result c.loop-a.a-iterator c.next.new.self _ (search rules) (search rules) c.loop-a.yielded_by c.in-None.is c.next.ensures.steps in
    let laid = writing-end (rows_end s.rows.now s.from.now s.to.now (length c.loop-a.yielded) (omega (arith, z, s.chart.to_long))) c.loop-a.invariant in
    rw rows_are (stored-append s.rows.now (dummy_rows s.rows.now (edges_between s.from.now s.to.now)) c.copy_front-p.ensures laid)
