use mathlib.Core.Path.{◌≡◌, refl, ap}
use Prim.Native.Nat.{◌+◌, ◌-◌, ◌<◌}
use native.Mathlib.Omega.{arith}
use lib.ListN.{length, get_or, take, drop, length-map, length-drop}
use lib.Seq.{length-take-le}
use borrow.Author.Rules.{rules}
use Rattle.std.proofs.lemmas.List.{length_push}
use Rattle.std.proofs.lemmas.Slice.Zip.{zip_turn, zip_end}
use Rattle.points.specs.Laying.{edges_between, uppers, lowers}
use Rattle.buffers.specs.Written.{word_limit}
use Rattle.points.specs.Points.{Segment, chain, segments, segments_from}
use Rattle.buffers.proofs.WriteLaws.{stored-put, writing_start, writing-room, writing-part, writing-end}
use Rattle.points.proofs.EdgeLaws.{edges_from, between-turn, segments-end, points-fit}
use Rattle.points.proofs.PointLaws.{uppers-length, lowers-length, uppers-turn, lowers-turn}
use Rattle.points.proofs.Layout.lay_segments.Goals as goal

pub loop-a-init : goal.loop-a-init
unfolding segments
loop-a-init c = let s = c.args.self.now in let segs = segments s.rows.now (edges_between s.from.now s.to.now) in (
  refl,
  writing_start c.args.upper.now 0 (uppers segs) (omega (arith, c.requires.upper_room, length-map segs (λ (g : Segment). g.upper))),
  writing_start c.args.lower.now 0 (lowers segs) (omega (arith, c.requires.lower_room, length-map segs (λ (g : Segment). g.lower))),
)

pub slice_bounds-lay_chain-end : goal.slice_bounds-lay_chain-end
slice_bounds-lay_chain-end c = let s = c.args.self.now in
    let t = zip_turn s.from.now s.to.now c.loop-a.yielded c.into_iter-a-iterator.result c.loop-a.a-iterator c.next.new.self _ (search rules) (search rules) c.loop-a.yielded_by _ c.in-Some.is c.next.ensures.steps in
    let i = length c.loop-a.yielded in
    let n = c.count_between-k.result in
    let k' = c.count_between-k.ensures in
    let k = rw (t.2 0, t.3 0) at k' in
    let a = get_or s.from.now i 0 in
    let b = get_or s.to.now i 0 in
    let uppers-room = writing-room (uppers (chain a b c.loop-a.d n)) (uppers (segments_from s.rows.now (c.loop-a.d + n) (edges_from s.from.now s.to.now (i + 1)))) (uppers-turn s.rows.now s.from.now s.to.now i t.0 c.loop-a.d n k) c.loop-a.invariant.1 in
    omega (arith, uppers-length a b c.loop-a.d n, uppers-room)

pub slice_bounds-lay_chain-end-in-loop-a : goal.slice_bounds-lay_chain-end-in-loop-a
slice_bounds-lay_chain-end-in-loop-a c = let s = c.args.self.now in
    let t = zip_turn s.from.now s.to.now c.loop-a.yielded c.into_iter-a-iterator.result c.loop-a.a-iterator c.next.new.self _ (search rules) (search rules) c.loop-a.yielded_by _ c.in-Some.is c.next.ensures.steps in
    let i = length c.loop-a.yielded in
    let n = c.count_between-k.result in
    let k' = c.count_between-k.ensures in
    let k = rw (t.2 0, t.3 0) at k' in
    let a = get_or s.from.now i 0 in
    let b = get_or s.to.now i 0 in
    let lowers-room = writing-room (lowers (chain a b c.loop-a.d n)) (lowers (segments_from s.rows.now (c.loop-a.d + n) (edges_from s.from.now s.to.now (i + 1)))) (lowers-turn s.rows.now s.from.now s.to.now i t.0 c.loop-a.d n k) c.loop-a.invariant.2 in
    omega (arith, lowers-length a b c.loop-a.d n, lowers-room)

pub lay_chain-requires-clause-d_bound : goal.lay_chain-requires-clause-d_bound
lay_chain-requires-clause-d_bound c = let s = c.args.self.now in
    let t = zip_turn s.from.now s.to.now c.loop-a.yielded c.into_iter-a-iterator.result c.loop-a.a-iterator c.next.new.self _ (search rules) (search rules) c.loop-a.yielded_by _ c.in-Some.is c.next.ensures.steps in
    let i = length c.loop-a.yielded in
    let n = c.count_between-k.result in
    let k' = c.count_between-k.ensures in
    let k = rw (t.2 0, t.3 0) at k' in
    let a = get_or s.from.now i 0 in
    let b = get_or s.to.now i 0 in
    let uppers-room = writing-room (uppers (chain a b c.loop-a.d n)) (uppers (segments_from s.rows.now (c.loop-a.d + n) (edges_from s.from.now s.to.now (i + 1)))) (uppers-turn s.rows.now s.from.now s.to.now i t.0 c.loop-a.d n k) c.loop-a.invariant.1 in
    let long = length-take-le (c.loop-a.s + n + 1 - c.loop-a.s) (drop c.loop-a.s c.loop-a.upper) (omega (arith, uppers-length a b c.loop-a.d n, uppers-room, length-drop c.loop-a.s c.loop-a.upper)) in
    omega (arith, k, long, between-turn s.rows.now s.from.now s.to.now i t.0, points-fit s.chart, c.loop-a.invariant.0)

pub overflow_add-d : goal.overflow_add-d
overflow_add-d c = let s = c.args.self.now in
    let t = zip_turn s.from.now s.to.now c.loop-a.yielded c.into_iter-a-iterator.result c.loop-a.a-iterator c.next.new.self _ (search rules) (search rules) c.loop-a.yielded_by _ c.in-Some.is c.next.ensures.steps in
    let i = length c.loop-a.yielded in
    let n = c.count_between-k.result in
    let k' = c.count_between-k.ensures in
    let k = rw (t.2 0, t.3 0) at k' in
    let h : c.loop-a.d + n < word_limit = omega (arith, k, between-turn s.rows.now s.from.now s.to.now i t.0, points-fit s.chart, c.loop-a.invariant.0) in search rules

pub loop-a-preserved : goal.loop-a-preserved
loop-a-preserved c = let s = c.args.self.now in
    let t = zip_turn s.from.now s.to.now c.loop-a.yielded c.into_iter-a-iterator.result c.loop-a.a-iterator c.next.new.self _ (search rules) (search rules) c.loop-a.yielded_by _ c.in-Some.is c.next.ensures.steps in
    let i = length c.loop-a.yielded in
    let n = c.count_between-k.result in
    let k' = c.count_between-k.ensures in
    let k = rw (t.2 0, t.3 0) at k' in
    let a = get_or s.from.now i 0 in
    let b = get_or s.to.now i 0 in
    let uppers-room = writing-room (uppers (chain a b c.loop-a.d n)) (uppers (segments_from s.rows.now (c.loop-a.d + n) (edges_from s.from.now s.to.now (i + 1)))) (uppers-turn s.rows.now s.from.now s.to.now i t.0 c.loop-a.d n k) c.loop-a.invariant.1 in
    let lowers-room = writing-room (lowers (chain a b c.loop-a.d n)) (lowers (segments_from s.rows.now (c.loop-a.d + n) (edges_from s.from.now s.to.now (i + 1)))) (lowers-turn s.rows.now s.from.now s.to.now i t.0 c.loop-a.d n k) c.loop-a.invariant.2 in
    let part_long = length-take-le (c.loop-a.s + n + 1 - c.loop-a.s) (drop c.loop-a.s c.loop-a.upper) (omega (arith, uppers-length a b c.loop-a.d n, uppers-room, length-drop c.loop-a.s c.loop-a.upper)) in
    let m : length (take (c.loop-a.s + n + 1 - c.loop-a.s) (drop c.loop-a.s c.loop-a.upper)) - 1 ≡ n = omega (arith, part_long) in
    let high' = c.lay_chain.ensures.uppers in
    let low' = c.lay_chain.ensures.lowers in
    let high = rw (t.2 0, t.3 0, m) at high' in
    let low = rw (t.2 0, t.3 0, m) at low' in
    rw (length_push c.loop-a.yielded (c.in-Some.field-0-0, c.in-Some.field-0-1), high, low) (
      omega (arith, k, between-turn s.rows.now s.from.now s.to.now i t.0, c.loop-a.invariant.0),
      writing-part _ _ (uppers-turn _ _ _ _ t.0 _ _ k) c.loop-a.invariant.1 (stored-put c.loop-a.upper c.loop-a.s (c.loop-a.s + n + 1) (uppers (chain a b c.loop-a.d n)) (omega (arith, uppers-length a b c.loop-a.d n)) (omega (arith, uppers-length a b c.loop-a.d n, uppers-room))),
      writing-part _ _ (lowers-turn _ _ _ _ t.0 _ _ k) c.loop-a.invariant.2 (stored-put c.loop-a.lower c.loop-a.s (c.loop-a.s + n + 1) (lowers (chain a b c.loop-a.d n)) (omega (arith, lowers-length a b c.loop-a.d n)) (omega (arith, lowers-length a b c.loop-a.d n, lowers-room))),
    )

pub returns-clause-stored : goal.returns-clause-stored
returns-clause-stored c = let s = c.args.self.now in
    let z = zip_end s.from.now s.to.now c.loop-a.yielded c.into_iter-a-iterator.result c.loop-a.a-iterator c.next.new.self _ (search rules) (search rules) c.loop-a.yielded_by c.in-None.is c.next.ensures.steps in
    let done = segments-end s.rows.now s.from.now s.to.now (length c.loop-a.yielded) (omega (arith, z, s.chart.to_long)) c.loop-a.d in
    writing-end (ap uppers done) c.loop-a.invariant.1

pub returns-clause-stored_2 : goal.returns-clause-stored_2
returns-clause-stored_2 c = let s = c.args.self.now in
    let z = zip_end s.from.now s.to.now c.loop-a.yielded c.into_iter-a-iterator.result c.loop-a.a-iterator c.next.new.self _ (search rules) (search rules) c.loop-a.yielded_by c.in-None.is c.next.ensures.steps in
    let done = segments-end s.rows.now s.from.now s.to.now (length c.loop-a.yielded) (omega (arith, z, s.chart.to_long)) c.loop-a.d in
    writing-end (ap lowers done) c.loop-a.invariant.2
