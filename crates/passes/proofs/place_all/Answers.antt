use mathlib.Core.Path.{◌≡◌, ap, ◌∙◌}
use mathlib.Core.List.{List}
use Prim.Native.Nat.{ℕ, ◌+◌, ◌-◌, ◌<◌}
use native.Mathlib.Omega.{arith}
use lib.ListN.{length, take, drop, length-drop}
use lib.Seq.{get_or-drop}
use borrow.Author.Rules.{rules}
use Rattle.std.proofs.lemmas.List.{length_push, take_rest}
use Rattle.std.proofs.lemmas.Slice.Zip.{zip_turn, zip_end}
use Rattle.graph.specs.Rows.{at}
use Rattle.passes.specs.Laid.{rows_held}
use Rattle.passes.proofs.PositionLaws as laws
use Rattle.passes.proofs.place_all.Goals as goal

pub offset_bounds-order-a : goal.offset_bounds-order-a
offset_bounds-order-a c = let first = c.args.first.now in
    let t = zip_turn first (take (length first - 1) (drop 1 first)) c.loop-a.yielded c.into_iter-a-iterator.result c.loop-a.a-iterator c.next.new.self _ (search rules) (search rules) c.loop-a.yielded_by _ c.in-Some.is c.next.ensures.steps in
    let r = length c.loop-a.yielded in
    let l : r < rows_held first = omega (arith, t.1, ap length (take_rest first 1), length-drop 1 first) in
    let b : c.in-Some.field-0-1.now ≡ at first (r + 1) = t.3 0 ∙ ap (λ (s : List ℕ). at s r) (take_rest first 1) ∙ get_or-drop 1 first r 0 ∙ ap (at first) (omega arith) in
    omega (arith, t.2 0, b, laws.starts-rise c.requires l, laws.ends-within c.requires l)

pub slice_bounds-place_row-count : goal.slice_bounds-place_row-count
slice_bounds-place_row-count c = let first = c.args.first.now in
    let t = zip_turn first (take (length first - 1) (drop 1 first)) c.loop-a.yielded c.into_iter-a-iterator.result c.loop-a.a-iterator c.next.new.self _ (search rules) (search rules) c.loop-a.yielded_by _ c.in-Some.is c.next.ensures.steps in
    let r = length c.loop-a.yielded in
    let l : r < rows_held first = omega (arith, t.1, ap length (take_rest first 1), length-drop 1 first) in
    let b : c.in-Some.field-0-1.now ≡ at first (r + 1) = t.3 0 ∙ ap (λ (s : List ℕ). at s r) (take_rest first 1) ∙ get_or-drop 1 first r 0 ∙ ap (at first) (omega arith) in
    omega (arith, t.2 0, b, laws.starts-rise c.requires l, laws.ends-within c.requires l)

pub slice_bounds-place_row-start : goal.slice_bounds-place_row-start
slice_bounds-place_row-start c = let first = c.args.first.now in
    let t = zip_turn first (take (length first - 1) (drop 1 first)) c.loop-a.yielded c.into_iter-a-iterator.result c.loop-a.a-iterator c.next.new.self _ (search rules) (search rules) c.loop-a.yielded_by _ c.in-Some.is c.next.ensures.steps in
    let r = length c.loop-a.yielded in
    let l : r < rows_held first = omega (arith, t.1, ap length (take_rest first 1), length-drop 1 first) in
    let b : c.in-Some.field-0-1.now ≡ at first (r + 1) = t.3 0 ∙ ap (λ (s : List ℕ). at s r) (take_rest first 1) ∙ get_or-drop 1 first r 0 ∙ ap (at first) (omega arith) in
    omega (arith, t.2 0, b, laws.starts-rise c.requires l, laws.ends-within c.requires l)

pub slice_bounds-place_row-end : goal.slice_bounds-place_row-end
slice_bounds-place_row-end c = let first = c.args.first.now in
    let t = zip_turn first (take (length first - 1) (drop 1 first)) c.loop-a.yielded c.into_iter-a-iterator.result c.loop-a.a-iterator c.next.new.self _ (search rules) (search rules) c.loop-a.yielded_by _ c.in-Some.is c.next.ensures.steps in
    let r = length c.loop-a.yielded in
    let l : r < rows_held first = omega (arith, t.1, ap length (take_rest first 1), length-drop 1 first) in
    let b : c.in-Some.field-0-1.now ≡ at first (r + 1) = t.3 0 ∙ ap (λ (s : List ℕ). at s r) (take_rest first 1) ∙ get_or-drop 1 first r 0 ∙ ap (at first) (omega arith) in
    omega (arith, t.2 0, b, laws.starts-rise c.requires l, laws.ends-within c.requires l)

pub place_row-requires : goal.place_row-requires
place_row-requires c = let first = c.args.first.now in
    let t = zip_turn first (take (length first - 1) (drop 1 first)) c.loop-a.yielded c.into_iter-a-iterator.result c.loop-a.a-iterator c.next.new.self _ (search rules) (search rules) c.loop-a.yielded_by _ c.in-Some.is c.next.ensures.steps in
    let r = length c.loop-a.yielded in
    let l : r < rows_held first = omega (arith, t.1, ap length (take_rest first 1), length-drop 1 first) in
    let b : c.in-Some.field-0-1.now ≡ at first (r + 1) = t.3 0 ∙ ap (λ (s : List ℕ). at s r) (take_rest first 1) ∙ get_or-drop 1 first r 0 ∙ ap (at first) (omega arith) in
    rw (t.2 0, b) (laws.points-within c.requires l c.loop-a.pos c.loop-a.invariant.1)

pub loop-a-preserved : goal.loop-a-preserved
loop-a-preserved c = let first = c.args.first.now in
    let t = zip_turn first (take (length first - 1) (drop 1 first)) c.loop-a.yielded c.into_iter-a-iterator.result c.loop-a.a-iterator c.next.new.self _ (search rules) (search rules) c.loop-a.yielded_by _ c.in-Some.is c.next.ensures.steps in
    let r = length c.loop-a.yielded in
    let l : r < rows_held first = omega (arith, t.1, ap length (take_rest first 1), length-drop 1 first) in
    let b : c.in-Some.field-0-1.now ≡ at first (r + 1) = t.3 0 ∙ ap (λ (s : List ℕ). at s r) (take_rest first 1) ∙ get_or-drop 1 first r 0 ∙ ap (at first) (omega arith) in
    let stored = c.place_row.ensures in
    let stored' = rw (t.2 0, b) at stored in
    rw (length_push c.loop-a.yielded (c.in-Some.field-0-0, c.in-Some.field-0-1)) (laws.placed-turn c.requires l c.loop-a.invariant.1 c.loop-a.invariant.0 stored', omega (arith, c.loop-a.invariant.1))

pub returns : goal.returns
returns c = let first = c.args.first.now in
    let z = zip_end first (take (length first - 1) (drop 1 first)) c.loop-a.yielded c.into_iter-a-iterator.result c.loop-a.a-iterator c.next.new.self _ (search rules) (search rules) c.loop-a.yielded_by c.in-None.is c.next.ensures.steps in
    laws.placed_end c.requires (omega (arith, z, ap length (take_rest first 1), length-drop 1 first)) c.loop-a.invariant.1 c.loop-a.invariant.0
