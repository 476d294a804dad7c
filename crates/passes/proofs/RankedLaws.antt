-- The start order is ranked: each point stands once, in its own row.
use mathlib.Core.Path.{◌≡◌, refl, sym, ap, ◌∙◌}
use mathlib.Core.Bool.{Bool, true, false, cond}
use mathlib.Core.List.{List, [], ◌∷◌, map, flatten}
use mathlib.Core.Logic.{◌⊎◌, inl, inr}
use Prim.Native.Nat.{ℕ, zero, suc, ◌+◌, ◌≤◌, ◌<◌}
use native.Mathlib.Nat.{not-suc-le-zero, le_of_suc-le-suc}
use native.Mathlib.Decide.{dec_lt}
use native.Mathlib.Omega.{arith}
use lib.Dec.{eqb}
use lib.ListN.{length, get_or, take, length-map, get_or-eq_default}
use borrow.Author.Tests.{eq-eqb, ne_eqb}
use Rattle.graph.specs.Rows.{at}
use Rattle.graph.specs.Search.{run}
use Rattle.passes.specs.Order.{points_in, start_order}
use Rattle.buffers.specs.Lists.{Below, occurs}
use Rattle.passes.specs.Starts.{start}
use Rattle.passes.specs.Laid.{Ranked}

-- ---- the points of a row, numbered from a on

-- no number outside the points stands in it
points-outside : (r a : ℕ) (ys : List ℕ) (p : ℕ) → (p < a) ⊎ (a + length ys ≤ p) → occurs p (points_in r a ys) ≡ 0
unfolding points_in occurs
points-outside r a [] p out = refl
points-outside r a (y ∷ ys) p out = go (eqb y r) (points-outside r (suc a) ys p (next out)) (ne_eqb p a (λ e. apart e out))
  where
    next : (p < a) ⊎ (a + suc (length ys) ≤ p) → (p < suc a) ⊎ (suc a + length ys ≤ p)
    next (inl h) = inl (omega arith)
    next (inr h) = inr (omega arith)

    apart : p ≡ a → (p < a) ⊎ (a + suc (length ys) ≤ p) → ⊥
    apart e (inl h) = omega arith
    apart e (inr h) = omega arith

    go : (t : Bool) → occurs p (points_in r (suc a) ys) ≡ 0 → eqb p a ≡ false → occurs p (cond t (a ∷ points_in r (suc a) ys) (points_in r (suc a) ys)) ≡ 0
    go true ih e = rw e (omega arith)
    go false ih e = ih

-- a point stands in it once where this is its row, and else not at all
points-once : (r a : ℕ) (ys : List ℕ) (p : ℕ) → p < length ys → occurs (a + p) (points_in r a ys) ≡ cond (eqb (at ys p) r) 1 0
unfolding points_in occurs
points-once r a [] p h = absurd (not-suc-le-zero h)
points-once r a (y ∷ ys) zero h = go (eqb y r) (points-outside r (suc a) ys (a + 0) (inl (omega arith))) (eq-eqb (a + 0) a (omega arith))
  where
    go : (t : Bool) → occurs (a + 0) (points_in r (suc a) ys) ≡ 0 → eqb (a + 0) a ≡ true
        → occurs (a + 0) (cond t (a ∷ points_in r (suc a) ys) (points_in r (suc a) ys)) ≡ cond t 1 0
    go true ih e = rw e (omega arith)
    go false ih e = ih
points-once r a (y ∷ ys) (suc p) h = go (eqb y r) (rw moved at (points-once r (suc a) ys p (le_of_suc-le-suc h))) (ne_eqb (a + suc p) a (λ e. omega arith))
  where
    moved : suc a + p ≡ a + suc p
    moved = omega arith

    go : (t : Bool) → occurs (a + suc p) (points_in r (suc a) ys) ≡ cond (eqb (at ys p) r) 1 0 → eqb (a + suc p) a ≡ false
        → occurs (a + suc p) (cond t (a ∷ points_in r (suc a) ys) (points_in r (suc a) ys)) ≡ cond (eqb (at ys p) r) 1 0
    go true ih e = rw e (omega arith)
    go false ih e = ih

-- ---- the rows

run_length : (a k : ℕ) → length (run a k) ≡ k
unfolding run
run_length a zero = refl
run_length a (suc k) = ap suc (run_length (suc a) k)

run_at : (f : ℕ → List ℕ) (a k r : ℕ) → r < k → get_or (map f (run a k)) r [] ≡ f (a + r)
unfolding run
run_at f a zero r h = absurd (not-suc-le-zero h)
run_at f a (suc k) zero h = let e : a ≡ a + 0 = omega arith in ap f e
run_at f a (suc k) (suc r) h = let e : suc a + r ≡ a + suc r = omega arith in run_at f (suc a) k r (le_of_suc-le-suc h) ∙ ap f e

module _ (count : ℕ) (ys : List ℕ) where
  start-rows : length (start_order count ys) ≡ count
  unfolding start_order
  start-rows = length-map (run 0 count) (λ r. points_in r 0 ys) ∙ run_length 0 count

  start-row : (r : ℕ) → r < count → get_or (start_order count ys) r [] ≡ points_in r 0 ys
  unfolding start_order
  start-row r h = let e : 0 + r ≡ r = omega arith in run_at (λ r. points_in r 0 ys) 0 count r h ∙ ap (λ (k : ℕ). points_in k 0 ys) e

  past_row : (p r : ℕ) → count ≤ r → occurs p (get_or (start_order count ys) r []) ≡ 0
  unfolding occurs
  past_row p r h = let k : length (start_order count ys) ≤ r = omega (arith, start-rows) in ap (occurs p) (get_or-eq_default (start_order count ys) [] k)

  -- Where every row is below `count`, lists that hold the start order and its starts hold it as an order.
  pub start-ranked : (order first : List ℕ) → Below count ys → take (length ys) order ≡ flatten (start_order count ys) → length ys ≤ length order
      → count < length first → ((r : ℕ) → r ≤ count → at first r ≡ start (start_order count ys) r) → Ranked ys count (start_order count ys) order first
  start-ranked order first b flat order_long first_long starts =
      record {
        rows = start-rows;
        once = λ p r h. once p r h (dec_lt r count);
        none = λ p r h. none p r h (dec_lt r count);
        flat = flat;
        order_long = order_long;
        first_long = first_long;
        starts = starts;
      }
    where
      once : (p r : ℕ) → p < length ys → Dec (r < count) → occurs p (get_or (start_order count ys) r []) ≡ cond (eqb (at ys p) r) 1 0
      once p r h (yes l) =
          let e : 0 + p ≡ p = omega arith in
          ap (occurs p) (start-row r l) ∙ ap (λ (k : ℕ). occurs k (points_in r 0 ys)) (sym e) ∙ points-once r 0 ys p h
      once p r h (no d) = past_row p r (omega arith) ∙ sym (ap {B = ℕ} (λ (t : Bool). cond t 1 0) (ne_eqb (at ys p) r (λ e. omega (arith, b.below p h))))

      none : (p r : ℕ) → length ys ≤ p → Dec (r < count) → occurs p (get_or (start_order count ys) r []) ≡ 0
      none p r h (yes l) = ap (occurs p) (start-row r l) ∙ points-outside r 0 ys p (inr (omega arith))
      none p r h (no d) = past_row p r (omega arith)
