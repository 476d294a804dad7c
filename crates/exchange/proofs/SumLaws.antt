-- The turns of the loops that add up costs.
use mathlib.Core.Path.{◌≡◌}
use mathlib.Core.List.{List, [], ◌∷◌}
use Prim.Native.Nat.{ℕ, suc, ◌+◌, ◌*◌, ◌≤◌, ◌<◌}
use native.Mathlib.Numerals.{add-one}
use native.Mathlib.Nat.{min-le_left}
use native.Mathlib.Omega.{arith}
use lib.ListN.{length, get_or, drop, length-drop, drop_of_length-le}
use lib.Seq.{drop-cons, get_or-drop}
use Rattle.exchange.specs.Costs.{cost_with, cost_of, cheaper}
use Rattle.exchange.specs.Limits.{max_row_points}
use Rattle.exchange.specs.Tables.{cost_in, cost_limit, PairCosts, RowPoints}
use Rattle.exchange.proofs.CostLaws.{with_none, with-cons, of_none, of_cons}

-- what a row costs at the most
abbrev pub total_limit : ℕ
total_limit = 4398046511104

-- ---- no cost is large

module _ (cost : ℕ → ℕ → ℕ) (low : (i j : ℕ) → cost i j < cost_limit) where
  with_bound : (i : ℕ) (l : List ℕ) → cost_with cost i l ≤ cost_limit * length l
  with_bound i [] = omega (arith, with_none cost i)
  with_bound i (j ∷ l) = omega (arith, with_bound i l, with-cons cost i j l, low i j)

  of-bound : (l : List ℕ) → length l ≤ max_row_points → cost_of cost l ≤ 137438953472 * length l
  of-bound [] h = omega (arith, of_none cost)
  of-bound (i ∷ l) h = omega (arith, of-bound l (omega arith), of_cons cost i l, with_bound i l)

  rest-low : (a : ℕ) (order : List ℕ) → length order ≤ max_row_points → cost_of cost (drop a order) ≤ total_limit
  rest-low a order h = omega (arith, of-bound (drop a order) (omega (arith, length-drop a order)), length-drop a order)

  with-low : (i a : ℕ) (order : List ℕ) → length order ≤ max_row_points → cost_with cost i (drop a order) ≤ total_limit
  with-low i a order h = omega (arith, with_bound i (drop a order), length-drop a order)

-- the costs of a table are low, either way and in the cheaper of two orders
pub low-in : (costs : List ℕ) → PairCosts costs → (i j : ℕ) → cost_in costs i j < cost_limit
low-in costs t i j = t.low (i * max_row_points + j)

pub low-cheaper : (costs : List ℕ) → PairCosts costs → (i j : ℕ) → cheaper (cost_in costs) i j < cost_limit
low-cheaper costs t i j = omega (arith, min-le_left (cost_in costs i j) (cost_in costs j i), t.low (i * max_row_points + j))

pub total-bound : (order costs : List ℕ) → RowPoints order → PairCosts costs → cost_of (cost_in costs) order ≤ total_limit
total-bound order costs p t = rest-low (cost_in costs) (low-in costs t) 0 order p.few

pub rest-bound : (order costs : List ℕ) (a : ℕ) → RowPoints order → PairCosts costs → cost_of (cost_in costs) (drop a order) ≤ total_limit
rest-bound order costs a p t = rest-low (cost_in costs) (low-in costs t) a order p.few

-- the points behind a place are few too
pub rest-points : (order : List ℕ) (a : ℕ) → RowPoints order → RowPoints (drop a order)
rest-points order a p = record {
  few = omega (arith, p.few, length-drop a order);
  points = λ i h. rw (get_or-drop a order i 0) (p.points (a + i) (omega (arith, length-drop a order)));
}

-- ---- one point with those on its right

-- The sum so far and the cost with the points from place b on make the whole.
pub record Adding (cost : ℕ → ℕ → ℕ) (x : ℕ) (right : List ℕ) (sum b : ℕ) : Type 0 where
  pub within : b ≤ length right
  pub whole : sum + cost_with cost x (drop b right) ≡ cost_with cost x right

pub adding_start : (cost : ℕ → ℕ → ℕ) (x : ℕ) (right : List ℕ) → Adding cost x right 0 0
adding_start cost x right = record { within = omega arith; whole = omega arith }

module _ (cost : ℕ → ℕ → ℕ) (x : ℕ) (right : List ℕ) (sum b : ℕ) (s : Adding cost x right sum b) where
  pub adding-more : (v : ℕ) → b < length right → v ≡ cost x (get_or right b 0) → Adding cost x right (sum + v) (b + 1)
  adding-more v h e =
      let t : cost_with cost x (drop b right) ≡ cost x (get_or right b 0) + cost_with cost x (drop (b + 1) right) =
      rw (drop-cons right b 0 h, add-one b) (with-cons cost x (get_or right b 0) (drop (suc b) right)) in
      record { within = omega arith; whole = omega (arith, s.whole, t) }

  pub adding-room : length right ≤ max_row_points → ((i j : ℕ) → cost i j < cost_limit) → sum ≤ total_limit
  adding-room few low = omega (arith, s.whole, with-low cost low x 0 right few)

  pub adding-end : length right ≤ b → sum ≡ cost_with cost x right
  adding-end h =
      let e : cost_with cost x (drop b right) ≡ 0 = rw (drop_of_length-le right {i = b} h) (with_none cost x) in
      omega (arith, s.whole, e)

-- ---- all points of a row

-- The sum so far and the cost of the points from place i on make the whole.
pub record Totalling (cost : ℕ → ℕ → ℕ) (row : List ℕ) (sum i : ℕ) : Type 0 where
  pub within : i ≤ length row
  pub whole : sum + cost_of cost (drop i row) ≡ cost_of cost row

pub totalling_start : (cost : ℕ → ℕ → ℕ) (row : List ℕ) → Totalling cost row 0 0
totalling_start cost row = record { within = omega arith; whole = omega arith }

module _ (cost : ℕ → ℕ → ℕ) (row : List ℕ) (sum i : ℕ) (s : Totalling cost row sum i) where
  pub totalling-more : (v : ℕ) → i < length row → v ≡ cost_with cost (get_or row i 0) (drop (i + 1) row) → Totalling cost row (sum + v) (i + 1)
  totalling-more v h e =
      let t : cost_of cost (drop i row) ≡ cost_with cost (get_or row i 0) (drop (i + 1) row) + cost_of cost (drop (i + 1) row) =
      rw (drop-cons row i 0 h, add-one i) (of_cons cost (get_or row i 0) (drop (suc i) row)) in
      record { within = omega arith; whole = omega (arith, s.whole, t) }

  pub totalling-room : length row ≤ max_row_points → ((i j : ℕ) → cost i j < cost_limit) → sum ≤ total_limit
  totalling-room few low = omega (arith, s.whole, rest-low cost low 0 row few)

  pub totalling-end : length row ≤ i → sum ≡ cost_of cost row
  totalling-end h =
      let e : cost_of cost (drop i row) ≡ 0 = rw (drop_of_length-le row {i = i} h) (of_none cost) in
      omega (arith, s.whole, e)
