-- The lists of a row's points hold the segments of that row, in another order.
use mathlib.Core.Path.{◌≡◌, refl, sym, ap, ◌∙◌}
use mathlib.Core.Bool.{Bool, true, false, cond}
use mathlib.Core.List.{List, [], ◌∷◌, map}
use Prim.Native.Nat.{ℕ, zero, suc, ◌+◌, ◌≤◌, ◌<◌}
use native.Mathlib.Decide.{ℕ_discrete}
use native.Mathlib.Omega.{arith}
use borrow.Author.Tests.{eq-eqb, ne_eqb, eqb-true}
use lib.Dec.{eqb}
use lib.ListN.{length}
use Rattle.graph.specs.Rows.{at}
use Rattle.graph.specs.Search.{run}
use Rattle.buffers.specs.Lists.{sum, Below}
use Rattle.buffers.proofs.SumLaws.{sum-last}
use Rattle.points.specs.Lists.{listed, segments_at, Linked}
use Rattle.crossings.specs.Crossings.{PlacedSegment, crossing_pairs, in_row}
use Rattle.crossings.specs.Between.{low_of, lows, segment_to, placed_from, groups, CrossingsOf}
use Rattle.crossings.specs.Placing.{placed_at, placed_by, RowOf}
use Rattle.crossings.proofs.SameLaws.{how_many, Same, count-append, pairs-same}

-- ---- sums over numbers

-- a number for each entry of a list, added up
abbrev sum_over : (ℕ → ℕ) → List ℕ → ℕ
sum_over g l = sum (map g l)

-- a number for each k below n
unfoldable up_to : (ℕ → ℕ) → ℕ → ℕ
up_to g zero = 0
up_to g (suc k) = g k + up_to g k

run-up_to : (g : ℕ → ℕ) (n : ℕ) → sum_over g (run 0 n) ≡ up_to g n
unfolding sum run up_to
run-up_to g zero = refl
run-up_to g (suc n) = let e : 0 + n ≡ n = omega arith in omega (arith, sum-last g 0 n, run-up_to g n, ap g e)

up_to-alike : (g h : ℕ → ℕ) (n : ℕ) → ((k : ℕ) → k < n → g k ≡ h k) → up_to g n ≡ up_to h n
unfolding up_to
up_to-alike g h zero e = refl
up_to-alike g h (suc n) e = omega (arith, e n (omega arith), up_to-alike g h n (λ k l. e k (omega arith)))

up_to-none : (n : ℕ) → up_to (λ k. 0) n ≡ 0
unfolding up_to
up_to-none zero = refl
up_to-none (suc n) = omega (arith, up_to-none n)

up_to-add : (g h : ℕ → ℕ) (n : ℕ) → up_to (λ k. g k + h k) n ≡ up_to g n + up_to h n
unfolding up_to
up_to-add g h zero = refl
up_to-add g h (suc n) = omega (arith, up_to-add g h n)

-- two sums exchanged
exchange : (h : ℕ → ℕ → ℕ) (n : ℕ) (l : List ℕ) → sum_over (λ p. up_to (h p) n) l ≡ up_to (λ k. sum_over (λ p. h p k) l) n
unfolding sum
exchange h n [] = sym (up_to-none n)
exchange h n (p ∷ l) = omega (arith, exchange h n l, up_to-add (h p) (λ k. sum_over (λ q. h q k) l) n)

-- ---- a point among the points of a row

-- q stands nowhere in the list
nowhere : (q b : ℕ) (l : List ℕ) → ((i : ℕ) → i < length l → at l i ≡ q → ⊥) → sum_over (λ p. cond (eqb q p) b 0) l ≡ 0
unfolding sum
nowhere q b [] d = refl
nowhere q b (p ∷ l) d =
    omega (arith, nowhere q b l (λ i h. d (suc i) (omega arith)), ap {B = ℕ} (λ (t : Bool). cond t b 0) (ne_eqb q p (λ e. d 0 (omega arith) (sym e))))

-- q stands at index i and nowhere else
once : (q b : ℕ) (l : List ℕ) (i : ℕ) → i < length l → at l i ≡ q → ((j : ℕ) → j < length l → at l j ≡ q → j ≡ i)
    → sum_over (λ p. cond (eqb q p) b 0) l ≡ b
unfolding sum
once q b [] i h e only = absurd (omega arith)
once q b (p ∷ l) zero h e only =
    omega (arith, ap {B = ℕ} (λ (t : Bool). cond t b 0) (eq-eqb q p (sym e)), nowhere q b l (λ j a r. absurd (omega (arith, only (suc j) (omega arith) r))))
once q b (p ∷ l) (suc i) h e only =
    omega (
      arith,
      ap {B = ℕ} (λ (t : Bool). cond t b 0) (ne_eqb q p (λ r. absurd (omega (arith, only 0 (omega arith) (sym r))))),
      once q b l i (omega arith) e (λ j a r. omega (arith, only (suc j) (omega arith) r)),
    )

-- a point is one of the row's where its row is r, and then once
row-once : {n : ℕ} {row pos points : List ℕ} {r : ℕ} → RowOf n row pos r points → (q b : ℕ) → q < n
    → sum_over (λ p. cond (eqb q p) b 0) points ≡ cond (eqb (at row q) r) b 0
row-once {n} {row} {pos} {points} {r} h q b l = go (ℕ_discrete (at row q) r)
  where
    go : Dec (at row q ≡ r) → sum_over (λ p. cond (eqb q p) b 0) points ≡ cond (eqb (at row q) r) b 0
    go (yes e) =
        once q b points (at pos q) (h.none_past q l e) (h.found q l e) (λ j a w. sym (h.stands j a) ∙ ap (at pos) w)
        ∙ sym (ap {B = ℕ} (λ (t : Bool). cond t b 0) (eq-eqb (at row q) r e))
    go (no d) =
        nowhere q b points (λ i a w. d (sym (ap (at row) w) ∙ h.stands_in_row i a))
        ∙ sym (ap {B = ℕ} (λ (t : Bool). cond t b 0) (ne_eqb (at row q) r d))

-- ---- the segments of the points, and those of the row

module _ (upper lower row pos : List ℕ) (f : PlacedSegment → Bool) where
  -- the list of one point, at position i of row r
  point-count : (r i p n : ℕ) → at row p ≡ r → at pos p ≡ i
      → how_many f (map (segment_to r i) (map (low_of lower pos) (segments_at upper p n))) ≡ up_to (λ k. cond (eqb (at upper k) p) (cond (f (placed_at upper lower row pos k)) 1 0) 0) n
  unfolding how_many segments_at up_to
  point-count r i p zero a b = refl
  point-count r i p (suc k) a b = go (eqb (at upper k) p) refl (point-count r i p k a b)
    where
      go : (t : Bool) → eqb (at upper k) p ≡ t
          → how_many f (map (segment_to r i) (map (low_of lower pos) (segments_at upper p k))) ≡ up_to (λ j. cond (eqb (at upper j) p) (cond (f (placed_at upper lower row pos j)) 1 0) 0) k
          → how_many f (map (segment_to r i) (map (low_of lower pos) (cond t (k ∷ segments_at upper p k) (segments_at upper p k))))
          ≡ cond t (cond (f (placed_at upper lower row pos k)) 1 0) 0 + up_to (λ j. cond (eqb (at upper j) p) (cond (f (placed_at upper lower row pos j)) 1 0) 0) k
      go true e h =
          let q : at upper k ≡ p = eqb-true (at upper k) p e in
          omega (
            arith,
            h,
            ap {B = ℕ} (λ (x : ℕ). cond (f (record { row = x; upper = i; lower = low_of lower pos k })) 1 0) (sym a ∙ sym (ap (at row) q)),
            ap {B = ℕ} (λ (x : ℕ). cond (f (record { row = at row (at upper k); upper = x; lower = low_of lower pos k })) 1 0) (sym b ∙ sym (ap (at pos) q)),
          )
      go false e h = omega (arith, h)

  -- the lists of points that stand from position i on
  points-count : {head next : List ℕ} (r : ℕ) → Linked upper head next → (i : ℕ) (points : List ℕ)
      → ((j : ℕ) → j < length points → at points j < length head) → ((j : ℕ) → j < length points → at row (at points j) ≡ r)
      → ((j : ℕ) → j < length points → at pos (at points j) ≡ i + j)
      → how_many f (placed_from r i (groups lower pos next head points))
      ≡ sum_over (λ p. up_to (λ k. cond (eqb (at upper k) p) (cond (f (placed_at upper lower row pos k)) 1 0) 0) (length upper)) points
  unfolding placed_from groups sum lows how_many
  points-count r l i [] b e s = refl
  points-count {head} {next} r l i (p ∷ points) b e s =
      let stands : at pos p ≡ i = omega (arith, s 0 (omega arith)) in
      omega (
        arith,
        point-count r i p (length upper) (e 0 (omega arith)) stands,
        count-append f (map (segment_to r i) (map (low_of lower pos) (listed next (at head p)))) (placed_from r (suc i) (groups lower pos next head points)),
        ap (λ (ks : List ℕ). how_many f (map (segment_to r i) (map (low_of lower pos) ks))) (l.lists p (b 0 (omega arith))),
        points-count r l (suc i) points (λ j h. b (suc j) (omega arith)) (λ j h. e (suc j) (omega arith)) (λ j h. omega (arith, s (suc j) (omega arith))),
      )

  -- the segments of the row
  row_count : (r : ℕ) (l : List ℕ) → how_many f (in_row r (map (placed_at upper lower row pos) l))
      ≡ sum_over (λ k. cond (eqb (at row (at upper k)) r) (cond (f (placed_at upper lower row pos k)) 1 0) 0) l
  unfolding how_many in_row sum
  row_count r [] = refl
  row_count r (k ∷ l) = go (eqb (at row (at upper k)) r) (row_count r l)
    where
      go : (t : Bool) → how_many f (in_row r (map (placed_at upper lower row pos) l)) ≡ sum_over (λ j. cond (eqb (at row (at upper j)) r) (cond (f (placed_at upper lower row pos j)) 1 0) 0) l
          → how_many f (cond t (placed_at upper lower row pos k ∷ in_row r (map (placed_at upper lower row pos) l)) (in_row r (map (placed_at upper lower row pos) l)))
          ≡ cond t (cond (f (placed_at upper lower row pos k)) 1 0) 0 + sum_over (λ j. cond (eqb (at row (at upper j)) r) (cond (f (placed_at upper lower row pos j)) 1 0) 0) l
      go true h = omega (arith, h)
      go false h = omega (arith, h)

-- Any test passes as often in both: summed over the row's points and their lists, or over all segments, of which each counts where
-- its upper end is one of the row's points; and that it is once where it is of row r.
pub row_same : {upper head next : List ℕ} (lower : List ℕ) {row pos points : List ℕ} {n r : ℕ} → Linked upper head next → n ≤ length head → Below n upper
    → RowOf n row pos r points → Same (placed_from r 0 (groups lower pos next head points)) (in_row r (placed_by upper lower row pos))
unfolding placed_by
row_same {upper} {head} {next} lower {row} {pos} {points} {n} {r} l few b h = record {
  each = λ f.
      points-count upper lower row pos f r l 0 points (λ j a. omega (arith, h.below j a)) h.stands_in_row (λ j a. omega (arith, h.stands j a))
      ∙ exchange (λ p k. cond (eqb (at upper k) p) (cond (f (placed_at upper lower row pos k)) 1 0) 0) (length upper) points
      ∙ up_to-alike (λ k. sum_over (λ p. cond (eqb (at upper k) p) (cond (f (placed_at upper lower row pos k)) 1 0) 0) points)
      (λ k. cond (eqb (at row (at upper k)) r) (cond (f (placed_at upper lower row pos k)) 1 0) 0) (length upper)
      (λ k a. row-once h (at upper k) (cond (f (placed_at upper lower row pos k)) 1 0) (b.below k a))
      ∙ sym (run-up_to (λ k. cond (eqb (at row (at upper k)) r) (cond (f (placed_at upper lower row pos k)) 1 0) 0) (length upper))
      ∙ sym (row_count upper lower row pos f r (run 0 (length upper)));
}

-- So a row's count is that of its segments, whatever their order.
pub row-pairs : {upper head next : List ℕ} (lower : List ℕ) {row pos points : List ℕ} {n r x : ℕ} → Linked upper head next → n ≤ length head → Below n upper
    → RowOf n row pos r points → CrossingsOf x (groups lower pos next head points) → x ≡ crossing_pairs (in_row r (placed_by upper lower row pos))
row-pairs lower {r = r} l few b h c = c.counted r ∙ pairs-same (row_same lower l few b h)
