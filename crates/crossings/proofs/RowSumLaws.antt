-- The crossings of a chart, row by row: the whole count is the sum of the counts between neighbouring rows.
use mathlib.Core.Path.{◌≡◌, refl, sym, ap, ◌∙◌}
use mathlib.Core.Bool.{Bool, true, false, cond}
use mathlib.Core.List.{List, [], ◌∷◌, map}
use Prim.Native.Nat.{ℕ, zero, suc, ◌+◌, ◌<◌}
use native.Mathlib.Nat.{zero-add}
use native.Mathlib.Omega.{arith}
use borrow.Author.Tests.{eq-eqb, ne_eqb, eqb-false}
use lib.Dec.{eqb}
use lib.ListN.{length, get_or, get_or-map, length-map}
use Rattle.graph.specs.Rows.{at}
use Rattle.graph.specs.Search.{run}
use Rattle.buffers.proofs.SumLaws.{sum-but-one}
use Rattle.points.specs.Points.{Segment}
use Rattle.buffers.specs.Lists.{sum}
use Rattle.crossings.specs.Crossings.{PlacedSegment, placed, cross, crossings_with, crossing_pairs, crossings, in_row, crossings_between}
use Rattle.crossings.proofs.CrossingsLaws.{cross-apart}

-- A segment crosses as many of its own row as of all: those of other rows it cannot cross.
with-in_row : (s : PlacedSegment) (l : List PlacedSegment) → crossings_with s (in_row s.row l) ≡ crossings_with s l
unfolding crossings_with in_row
with-in_row s [] = refl
with-in_row s (t ∷ l) = go (eqb t.row s.row) refl (with-in_row s l)
  where
    go : (b : Bool) → eqb t.row s.row ≡ b → crossings_with s (in_row s.row l) ≡ crossings_with s l
        → crossings_with s (cond b (t ∷ in_row s.row l) (in_row s.row l)) ≡ cond (cross s t) 1 0 + crossings_with s l
    go true e h = ap (λ (n : ℕ). cond (cross s t) 1 0 + n) h
    go false e h =
        h ∙ sym (zero-add (crossings_with s l))
        ∙ ap (λ (b : Bool). cond b 1 0 + crossings_with s l) (cross-apart s t (λ q. eqb-false t.row s.row e (sym q)))

sum-none : (a k : ℕ) → sum (map (λ (r : ℕ). crossing_pairs (in_row r [])) (run a k)) ≡ 0
unfolding sum run crossing_pairs in_row
sum-none a zero = refl
sum-none a (suc k) = zero-add _ ∙ sum-none (suc a) k

-- one segment more, in its own row, and in another
own_row : (s : PlacedSegment) (l : List PlacedSegment) → crossing_pairs (in_row s.row (s ∷ l)) ≡ crossings_with s l + crossing_pairs (in_row s.row l)
unfolding crossing_pairs in_row
own_row s l =
    ap (λ (b : Bool). crossing_pairs (cond b (s ∷ in_row s.row l) (in_row s.row l))) (eq-eqb s.row s.row refl)
    ∙ ap (λ (n : ℕ). n + crossing_pairs (in_row s.row l)) (with-in_row s l)

other_row : (s : PlacedSegment) (l : List PlacedSegment) (q : ℕ) → (q ≡ s.row → ⊥) → crossing_pairs (in_row q (s ∷ l)) ≡ crossing_pairs (in_row q l)
unfolding in_row
other_row s l q h = ap (λ (b : Bool). crossing_pairs (cond b (s ∷ in_row q l) (in_row q l))) (ne_eqb s.row q (λ e. h (sym e)))

-- Both sides count pairs by their first segment: to the count of its own row the first segment adds those of that row that it crosses,
-- which are all that it crosses, and to the count of any other row nothing.
pub pairs-by-row : (none : PlacedSegment) (count : ℕ) (l : List PlacedSegment) → ((i : ℕ) → i < length l → (get_or l i none).row < count)
    → crossing_pairs l ≡ sum (map (λ (r : ℕ). crossing_pairs (in_row r l)) (run 0 count))
unfolding crossing_pairs
pairs-by-row none count [] low = sym (sum-none 0 count)
pairs-by-row none count (s ∷ l) low =
    ap (λ (n : ℕ). crossings_with s l + n) (pairs-by-row none count l (λ i h. low (suc i) (omega arith)))
    ∙ sym (sum-but-one (λ (r : ℕ). crossing_pairs (in_row r (s ∷ l))) (λ (r : ℕ). crossing_pairs (in_row r l)) (crossings_with s l) s.row 0 count
    (own_row s l) (other_row s l) (omega arith) (omega (arith, low 0 (omega arith))))

-- The chart's count is that between row 0 and row 1, between row 1 and row 2, and so on, where no upper end is below the last row.
pub crossings-by-row : (ys : List ℕ) (segs : List Segment) (order : List (List ℕ)) (count : ℕ) (none : Segment)
    → ((i : ℕ) → i < length segs → at ys (get_or segs i none).upper < count)
    → crossings ys segs order ≡ sum (map (crossings_between ys segs order) (run 0 count))
unfolding crossings crossings_between
crossings-by-row ys segs order count none low =
    pairs-by-row (placed ys order none) count (map (placed ys order) segs)
    (λ i h. rw (get_or-map (placed ys order) segs i none) (low i (simp length-map at h)))
