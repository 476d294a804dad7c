-- Positions in the rows are spaced x, so some x are: the network is one that the solver takes.
use mathlib.Core.Path.{◌≡◌, sym, ap, ◌∙◌}
use mathlib.Core.Bool.{Bool, true, false, cond}
use mathlib.Core.List.{List, [], ◌∷◌, map, flatten}
use Prim.Native.Nat.{ℕ, zero, suc, ◌+◌, ◌≤◌, ◌<◌}
use native.Mathlib.Nat.{not-suc-le-zero, le_of_suc-le-suc, add-zero, zero-add}
use native.Mathlib.Omega.{arith}
use lib.Dec.{eqb}
use lib.ListN.{length, length-append, length-map}
use Rattle.graph.specs.Rows.{at}
use Rattle.graph.specs.Search.{run}
use Rattle.buffers.proofs.RunLaws.{run_length}
use Rattle.points.specs.Positions.{position, place}
use Rattle.points.proofs.PositionLaws.{position_at}
use Rattle.spacing.specs.Coordinates.{row_in, Spaced}
use Rattle.spacing.specs.Flat.{Ordered}

position-low : (p : ℕ) (l : List ℕ) → position p l ≤ length l
unfolding position
position-low p [] = omega arith
position-low p (q ∷ l) = go (eqb p q) (position-low p l)
  where
    go : (t : Bool) → position p l ≤ length l → cond t 0 (suc (position p l)) ≤ suc (length l)
    go true h = omega arith
    go false h = omega arith

row-short : (o : List (List ℕ)) (r : ℕ) → length (row_in o r) ≤ length (flatten o)
unfolding flatten
row-short [] r = omega arith
row-short (l ∷ o) zero = omega (arith, length-append l (flatten o))
row-short (l ∷ o) (suc r) = omega (arith, length-append l (flatten o), row-short o r)

-- values of a function in a list
at-run : (f : ℕ → ℕ) (a k i : ℕ) → i < k → at (map f (run a k)) i ≡ f (a + i)
unfolding run
at-run f a zero i h = absurd (not-suc-le-zero h)
at-run f a (suc k) zero h = ap f (sym (add-zero a))
at-run f a (suc k) (suc i) h = at-run f (suc a) k i (le_of_suc-le-suc h) ∙ ap f shift
  where
    shift : suc a + i ≡ a + suc i
    shift = omega arith

run-low : (f : ℕ → ℕ) (b a k i : ℕ) → ((p : ℕ) → f p ≤ b) → at (map f (run a k)) i ≤ b
unfolding run
run-low f b a zero i h = omega arith
run-low f b a (suc k) zero h = h a
run-low f b a (suc k) (suc i) h = run-low f b (suc a) k i h

-- the position of each point in its own row
pub seats : List (List ℕ) → List ℕ → ℕ → List ℕ
seats o row n = map (place row o) (run 0 n)

module _ (o : List (List ℕ)) (row order : List ℕ) (h : Ordered o row order) where
  pub seats-long : length (seats o row (length order)) ≡ length order
  unfolding seats
  seats-long = length-map (run 0 (length order)) (place row o) ∙ run_length 0 (length order)

  pub seats-low : (p : ℕ) → at (seats o row (length order)) p ≤ length order
  unfolding seats place
  seats-low p =
      run-low (place row o) (length order) 0 (length order) p
      (λ q. omega (arith, position-low q (row_in o (at row q)), row-short o (at row q), ap length h.flat))

  seat-at : (r i : ℕ) → r < length o → i < length (row_in o r) → at (seats o row (length order)) (at (row_in o r) i) ≡ i
  unfolding seats place
  seat-at r i b k =
      at-run (place row o) 0 (length order) (at (row_in o r) i) (h.points_in r i b k)
      ∙ ap (place row o) (zero-add (at (row_in o r) i))
      ∙ ap (λ (s : ℕ). position (at (row_in o r) i) (row_in o s)) (h.rows r i b k)
      ∙ position_at (row_in o r) i k (h.once r i b k)

  -- A point's right neighbour has the next position in the same row.
  pub seats-spaced : Spaced o (at (seats o row (length order)))
  seats-spaced = record { apart = λ r i b k. omega (arith, seat-at r i b (omega arith), seat-at r (suc i) b k) }
