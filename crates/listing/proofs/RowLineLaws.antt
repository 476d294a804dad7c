-- The lines of the rows, as the code comes to them: it goes through the points one behind the other and ends a line where the row does.
use mathlib.Core.Path.{◌≡◌, refl, sym, ap, ◌∙◌}
use mathlib.Core.Bool.{Bool, true, false, cond}
use mathlib.Core.List.{List, [], ◌∷◌, ◌++◌, map, flatten}
use Prim.Native.Nat.{ℕ, zero, suc, ◌+◌, ◌≤◌, ◌<◌, suc-le-suc}
use native.Mathlib.Nat.{not-suc-le-zero, zero-lt-suc}
use native.Mathlib.Omega.{arith}
use borrow.Author.Tests.{eq-eqb, ne_eqb, eqb-true, ltb-true, ltb-false}
use lib.Dec.{ltb, eqb}
use lib.ListN.{length, get_or}
use lib.Seq.{drop-append_seam}
use Rattle.graph.specs.declared.Edge.{Edge}
use Rattle.graph.specs.Rows.{at}
use Rattle.points.specs.Points.{point_rows, row_count}
use Rattle.fewest.specs.Fewest.{drawing_of}
use Rattle.buffers.specs.Lists.{occurs}
use Rattle.buffers.proofs.OccursLaws.{at-occurs}
use Rattle.fewest.proofs.CompleteLaws.{drawing-rows, drawing-once, drawing-none}
use Rattle.labels.specs.Text.{decimal}
use Rattle.lines.specs.Lines.{line}
use Rattle.listing.specs.Listing.{row_lines}
use Rattle.lines.specs.Printing.{leading, line_in, lines_from}

-- ---- rows one behind the other

-- the points in front are the row, where no point of row r comes next
leading-row : (ys : List ℕ) (r : ℕ) (row rest : List ℕ) → ((i : ℕ) → i < length row → at ys (at row i) ≡ r)
    → (0 < length rest → r < at ys (at rest 0)) → leading ys r (row ++ rest) ≡ row
unfolding leading
leading-row ys r [] [] h n = refl
leading-row ys r [] (p ∷ rest) h n = rw (ne_eqb (at ys p) r (λ e. omega (arith, n (zero-lt-suc (length rest)))))
leading-row ys r (p ∷ row) rest h n =
    rw (eq-eqb (at ys p) r (h zero (zero-lt-suc (length row))))
    (ap {B = List ℕ} (λ l. p ∷ l) (leading-row ys r row rest (λ i l. h (suc i) (suc-le-suc l)) n))

-- of rows from r on the first point is in none before
next_row : (ys : List ℕ) (r : ℕ) (o : List (List ℕ)) → ((j i : ℕ) → i < length (get_or o j []) → at ys (at (get_or o j []) i) ≡ r + j)
    → 0 < length (flatten o) → r ≤ at ys (at (flatten o) 0)
unfolding flatten
next_row ys r [] h l = absurd (not-suc-le-zero l)
next_row ys r ([] ∷ o) h l = omega (arith, next_row ys (suc r) o (λ j i b. omega (arith, h (suc j) i b)) l)
next_row ys r ((p ∷ row) ∷ o) h l = omega (arith, h zero zero (zero-lt-suc (length row)))

-- If every point of list j stands in row r + j, the lines found on the way through are those of the lists: the points in front that
-- stand in row r are the first list, since what follows stands lower.
pub lines_are : (show : ℕ → List ℕ) (ys : List ℕ) (r : ℕ) (o : List (List ℕ))
    → ((j i : ℕ) → i < length (get_or o j []) → at ys (at (get_or o j []) i) ≡ r + j)
    → lines_from show ys r (length o) (flatten o) ≡ row_lines show r o
unfolding lines_from line_in row_lines flatten
lines_are show ys r [] h = refl
lines_are show ys r (row ∷ o) h =
    let more : (j i : ℕ) → i < length (get_or o j []) → at ys (at (get_or o j []) i) ≡ suc r + j = λ j i b. omega (arith, h (suc j) i b) in
    let first = leading-row ys r row (flatten o) (λ i b. omega (arith, h zero i b)) (next_row ys (suc r) o more) in
    rw (first, drop-append_seam row (flatten o)) (ap (λ l. line (decimal r) (map show row) ++ l) (lines_are show ys (suc r) o more))

-- ---- the rows of a drawing

module _ (ys : List ℕ) (edges : List Edge) where
  abbrev order-of : List (List ℕ)
  order-of = (drawing_of ys edges).order

  -- what stands in list r is a point, and its row is r
  stands_in_row : (r i : ℕ) → i < length (get_or order-of r []) → at (point_rows ys edges) (at (get_or order-of r []) i) ≡ r
  stands_in_row r i h = go (ltb (at (get_or order-of r []) i) (length (point_rows ys edges))) refl
    where
      there : 0 < occurs (at (get_or order-of r []) i) (get_or order-of r [])
      there = at-occurs (get_or order-of r []) i h

      row_is : (b : Bool) → eqb (at (point_rows ys edges) (at (get_or order-of r []) i)) r ≡ b
          → occurs (at (get_or order-of r []) i) (get_or order-of r []) ≡ cond b 1 0 → at (point_rows ys edges) (at (get_or order-of r []) i) ≡ r
      row_is true e w = eqb-true _ r e
      row_is false e w = absurd (omega (arith, there))

      go : (b : Bool) → ltb (at (get_or order-of r []) i) (length (point_rows ys edges)) ≡ b → at (point_rows ys edges) (at (get_or order-of r []) i) ≡ r
      go true e = row_is _ refl (drawing-once ys edges (at (get_or order-of r []) i) r (ltb-true _ _ e))
      go false e = absurd (omega (arith, there, drawing-none ys edges (at (get_or order-of r []) i) r (ltb-false _ _ e)))

pub drawing-lines : (show : ℕ → List ℕ) (ys : List ℕ) (edges : List Edge)
    → lines_from show (point_rows ys edges) 0 (row_count ys) (flatten (drawing_of ys edges).order) ≡ row_lines show 0 (drawing_of ys edges).order
drawing-lines show ys edges =
    ap (λ k. lines_from show (point_rows ys edges) 0 k (flatten (drawing_of ys edges).order)) (sym (drawing-rows ys edges))
    ∙ lines_are show (point_rows ys edges) 0 (drawing_of ys edges).order (λ j i h. omega (arith, stands_in_row ys edges j i h))
