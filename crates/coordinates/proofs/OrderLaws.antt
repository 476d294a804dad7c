-- The order of a chart is one that x are found for: each point stands once in it, in its own row.
use mathlib.Core.Path.{◌≡◌, refl, ap, ◌∙◌}
use mathlib.Core.Bool.{Bool, true, false, cond}
use mathlib.Core.List.{List, flatten}
use Prim.Native.Nat.{ℕ, ◌<◌}
use native.Mathlib.Omega.{arith}
use lib.Dec.{eqb}
use lib.ListN.{length}
use borrow.Author.Tests.{eqb-true}
use Rattle.graph.specs.declared.Edge.{Edge}
use Rattle.graph.specs.Rows.{at}
use Rattle.buffers.specs.Lists.{occurs}
use Rattle.buffers.proofs.OccursLaws.{at-occurs, row_below}
use Rattle.points.specs.Points.{point_rows}
use Rattle.fewest.specs.Fewest.{drawing_of}
use Rattle.fewest.proofs.CompleteLaws.{drawing-once, drawing-none, drawing-count}
use Rattle.spacing.specs.Coordinates.{row_in}
use Rattle.spacing.specs.Flat.{Ordered}

module _ (ys : List ℕ) (edges : List Edge) where
  abbrev o : List (List ℕ)
  o = (drawing_of ys edges).order

  point_at : (r i : ℕ) → i < length (row_in o r) → at (row_in o r) i < length (point_rows ys edges)
  point_at r i h = row_below (length (point_rows ys edges)) (row_in o r) (λ p k. drawing-none ys edges p r k) i h

  -- a point that stands in a row is of that row, and stands there once
  stands : (r i : ℕ) → i < length (row_in o r) → (at (point_rows ys edges) (at (row_in o r) i) ≡ r) × (occurs (at (row_in o r) i) (row_in o r) ≡ 1)
  stands r i h = go (eqb (at (point_rows ys edges) p) r) refl (drawing-once ys edges p r (point_at r i h))
    where
      p : ℕ
      p = at (row_in o r) i

      go : (t : Bool) → eqb (at (point_rows ys edges) p) r ≡ t → occurs p (row_in o r) ≡ cond (eqb (at (point_rows ys edges) p) r) 1 0
          → (at (point_rows ys edges) p ≡ r) × (occurs p (row_in o r) ≡ 1)
      go true e k = (eqb-true (at (point_rows ys edges) p) r e, k ∙ ap {B = ℕ} (λ (b : Bool). cond b 1 0) e)
      go false e k = absurd (omega (arith, k, ap {B = ℕ} (λ (b : Bool). cond b 1 0) e, at-occurs (row_in o r) i h))

  pub drawing-ordered : Ordered o (point_rows ys edges) (flatten o)
  drawing-ordered =
      record {
        flat = refl;
        rows = λ r i b h. (stands r i h).0;
        points_in = λ r i b h. omega (arith, point_at r i h, drawing-count ys edges);
        once = λ r i b h. (stands r i h).1;
      }
