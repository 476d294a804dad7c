-- The position of a point in a row: where it stands, and where alone it stands.
use mathlib.Core.Path.{◌≡◌, refl, sym}
use mathlib.Core.Bool.{Bool, true, false, cond}
use mathlib.Core.List.{List, [], ◌∷◌}
use Prim.Native.Nat.{ℕ, zero, suc, ◌+◌, ◌<◌}
use native.Mathlib.Nat.{not-suc-le-zero, le_of_suc-le-suc}
use native.Mathlib.Omega.{arith}
use borrow.Author.Tests.{eq-eqb, eqb-true}
use lib.Dec.{eqb}
use lib.ListN.{length}
use Rattle.graph.specs.Rows.{at}
use Rattle.buffers.specs.Lists.{occurs}
use Rattle.buffers.proofs.OccursLaws.{at-occurs}
use Rattle.points.specs.Positions.{position}

-- a point that stands in a row has a position in it, and stands there
pub position_in : (p : ℕ) (l : List ℕ) → 0 < occurs p l → position p l < length l
unfolding position occurs
position_in p [] h = absurd (omega arith)
position_in p (q ∷ l) h = go (eqb p q) h (position_in p l)
  where
    go : (t : Bool) → 0 < cond t 1 0 + occurs p l → (0 < occurs p l → position p l < length l) → cond t 0 (suc (position p l)) < suc (length l)
    go true a b = omega arith
    go false a b = omega (arith, b (omega arith))

pub position-finds : (p : ℕ) (l : List ℕ) → 0 < occurs p l → at l (position p l) ≡ p
unfolding position occurs
position-finds p [] h = absurd (omega arith)
position-finds p (q ∷ l) h = go (eqb p q) refl h (position-finds p l)
  where
    go : (t : Bool) → eqb p q ≡ t → 0 < cond t 1 0 + occurs p l → (0 < occurs p l → at l (position p l) ≡ p) → at (q ∷ l) (cond t 0 (suc (position p l))) ≡ p
    go true e a b = sym (eqb-true p q e)
    go false e a b = b (omega arith)

-- one that stands there once has the position at which it is met
pub position_at : (l : List ℕ) (i : ℕ) → i < length l → occurs (at l i) l ≡ 1 → position (at l i) l ≡ i
unfolding position occurs
position_at [] i h e = absurd (not-suc-le-zero h)
position_at (q ∷ l) zero h e = rw (eq-eqb q q refl)
position_at (q ∷ l) (suc i) h e = go (eqb (at l i) q) e (at-occurs l i (le_of_suc-le-suc h)) (position_at l i (le_of_suc-le-suc h))
  where
    go : (t : Bool) → cond t 1 0 + occurs (at l i) l ≡ 1 → 0 < occurs (at l i) l → (occurs (at l i) l ≡ 1 → position (at l i) l ≡ i)
        → cond t 0 (suc (position (at l i) l)) ≡ suc i
    go true a b next = absurd (omega arith)
    go false a b next = omega (arith, next (omega arith))
