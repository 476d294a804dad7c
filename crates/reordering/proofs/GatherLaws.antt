-- The points of a row, gathered from a flat order.
use mathlib.Core.Path.{◌≡◌, refl, sym, ap, ◌∙◌}
use mathlib.Core.Bool.{Bool, true, false, cond}
use mathlib.Core.List.{List, [], ◌∷◌, ◌++◌, append_assoc, append-nil}
use Prim.Native.Nat.{ℕ, suc, ◌+◌, ◌≤◌, ◌<◌}
use native.Mathlib.Omega.{arith}
use lib.Dec.{eqb}
use lib.ListN.{length, drop, length-append}
use borrow.Author.Tests.{eq-eqb, ne_eqb}
use Rattle.graph.specs.Rows.{at}
use Rattle.buffers.proofs.WriteLaws.{drop-turn, drop-end}
use Rattle.reordering.specs.Stacked.{points_of}

-- ---- one point

points-turn : (row : List ℕ) (r p : ℕ) (order : List ℕ) → points_of row r (p ∷ order) ≡ points_of row r (p ∷ []) ++ points_of row r order
unfolding points_of
points-turn row r p order = go (eqb (at row p) r)
  where
    go : (b : Bool) → cond b (p ∷ points_of row r order) (points_of row r order) ≡ cond b (p ∷ []) [] ++ points_of row r order
    go true = refl
    go false = refl

pub point-in : (row : List ℕ) (r p : ℕ) → at row p ≡ r → points_of row r (p ∷ []) ≡ p ∷ []
unfolding points_of
point-in row r p e = rw (eq-eqb (at row p) r e) refl

pub point-out : (row : List ℕ) (r p : ℕ) → (at row p ≡ r → ⊥) → points_of row r (p ∷ []) ≡ []
unfolding points_of
point-out row r p n = rw (ne_eqb (at row p) r n) refl

-- ---- the loop

-- What is gathered and the points of the row from entry i on make the whole.
pub record Gathering (row order : List ℕ) (r : ℕ) (points : List ℕ) (i : ℕ) : Type 0 where
  pub early : length points ≤ i
  pub whole : points_of row r order ≡ points ++ points_of row r (drop i order)

pub gathered-few : (row : List ℕ) (r : ℕ) (order : List ℕ) → length (points_of row r order) ≤ length order
unfolding points_of
gathered-few row r [] = omega arith
gathered-few row r (p ∷ order) = go (eqb (at row p) r) (gathered-few row r order)
  where
    go : (b : Bool) → length (points_of row r order) ≤ length order → length (cond b (p ∷ points_of row r order) (points_of row r order)) ≤ suc (length order)
    go true h = omega arith
    go false h = omega arith

pub gathering-start : (row order : List ℕ) (r : ℕ) → Gathering row order r [] 0
gathering-start row order r = record { early = omega arith; whole = refl }

module _ (row order : List ℕ) (r : ℕ) (points : List ℕ) (i : ℕ) (g : Gathering row order r points i) where
  gathering-turn : i < length order → points_of row r (drop i order) ≡ points_of row r (at order i ∷ []) ++ points_of row r (drop (i + 1) order)
  gathering-turn h = ap (points_of row r) (drop-turn order i h) ∙ points-turn row r (at order i) (drop (i + 1) order)

  pub gathering_in : i < length order → at row (at order i) ≡ r → Gathering row order r (points ++ (at order i ∷ [])) (i + 1)
  gathering_in h e = record {
    early = omega (arith, g.early, length-append points (at order i ∷ []));
    whole = g.whole ∙ ap (λ (l : List ℕ). points ++ l) (gathering-turn h ∙ ap (λ (l : List ℕ). l ++ points_of row r (drop (i + 1) order)) (point-in row r (at order i) e))
        ∙ sym (append_assoc points (at order i ∷ []) (points_of row r (drop (i + 1) order)));
  }

  pub gathering-out : i < length order → (at row (at order i) ≡ r → ⊥) → Gathering row order r points (i + 1)
  gathering-out h n = record {
    early = omega (arith, g.early);
    whole = g.whole ∙ ap (λ (l : List ℕ). points ++ l) (gathering-turn h ∙ ap (λ (l : List ℕ). l ++ points_of row r (drop (i + 1) order)) (point-out row r (at order i) n));
  }

  pub gathering-end : length order ≤ i → points ≡ points_of row r order
  unfolding points_of
  gathering-end h = sym (g.whole ∙ ap (λ (l : List ℕ). points ++ points_of row r l) (drop-end order i h) ∙ append-nil points)
