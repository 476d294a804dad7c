-- Positions by point: those of a row stored, and the places of an order after a row of it has changed.
use mathlib.Core.Path.{◌≡◌, refl, ◌∙◌}
use mathlib.Core.Logic.{◌≢◌}
use mathlib.Core.Bool.{Bool, true, false, cond}
use mathlib.Core.List.{List, [], ◌∷◌}
use Prim.Native.Nat.{ℕ, suc, ◌+◌, ◌≤◌, ◌<◌}
use native.Mathlib.Decide.{ℕ_discrete}
use native.Mathlib.Numerals.{add-one}
use native.Mathlib.Omega.{arith}
use lib.Dec.{eqb}
use lib.ListN.{length, get_or, set, drop, length-set, drop_of_length-le}
use lib.Seq.{get_or-set_same, get_or-set_other, drop-cons}
use borrow.Author.Tests.{eqb-true, eqb-false}
use Rattle.graph.specs.Rows.{at}
use Rattle.points.specs.Positions.{position, place}
use Rattle.buffers.specs.Lists.{occurs}
use Rattle.passes.specs.Laid.{stored}

-- ---- storing

pub stored-length : (i : ℕ) (row pos : List ℕ) → length (stored i row pos) ≡ length pos
unfolding stored
stored-length i [] pos = refl
stored-length i (p ∷ row) pos = stored-length (suc i) row (set pos p i) ∙ length-set pos p i

-- a point that does not stand in the row keeps its number
pub stored_other : (i : ℕ) (row pos : List ℕ) (p : ℕ) → occurs p row ≡ 0 → at (stored i row pos) p ≡ at pos p
unfolding stored occurs
stored_other i [] pos p e = refl
stored_other i (q ∷ row) pos p e = go (eqb p q) refl e (stored_other (suc i) row (set pos q i) p)
  where
    go : (t : Bool) → eqb p q ≡ t → cond t 1 0 + occurs p row ≡ 0
        → (occurs p row ≡ 0 → at (stored (suc i) row (set pos q i)) p ≡ at (set pos q i) p) → at (stored (suc i) row (set pos q i)) p ≡ at pos p
    go true f z ih = absurd (omega arith)
    go false f z ih = ih (omega arith) ∙ get_or-set_other pos q p i 0 (eqb-false p q f)

-- a point that stands there once gets its position, counted from i on: it is stored there, and by no later point
pub stored-own : (i : ℕ) (row pos : List ℕ) (p : ℕ) → p < length pos → occurs p row ≡ 1 → at (stored i row pos) p ≡ i + position p row
unfolding stored occurs position
stored-own i [] pos p l e = absurd (omega arith)
stored-own i (q ∷ row) pos p l e = go (eqb p q) refl e (stored-own (suc i) row (set pos q i) p (omega (arith, length-set pos q i)))
  where
    go : (t : Bool) → eqb p q ≡ t → cond t 1 0 + occurs p row ≡ 1
        → (occurs p row ≡ 1 → at (stored (suc i) row (set pos q i)) p ≡ suc i + position p row)
        → at (stored (suc i) row (set pos q i)) p ≡ i + cond t 0 (suc (position p row))
    go true f z ih =
        let same : p ≡ q = eqb-true p q f in
        let here : at (set pos q i) p ≡ i = rw same (get_or-set_same pos q i 0 (rw same at l)) in
        omega (arith, stored_other (suc i) row (set pos q i) p (omega arith))
    go false f z ih = ih (omega arith) ∙ omega arith

-- A row is being stored: what is left to store, from the point at i on, gives the whole.
pub record Storing (row pos₀ : List ℕ) (i : ℕ) (pos : List ℕ) : Type 0 where
  pub long : length pos ≡ length pos₀
  pub rest : stored i (drop i row) pos ≡ stored 0 row pos₀

module _ {row pos₀ : List ℕ} where
  pub storing-start : Storing row pos₀ 0 pos₀
  storing-start = record { long = refl; rest = refl }

  pub storing-turn : {i : ℕ} {pos : List ℕ} → Storing row pos₀ i pos → i < length row → Storing row pos₀ (i + 1) (set pos (at row i) i)
  unfolding stored
  storing-turn {i} {pos} s l = record {
    long = length-set pos (at row i) i ∙ s.long;
    rest = rw add-one (rw (drop-cons row i 0 l) at s.rest);
  }

  pub storing-end : {i : ℕ} {pos : List ℕ} → Storing row pos₀ i pos → length row ≤ i → pos ≡ stored 0 row pos₀
  unfolding stored
  storing-end {i} {pos} s l = rw (drop_of_length-le row {i = i} l) at s.rest

-- ---- places

-- A row changed: the points of other rows keep their places, and the points of this one have those of the new row.
pub place_set : (pos pos' ys : List ℕ) (o : List (List ℕ)) (r : ℕ) (now : List ℕ) → r < length o
    → ((p : ℕ) → p < length ys → at pos p ≡ place ys o p)
    → ((p : ℕ) → p < length ys → at ys p ≢ r → at pos' p ≡ at pos p)
    → ((p : ℕ) → p < length ys → at ys p ≡ r → at pos' p ≡ position p now)
    → (p : ℕ) → p < length ys → at pos' p ≡ place ys (set o r now) p
unfolding place
place_set pos pos' ys o r now b h others mine p l = go (ℕ_discrete (at ys p) r)
  where
    go : Dec (at ys p ≡ r) → at pos' p ≡ position p (get_or (set o r now) (at ys p) [])
    go (yes e) = rw (e, get_or-set_same o r now [] b) (mine p l e)
    go (no d) = rw (get_or-set_other o r (at ys p) now [] d) (others p l d ∙ h p l)
