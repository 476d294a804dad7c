-- How far the entries of a list are below a top, and how many marks are not set, after a store.
use mathlib.Core.Path.{◌≡◌, sym, ap, subst, ◌∙◌}
use mathlib.Core.Bool.{Bool, true, false, cond}
use mathlib.Core.List.{List, [], ◌∷◌}
use Prim.Native.Nat.{ℕ, zero, suc, ◌+◌, ◌-◌, ◌≤◌, ◌<◌}
use native.Mathlib.Nat.{not-suc-le-zero, le_of_suc-le-suc}
use native.Mathlib.Omega.{arith}
use native.Mathlib.Decide.{ℕ_discrete}
use lib.ListN.{length, get_or, set}
use lib.Seq.{get_or-set_same, get_or-set_other}
use Rattle.graph.specs.Rows.{at}

-- how far the entries are below top, added up
unfoldable pub room : ℕ → List ℕ → ℕ
room top [] = 0
room top (x ∷ xs) = (top - x) + room top xs

pub room-set : (top : ℕ) (xs : List ℕ) (t x : ℕ) → t < length xs → at xs t < x → x ≤ top → room top (set xs t x) < room top xs
unfolding room
room-set top [] t x h up le = absurd (not-suc-le-zero h)
room-set top (y ∷ xs) zero x h up le = omega arith
room-set top (y ∷ xs) (suc t) x h up le = omega (arith, room-set top xs t x (le_of_suc-le-suc h) up le)

-- how many marks are not set
unfoldable pub unmarked : List Bool → ℕ
unmarked [] = 0
unmarked (x ∷ xs) = cond x 0 1 + unmarked xs

pub unmarked-set : (xs : List Bool) (t : ℕ) → t < length xs → get_or xs t false ≡ false → unmarked (set xs t true) < unmarked xs
unfolding unmarked
unmarked-set [] t h e = absurd (not-suc-le-zero h)
unmarked-set (x ∷ xs) zero h e = rw e (omega arith)
unmarked-set (x ∷ xs) (suc t) h e = omega (arith, unmarked-set xs t (le_of_suc-le-suc h) e)

-- what holds of a mark that is set at its place, and of the old one elsewhere
pub mark_cases : (P : Bool → Type 0) (xs : List Bool) (t i : ℕ) → t < length xs → (t ≡ i → P true) → ((i ≡ t → ⊥) → P (get_or xs i false)) → P (get_or (set xs t true) i false)
mark_cases P xs t i h same other = go (ℕ_discrete i t)
  where
    go : Dec (i ≡ t) → P (get_or (set xs t true) i false)
    go (yes e) = subst P (sym (ap (λ (k : ℕ). get_or (set xs t true) k false) e ∙ get_or-set_same xs t true false h)) (same (sym e))
    go (no ne) = subst P (sym (get_or-set_other xs t i true false ne)) (other ne)
