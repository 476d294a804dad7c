-- Edges lent as a list of numbers: how many there are, and which stands where.
use mathlib.Core.Path.{◌≡◌, refl, ap, ◌∙◌}
use mathlib.Core.List.{List, [], ◌∷◌}
use Prim.Native.Nat.{ℕ, zero, suc, ◌+◌, ◌*◌, ◌/◌, ◌≤◌, ◌<◌}
use native.Mathlib.Nat.{not-suc-le-zero, le_of_suc-le-suc}
use native.Mathlib.Omega.{arith}
use lib.ListN.{length, get_or}
use Rattle.graph.specs.Rows.{at, no_edge}
use Rattle.flatten.specs.Records.{records_of}
use Rattle.flatten.proofs.FlattenLaws.{edge}

pub records-length : (l : List ℕ) → length (records_of l) ≡ length l / 4
unfolding records_of
records-length [] = refl
records-length (f ∷ []) = refl
records-length (f ∷ t ∷ []) = refl
records-length (f ∷ t ∷ g ∷ []) = refl
records-length (f ∷ t ∷ g ∷ w ∷ l) = omega (arith, records-length l)

pub record-inside : (l : List ℕ) (i : ℕ) → i < length (records_of l) → i * 4 + 4 ≤ length l
record-inside l i h = omega (arith, records-length l)

pub record_is : (l : List ℕ) (i : ℕ) → i < length (records_of l)
    → edge (at l (i * 4)) (at l (i * 4 + 1)) (at l (i * 4 + 2)) (at l (i * 4 + 3)) ≡ get_or (records_of l) i no_edge
unfolding records_of
record_is [] i h = absurd (not-suc-le-zero h)
record_is (f ∷ []) i h = absurd (not-suc-le-zero h)
record_is (f ∷ t ∷ []) i h = absurd (not-suc-le-zero h)
record_is (f ∷ t ∷ g ∷ []) i h = absurd (not-suc-le-zero h)
record_is (f ∷ t ∷ g ∷ w ∷ l) zero h = refl
record_is (f ∷ t ∷ g ∷ w ∷ l) (suc i) h = four past-none (past 1) (past 2) (past 3) ∙ record_is l i (le_of_suc-le-suc h)
  where
    past-none : at (f ∷ t ∷ g ∷ w ∷ l) (suc i * 4) ≡ at l (i * 4)
    past-none = let e : suc i * 4 ≡ suc (suc (suc (suc (i * 4)))) = omega arith in ap (at (f ∷ t ∷ g ∷ w ∷ l)) e

    past : (k : ℕ) → at (f ∷ t ∷ g ∷ w ∷ l) (suc i * 4 + k) ≡ at l (i * 4 + k)
    past k = let e : suc i * 4 + k ≡ suc (suc (suc (suc (i * 4 + k)))) = omega arith in ap (at (f ∷ t ∷ g ∷ w ∷ l)) e

    four : {a b c d p q r s : ℕ} → a ≡ p → b ≡ q → c ≡ r → d ≡ s → edge a b c d ≡ edge p q r s
    four x y z u = rw (x, y, z, u)
