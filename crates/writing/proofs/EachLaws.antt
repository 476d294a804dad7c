-- Items written one behind the other: what holds of reading one back, and of the bytes of one, holds of all of them.
use mathlib.Core.Path.{◌≡◌, refl, ap, subst}
use mathlib.Core.List.{List, [], ◌∷◌, ◌++◌, map}
use Prim.Native.Nat.{ℕ, zero, suc, ◌+◌, ◌≤◌}
use native.Mathlib.Omega.{arith}
use lib.ListN.{length, length-append}
use Rattle.table.specs.Number.{Read, got, and_then, many}
use Rattle.table.proofs.InverseLaws.{came, got-value, got-place}
use Rattle.encoding.specs.Shortest.{each}
use Rattle.writing.specs.Sayable.{All, nothing, also}
use Rattle.writing.proofs.StandsLaws.{Stands, stands-first, stands-then}

-- reading gives a value that says b, and ends at place p
pub record Back {A B : Type 0} (say : A → B) (x : Read A) (b : B) (p : ℕ) : Type 0 where
  pub value : A
  pub reads : x ≡ got value p
  pub says : say value ≡ b

module _ {A B : Type 0} (item : ℕ → Read A) (say : A → B) (write : B → List ℕ) (P : B → Type 0) where
  -- an item that is written is read back
  pub many-back : (s : List ℕ) → ((at : ℕ) (b : B) → P b → Stands s at (write b) → Back say (item at) b (at + length (write b)))
      → (at : ℕ) (l : List B) → All P l → Stands s at (each write l) → Back (map say) (many item (length l) at) l (at + length (each write l))
  unfolding many each
  many-back s back at [] nothing h = record { value = []; reads = let e : at ≡ at + 0 = omega arith in ap (got []) e; says = refl }
  many-back s back at (b ∷ l) (also g gs) h =
      let one = back at b g (stands-first (write b) (each write l) h) in
      let rest = many-back s back (at + length (write b)) l gs (stands-then (write b) (each write l) h) in
      let e : at + length (write b) + length (each write l) ≡ at + length (write b ++ each write l) = omega (arith, length-append (write b) (each write l)) in
      record {
        value = one.value ∷ rest.value;
        reads = rw (one.reads, rest.reads) (ap (got (one.value ∷ rest.value)) e);
        says = rw (one.says, rest.says);
      }

  -- an item that was read has the property, and takes no fewer bytes than it has when written
  pub many-short : ((at : ℕ) (a : A) (p : ℕ) → item at ≡ got a p → P (say a) × (at + length (write (say a)) ≤ p))
      → (k at : ℕ) {l : List A} {p : ℕ} → many item k at ≡ got l p → All P (map say l) × (at + length (each write (map say l)) ≤ p)
  unfolding many each
  many-short short zero at {l} {p} e =
      subst (λ l. All P (map say l) × (at + length (each write (map say l)) ≤ p)) (got-value e) (nothing, omega (arith, got-place e))
  many-short short (suc k) at {l} {p} e =
      let one = came (item at) (λ a p. and_then (many item k p) (λ l e. got (a ∷ l) e)) e in
      let rest = came (many item k one.place) (λ l e. got (one.value ∷ l) e) one.next in
      let a = short at one.value one.place one.first in
      let b = many-short short k one.place rest.first in
      subst (λ l. All P (map say l) × (at + length (each write (map say l)) ≤ p)) (got-value rest.next)
      (also a.0 b.0, omega (arith, a.1, b.1, got-place rest.next, length-append (write (say one.value)) (each write (map say rest.value))))
