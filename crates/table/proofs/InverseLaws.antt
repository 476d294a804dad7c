-- From what was read back to how it was read: each part of a whole that was read was read itself, and its tests held.
use mathlib.Core.Path.{◌≡◌, refl, sym, ap, subst, ◌∙◌}
use mathlib.Core.Bool.{Bool, true, false, ◌&&◌}
use mathlib.Core.List.{List, ◌∷◌}
use Prim.Native.Nat.{ℕ, zero, suc, ◌+◌, ◌*◌, ◌≤◌, ◌<◌}
use native.Mathlib.Nat.{not-suc-le-zero, le_of_suc-le-suc}
use native.Mathlib.Omega.{arith}
use lib.ListN.{length, get_or}
use Rattle.outcome.specs.declared.Refusal.{Refusal}
use Rattle.table.specs.Number.{Read, got, fault, and_then, judge, many}

pub never : {X : Type 0} {A : Type 0} {r : Refusal} {a : A} {p : ℕ} → fault r ≡ got a p → X
never e = let z : ◌≡◌ {A = ℕ} 0 1 = cc in absurd (omega arith)

-- what was read first, and what came of it
pub record Came {A B : Type 0} (x : Read A) (f : A → ℕ → Read B) (b : B) (e : ℕ) : Type 0 where
  pub value : A
  pub place : ℕ
  pub first : x ≡ got value place
  pub next : f value place ≡ got b e

pub came : {A B : Type 0} (x : Read A) (f : A → ℕ → Read B) {b : B} {e : ℕ} → and_then x f ≡ got b e → Came x f b e
came (got a p) f h = record { value = a; place = p; first = refl; next = h }
came (fault r) f h = never h

-- a test that was passed
pub passed : {A : Type 0} (t : Bool) (r : Refusal) (x : Read A) {a : A} {p : ℕ} → judge t r x ≡ got a p → (t ≡ true) × (x ≡ got a p)
passed true r x h = (refl, h)
passed false r x h = never h

pub both : (a b : Bool) → (a && b) ≡ true → (a ≡ true) × (b ≡ true)
both true true e = (refl, refl)
both true false e = (refl, e)
both false b e = (e, let z : ◌≡◌ {A = ℕ} 0 1 = go e in absurd (omega arith))
  where
    go : false ≡ true → ◌≡◌ {A = ℕ} 0 1
    go e = cc

pub got-value : {A : Type 0} {a b : A} {p q : ℕ} → got a p ≡ got b q → a ≡ b
got-value e = cc

pub got-place : {A : Type 0} {a b : A} {p q : ℕ} → got a p ≡ got b q → p ≡ q
got-place e = cc

-- ---- many items

module _ {A : Type 0} (item : ℕ → Read A) where
  pub many-length : (k at : ℕ) {l : List A} {e : ℕ} → many item k at ≡ got l e → length l ≡ k
  unfolding many
  many-length zero at h = ap length (sym (got-value h))
  many-length (suc k) at h =
      let one = came (item at) (λ a p. and_then (many item k p) (λ l e. got (a ∷ l) e)) h in
      let rest = came (many item k one.place) (λ l e. got (one.value ∷ l) e) one.next in
      ap length (sym (got-value rest.next)) ∙ ap suc (many-length k one.place rest.first)

  -- what holds of every item holds of each of them
  pub many-each : (P : A → Type 0) (none : A) → ((at : ℕ) (a : A) (p : ℕ) → item at ≡ got a p → P a)
      → (k at : ℕ) {l : List A} {e : ℕ} → many item k at ≡ got l e → (i : ℕ) → i < length l → P (get_or l i none)
  unfolding many
  many-each P none each zero at h i b = absurd (not-suc-le-zero (subst (λ l. i < length l) (sym (got-value h)) b))
  many-each P none each (suc k) at {l} h i b =
      let one = came (item at) (λ a p. and_then (many item k p) (λ l e. got (a ∷ l) e)) h in
      let rest = came (many item k one.place) (λ l e. got (one.value ∷ l) e) one.next in
      subst (λ m. P (get_or m i none)) (got-value rest.next)
      (go i one.value rest.value (each at one.value one.place one.first)
      (many-each P none each k one.place rest.first) (subst (λ m. i < length m) (sym (got-value rest.next)) b))
    where
      go : (j : ℕ) (a : A) (m : List A) → P a → ((j : ℕ) → j < length m → P (get_or m j none)) → j < suc (length m) → P (get_or (a ∷ m) j none)
      go zero a m p q c = p
      go (suc j) a m p q c = q j (le_of_suc-le-suc c)

  -- items of at most w bytes each
  pub many-width : (w : ℕ) → ((at : ℕ) (a : A) (p : ℕ) → item at ≡ got a p → p ≤ at + w)
      → (k at : ℕ) {l : List A} {e : ℕ} → many item k at ≡ got l e → e ≤ at + k * w
  unfolding many
  many-width w each zero at h = omega (arith, got-place h)
  many-width w each (suc k) at h =
      let one = came (item at) (λ a p. and_then (many item k p) (λ l e. got (a ∷ l) e)) h in
      let rest = came (many item k one.place) (λ l e. got (one.value ∷ l) e) one.next in
      omega (arith, got-place rest.next, each at one.value one.place one.first, many-width w each k one.place rest.first)
