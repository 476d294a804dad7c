-- Reading on from what was read, case by case. Each law takes the equation that decides the case, so that a proof hands it over
-- and nothing has to rewrite a whole goal.
use mathlib.Core.Path.{◌≡◌, sym, ap, ◌∙◌}
use mathlib.Core.Bool.{Bool, true, false, ◌&&◌, cond}
use Prim.Native.Nat.{ℕ}
use Rattle.outcome.specs.declared.Refusal.{Refusal}
use Rattle.table.specs.Number.{Read, got, fault, and_then, judge}

module _ {A B : Type 0} {x : Read A} (f : A → ℕ → Read B) where
  pub then-fault : {r : Refusal} → x ≡ fault r → fault r ≡ and_then x f
  then-fault e = sym (ap (λ z. and_then z f) e)

  pub then-got : {a : A} {p : ℕ} {y : Read B} → x ≡ got a p → y ≡ f a p → y ≡ and_then x f
  then-got e h = h ∙ sym (ap (λ z. and_then z f) e)

module _ {A : Type 0} {t : Bool} (r : Refusal) (x : Read A) where
  pub judge-no : t ≡ false → fault r ≡ judge t r x
  judge-no e = sym (ap (λ b. judge b r x) e)

  pub judge-yes : t ≡ true → x ≡ judge t r x
  judge-yes e = sym (ap (λ b. judge b r x) e)

module _ {A : Type 0} {t : Bool} (x y : A) where
  pub cond_yes : t ≡ true → x ≡ cond t x y
  cond_yes e = sym (ap (λ b. cond b x y) e)

  pub cond_no : t ≡ false → y ≡ cond t x y
  cond_no e = sym (ap (λ b. cond b x y) e)

-- both tests hold, the first fails, the second fails
module _ {a : Bool} where
  pub and_yes : {b : Bool} → a ≡ true → b ≡ true → (a && b) ≡ true
  and_yes {b} e h = ap (λ c. c && b) e ∙ h

  pub and_no : (b : Bool) → a ≡ false → (a && b) ≡ false
  and_no b e = ap (λ c. c && b) e

  pub and-not : {b : Bool} → a ≡ true → b ≡ false → (a && b) ≡ false
  and-not {b} e h = ap (λ c. c && b) e ∙ h
