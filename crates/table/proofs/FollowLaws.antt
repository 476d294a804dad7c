-- Two readings of the same bytes, of which the second takes more: what the first got the second gets too, and where the first met a
-- fault that is not excused the second meets the same.
use mathlib.Core.Path.{◌≡◌, refl, sym, ap, subst, ◌∙◌}
use mathlib.Core.Bool.{Bool, true, false, cond}
use Prim.Native.Nat.{ℕ, zero, suc}
use native.Mathlib.Omega.{arith}
use Rattle.outcome.specs.declared.Refusal.{Refusal}
use Rattle.outcome.specs.Refusal.{done, refused}
use Rattle.table.specs.Number.{Read, got, fault, and_then, judge, many}
use Rattle.table.specs.Table.{outcome}

module _ (excused : Refusal → Type 0) where
  abbrev pub Follows : {A : Type 0} → Read A → Read A → Type 0
  Follows (got a p) y = y ≡ got a p
  Follows (fault r) y = (excused r → ⊥) → y ≡ fault r

  pub follows_same : {A : Type 0} (x : Read A) → Follows x x
  follows_same (got a p) = refl
  follows_same (fault r) = λ _. refl

  pub follows_then : {A B : Type 0} (x y : Read A) (f g : A → ℕ → Read B) → Follows x y → ((a : A) (p : ℕ) → Follows (f a p) (g a p))
      → Follows (and_then x f) (and_then y g)
  follows_then (got a p) y f g h k = subst (λ z. Follows (f a p) (and_then z g)) (sym h) (k a p)
  follows_then (fault r) y f g h k = λ n. ap (λ z. and_then z g) (h n)

  -- both read the same, and go on from there
  pub follows_on : {A B : Type 0} (x : Read A) (f g : A → ℕ → Read B) → ((a : A) (p : ℕ) → Follows (f a p) (g a p)) → Follows (and_then x f) (and_then x g)
  follows_on x f g k = follows_then x x f g (follows_same x) k

  pub follows-cond : {A : Type 0} (t : Bool) (x y z w : Read A) → Follows x z → Follows y w → Follows (cond t x y) (cond t z w)
  follows-cond true x y z w h k = h
  follows-cond false x y z w h k = k

  pub follows-judge : {A : Type 0} (t : Bool) (r : Refusal) (x y : Read A) → Follows x y → Follows (judge t r x) (judge t r y)
  follows-judge true r x y h = h
  follows-judge false r x y h = λ _. refl

  -- the second's test takes more, and the refusal of what it does not take is excused
  pub follows-more : {A : Type 0} (t u : Bool) (r : Refusal) (x : Read A) → excused r → (t ≡ true → u ≡ true) → Follows (judge t r x) (judge u r x)
  follows-more true u r x e h = rw (h refl) (follows_same x)
  follows-more false u r x e h = λ n. absurd (n e)

  pub follows-many : {A : Type 0} (f g : ℕ → Read A) → ((at : ℕ) → Follows (f at) (g at)) → (k at : ℕ) → Follows (many f k at) (many g k at)
  unfolding many
  follows-many f g h zero at = refl
  follows-many f g h (suc k) at =
      follows_then (f at) (g at) _ _ (h at) (λ a p. follows_then (many f k p) (many g k p) _ _ (follows-many f g h k p) (λ l e. refl))

  -- and so for the whole
  pub follows-done : {A : Type 0} (x y : Read A) {a : A} → Follows x y → outcome x ≡ done a → outcome y ≡ done a
  follows-done (got b p) y h e = ap outcome h ∙ e
  follows-done (fault r) y h e = let z : ◌≡◌ {A = ℕ} 0 1 = cc in absurd (omega arith)

  pub follows-refused : {A : Type 0} (x y : Read A) {r : Refusal} → Follows x y → outcome x ≡ refused r → (excused r → ⊥) → outcome y ≡ refused r
  follows-refused (got b p) y h e n = let z : ◌≡◌ {A = ℕ} 0 1 = cc in absurd (omega arith)
  follows-refused (fault q) y {r} h e n = let s : q ≡ r = cc in ap outcome (h (subst (λ x. excused x → ⊥) (sym s) n)) ∙ e
