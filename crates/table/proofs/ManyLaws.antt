-- Items read one behind the other: the whole is what was read and then what is left, so that a loop may stop at the first fault.
use mathlib.Core.Path.{◌≡◌, refl, ap, ◌∙◌}
use mathlib.Core.List.{List, [], ◌∷◌, ◌++◌, append-nil}
use Prim.Native.Nat.{ℕ, zero, suc, ◌+◌, ◌-◌, ◌≤◌, ◌<◌}
use native.Mathlib.Nat.{not-suc-le-zero}
use native.Mathlib.Numerals.{sub-one}
use native.Mathlib.Omega.{arith}
use lib.ListN.{length}
use Rattle.outcome.specs.declared.Refusal.{Refusal}
use Rattle.table.specs.Number.{Read, got, fault, and_then, many, counted}

-- items that were read, before what is still to come
abbrev pub before : {A : Type 0} → List A → Read (List A) → Read (List A)
before l (got m p) = got (l ++ m) p
before l (fault r) = fault r

-- so many items more
abbrev pub after : ℕ → Read ℕ → Read ℕ
after i (got n p) = got (i + n) p
after i (fault r) = fault r

module _ {A : Type 0} (item : ℕ → Read A) where
  many_more : (left at : ℕ) → 0 < left → many item left at ≡ and_then (item at) (λ a p. and_then (many item (left - 1) p) (λ l e. got (a ∷ l) e))
  unfolding many
  many_more zero at h = absurd (not-suc-le-zero h)
  many_more (suc k) at h = rw (sub-one (suc k))

  many-none : (left at : ℕ) → left ≤ 0 → many item left at ≡ got [] at
  unfolding many
  many-none zero at h = refl
  many-none (suc k) at h = absurd (not-suc-le-zero h)

  -- ---- a loop that keeps the items in a list

  pub kept-start : (count at : ℕ) → many item count at ≡ before [] (many item (count - 0) at)
  kept-start count at = let e : count ≡ count - 0 = omega arith in ap (λ k. many item k at) e ∙ go (many item (count - 0) at)
    where
      go : (r : Read (List A)) → r ≡ before [] r
      go (got m p) = refl
      go (fault r) = refl

  module _ (whole : Read (List A)) (count i p : ℕ) (l : List A) (old : whole ≡ before l (many item (count - i) p)) where
    pub kept_next : (a : A) (q : ℕ) → i < count → item p ≡ got a q → whole ≡ before (l ++ a ∷ []) (many item (count - (i + 1)) q)
    kept_next a q h e =
        let r : count - i - 1 ≡ count - (i + 1) = omega arith in
        rw (old, many_more (count - i) p (omega arith), e, r) (go (many item (count - (i + 1)) q))
      where
        snoc : (x y : List A) → x ++ a ∷ y ≡ (x ++ a ∷ []) ++ y
        snoc [] y = refl
        snoc (b ∷ x) y = ap (λ m. b ∷ m) (snoc x y)

        go : (r : Read (List A)) → before l (and_then r (λ m e. got (a ∷ m) e)) ≡ before (l ++ a ∷ []) r
        go (got m e) = ap (λ n. got n e) (snoc l m)
        go (fault r) = refl

    pub kept-fault : (r : Refusal) → i < count → item p ≡ fault r → whole ≡ fault r
    kept-fault r h e = rw (old, many_more (count - i) p (omega arith), e)

    pub kept-end : count ≤ i → whole ≡ got l p
    kept-end h = rw (old, many-none (count - i) p (omega arith)) (ap (λ m. got m p) (append-nil l))

  -- ---- a loop that counts them

  pub counted_start : (count at : ℕ) → counted (many item count at) ≡ after 0 (counted (many item (count - 0) at))
  counted_start count at = let e : count ≡ count - 0 = omega arith in ap (λ k. counted (many item k at)) e ∙ go (counted (many item (count - 0) at))
    where
      go : (r : Read ℕ) → r ≡ after 0 r
      go (got m p) = let e : m ≡ 0 + m = omega arith in ap (λ k. got k p) e
      go (fault r) = refl

  module _ (whole : Read ℕ) (count i p : ℕ) (old : whole ≡ after i (counted (many item (count - i) p))) where
    pub counted_next : (a : A) (q : ℕ) → i < count → item p ≡ got a q → whole ≡ after (i + 1) (counted (many item (count - (i + 1)) q))
    counted_next a q h e =
        let r : count - i - 1 ≡ count - (i + 1) = omega arith in
        rw (old, many_more (count - i) p (omega arith), e, r) (go (many item (count - (i + 1)) q))
      where
        go : (r : Read (List A)) → after i (counted (and_then r (λ m e. got (a ∷ m) e))) ≡ after (i + 1) (counted r)
        go (got m e) = let k : i + suc (length m) ≡ i + 1 + length m = omega arith in ap (λ n. got n e) k
        go (fault r) = refl

    pub counted-fault : (r : Refusal) → i < count → item p ≡ fault r → whole ≡ fault r
    counted-fault r h e = rw (old, many_more (count - i) p (omega arith), e)

    pub counted-end : i ≡ count → whole ≡ got count p
    counted-end h =
        let k : i + 0 ≡ count = omega arith in
        rw (old, many-none (count - i) p (omega arith)) (ap (λ n. got n p) k)
