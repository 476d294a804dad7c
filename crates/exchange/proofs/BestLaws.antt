-- The first with fewest of some orders, whatever counts them.
use mathlib.Core.Path.{◌≡◌, refl, sym, ap, ◌∙◌, subst}
use mathlib.Core.Bool.{Bool, true, false, cond}
use mathlib.Core.List.{List, [], ◌∷◌, map}
use Prim.Native.Nat.{ℕ, zero, suc, ◌≤◌, ◌<◌}
use native.Mathlib.Omega.{arith}
use lib.Dec.{ltb}
use lib.ListN.{length, get_or}
use borrow.Author.Tests.{ltb-true, ltb-false}
use Rattle.exchange.specs.Best.{fewest_by, first_fewest}

-- The order p is the first with fewest of the orders ps: it is one of them, none has fewer, and each before it has more.
pub record IsFirstFewest (count : List ℕ → ℕ) (ps : List (List ℕ)) (p : List ℕ) : Type 0 where
  pub which : ℕ
  pub inside : which < length ps
  pub one : p ≡ get_or ps which []
  pub least : (i : ℕ) → i < length ps → count p ≤ count (get_or ps i [])
  pub first : (i : ℕ) → i < which → count p < count (get_or ps i [])

module _ (count : List ℕ → ℕ) where
  -- one order more in front: it has more than the best of the others, which stays the first
  first-after : {p : List ℕ} {ps : List (List ℕ)} (a : List ℕ) → IsFirstFewest count ps p → count p < count a → IsFirstFewest count (a ∷ ps) p
  first-after {p} {ps} a h l = record { which = suc h.which; inside = omega (arith, h.inside); one = h.one; least = least; first = first }
    where
      least : (i : ℕ) → i < suc (length ps) → count p ≤ count (get_or (a ∷ ps) i [])
      least zero g = omega arith
      least (suc i) g = h.least i (omega arith)

      first : (i : ℕ) → i < suc h.which → count p < count (get_or (a ∷ ps) i [])
      first zero g = l
      first (suc i) g = h.first i (omega arith)

  -- one more behind the first that is no better than it: the first with fewest is the same
  first-beside : {p b : List ℕ} {ps : List (List ℕ)} (a : List ℕ) → IsFirstFewest count (b ∷ ps) p → count b ≤ count a → IsFirstFewest count (b ∷ a ∷ ps) p
  first-beside {p} {b} {ps} a h l = go h.which refl
    where
      least : (i : ℕ) → i < suc (suc (length ps)) → count p ≤ count (get_or (b ∷ a ∷ ps) i [])
      least zero g = h.least 0 (omega arith)
      least (suc zero) g = omega (arith, h.least 0 (omega arith))
      least (suc (suc i)) g = h.least (suc i) (omega arith)

      go : (w : ℕ) → w ≡ h.which → IsFirstFewest count (b ∷ a ∷ ps) p
      go zero e = record { which = 0; inside = omega arith; one = h.one ∙ ap (λ (k : ℕ). get_or (b ∷ ps) k []) (sym e); least = least; first = λ i g. absurd (omega arith) }
      go (suc w) e = record { which = suc (suc w); inside = omega (arith, h.inside); one = h.one ∙ ap (λ (k : ℕ). get_or (b ∷ ps) k []) (sym e); least = least; first = first }
        where
          first : (i : ℕ) → i < suc (suc w) → count p < count (get_or (b ∷ a ∷ ps) i [])
          first zero g = h.first 0 (omega arith)
          first (suc zero) g = omega (arith, h.first 0 (omega arith))
          first (suc (suc i)) g = h.first (suc i) (omega arith)

  -- `fewest_by` hands out the first with fewest: of b and p the one that is kept stands for both.
  pub first-fewest : (b : List ℕ) (ps : List (List ℕ)) → IsFirstFewest count (b ∷ ps) (fewest_by count b ps)
  unfolding fewest_by
  first-fewest b [] = record { which = 0; inside = omega arith; one = refl; least = least; first = λ i g. absurd (omega arith) }
    where
      least : (i : ℕ) → i < 1 → count b ≤ count (get_or (b ∷ []) i [])
      least zero g = omega arith
      least (suc i) g = absurd (omega arith)
  first-fewest b (p ∷ ps) = go (ltb (count p) (count b)) refl (first-fewest p ps) (first-fewest b ps)
    where
      go : (t : Bool) → ltb (count p) (count b) ≡ t → IsFirstFewest count (p ∷ ps) (fewest_by count p ps) → IsFirstFewest count (b ∷ ps) (fewest_by count b ps)
          → IsFirstFewest count (b ∷ p ∷ ps) (fewest_by count (cond t p b) ps)
      go true e better same = first-after b better (omega (arith, better.least 0 (omega arith), ltb-true (count p) (count b) e))
      go false e better same = first-beside p same (ltb-false _ _ e)

  -- Of more orders that begin alike the first with fewest has no more.
  pub more-no-worse : {ps qs : List (List ℕ)} {p q : List ℕ} → length ps ≤ length qs → ((i : ℕ) → i < length ps → get_or ps i [] ≡ get_or qs i [])
      → IsFirstFewest count ps p → IsFirstFewest count qs q → count q ≤ count p
  more-no-worse {ps} {qs} {p} {q} l same h g =
      let e : p ≡ get_or qs h.which [] = h.one ∙ same h.which h.inside in
      subst (λ (o : List ℕ). count q ≤ count o) (sym e) (g.least h.which (omega (arith, h.inside)))

-- ---- other counts and other names

-- Counts that agree on some orders have the same first with fewest of them.
pub fewest-agree : (f g : List ℕ → ℕ) (b : List ℕ) (ps : List (List ℕ)) → ((i : ℕ) → i < length (b ∷ ps) → f (get_or (b ∷ ps) i []) ≡ g (get_or (b ∷ ps) i []))
    → fewest_by f b ps ≡ fewest_by g b ps
unfolding fewest_by
fewest-agree f g b [] h = refl
fewest-agree f g b (p ∷ ps) h = rw (h 0 (omega arith), h 1 (omega arith)) (go (ltb (g p) (g b)) (fewest-agree f g p ps without) (fewest-agree f g b ps before))
  where
    without : (i : ℕ) → i < length (p ∷ ps) → f (get_or (p ∷ ps) i []) ≡ g (get_or (p ∷ ps) i [])
    without i l = h (suc i) (omega arith)

    before : (i : ℕ) → i < length (b ∷ ps) → f (get_or (b ∷ ps) i []) ≡ g (get_or (b ∷ ps) i [])
    before zero l = h 0 (omega arith)
    before (suc i) l = h (suc (suc i)) (omega arith)

    go : (t : Bool) → fewest_by f p ps ≡ fewest_by g p ps → fewest_by f b ps ≡ fewest_by g b ps → fewest_by f (cond t p b) ps ≡ fewest_by g (cond t p b) ps
    go true x y = x
    go false x y = y

-- Orders that are written down in other names have the same first with fewest, in these names.
pub fewest-map : (f : List ℕ → ℕ) (name : List ℕ → List ℕ) (b : List ℕ) (ps : List (List ℕ))
    → fewest_by f (name b) (map name ps) ≡ name (fewest_by (λ p. f (name p)) b ps)
unfolding fewest_by
fewest-map f name b [] = refl
fewest-map f name b (p ∷ ps) = go (ltb (f (name p)) (f (name b))) (fewest-map f name p ps) (fewest-map f name b ps)
  where
    Named : List ℕ → Type 0
    Named o = fewest_by f (name o) (map name ps) ≡ name (fewest_by (λ q. f (name q)) o ps)

    go : (t : Bool) → Named p → Named b → fewest_by f (cond t (name p) (name b)) (map name ps) ≡ name (fewest_by (λ q. f (name q)) (cond t p b) ps)
    go true x y = x
    go false x y = y

-- ---- the same of a list of orders, which may be empty

pub first-agree : (f g : List ℕ → ℕ) (ps : List (List ℕ)) → ((i : ℕ) → i < length ps → f (get_or ps i []) ≡ g (get_or ps i [])) → first_fewest f ps ≡ first_fewest g ps
first-agree f g [] h = refl
first-agree f g (p ∷ ps) h = fewest-agree f g p ps h

pub first-map : (f : List ℕ → ℕ) (name : List ℕ → List ℕ) → [] ≡ name [] → (ps : List (List ℕ))
    → first_fewest f (map name ps) ≡ name (first_fewest (λ p. f (name p)) ps)
first-map f name e [] = e
first-map f name e (p ∷ ps) = fewest-map f name p ps

pub first-is : (f : List ℕ → ℕ) (ps : List (List ℕ)) → 0 < length ps → IsFirstFewest f ps (first_fewest f ps)
first-is f [] h = absurd (omega arith)
first-is f (p ∷ ps) h = first-fewest f p ps
