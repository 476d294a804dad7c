-- What costs of pairs add up to over an order, and the cost of a pair of points in it.
use mathlib.Core.Path.{◌≡◌, refl, sym, ap, ◌∙◌}
use mathlib.Core.Bool.{Bool, true, false, cond}
use mathlib.Core.Logic.{◌⊎◌, inl, inr}
use mathlib.Core.List.{List, [], ◌∷◌}
use Prim.Native.Nat.{ℕ, zero, suc, ◌+◌, ◌<◌}
use native.Mathlib.Omega.{arith}
use lib.Dec.{ltb, eqb, leb-suc-suc}
use borrow.Author.Tests.{eqb-true, eqb-false, eq-eqb, ne_eqb, lt-ltb, le-ltb}
use Rattle.buffers.specs.Lists.{occurs}
use Rattle.points.specs.Positions.{position}
use Rattle.permutations.proofs.PointLaws.{one, one_same, one-cases, occurs-cons, occurs-none}
use Rattle.exchange.specs.Costs.{cost_with, cost_of}
use Rattle.exchange.proofs.CostLaws.{of_cons}
use Rattle.exchange.proofs.AgreeLaws.{Once, once-tail}

-- ---- costs add up

module _ (c d : ℕ → ℕ → ℕ) where
  with-sum : (i : ℕ) (l : List ℕ) → cost_with (λ i j. c i j + d i j) i l ≡ cost_with c i l + cost_with d i l
  unfolding cost_with
  with-sum i [] = refl
  with-sum i (j ∷ l) = omega (arith, with-sum i l)

  pub of-sum : (l : List ℕ) → cost_of (λ i j. c i j + d i j) l ≡ cost_of c l + cost_of d l
  unfolding cost_of
  of-sum [] = refl
  of-sum (i ∷ l) = omega (arith, of-sum l, with-sum i l)

with-zero : (i : ℕ) (l : List ℕ) → cost_with (λ i j. 0) i l ≡ 0
unfolding cost_with
with-zero i [] = refl
with-zero i (j ∷ l) = omega (arith, with-zero i l)

pub of_zero : (l : List ℕ) → cost_of (λ i j. 0) l ≡ 0
unfolding cost_of
of_zero [] = refl
of_zero (i ∷ l) = omega (arith, of_zero l, with-zero i l)

-- ---- one pair of segments

-- 1 for a left of b, else 0
abbrev pub pair_of : ℕ → ℕ → ℕ → ℕ → ℕ
pair_of a b i j = cond (eqb i a) (cond (eqb j b) 1 0) 0

pair-with : (a b : ℕ) (l : List ℕ) → cost_with (pair_of a b) a l ≡ occurs b l
unfolding cost_with occurs
pair-with a b [] = refl
pair-with a b (j ∷ l) = go (eqb j b) refl (pair-with a b l)
  where
    flip : (t : Bool) → eqb j b ≡ t → eqb b j ≡ t
    flip true e = eq-eqb b j (sym (eqb-true j b e))
    flip false e = ne_eqb b j (λ h. eqb-false j b e (sym h))

    go : (t : Bool) → eqb j b ≡ t → cost_with (pair_of a b) a l ≡ occurs b l → pair_of a b a j + cost_with (pair_of a b) a l ≡ cond (eqb b j) 1 0 + occurs b l
    go t e ih = rw (eq-eqb a a refl, e, flip t e, ih)

pair-else : (a b i : ℕ) (l : List ℕ) → (i ≡ a → ⊥) → cost_with (pair_of a b) i l ≡ 0
unfolding cost_with
pair-else a b i [] n = refl
pair-else a b i (j ∷ l) n = rw (ne_eqb i a n) (omega (arith, pair-else a b i l n))

-- no pair where one of the two is missing
pair-no-left : (a b : ℕ) (l : List ℕ) → occurs a l ≡ 0 → cost_of (pair_of a b) l ≡ 0
unfolding cost_of
pair-no-left a b [] h = refl
pair-no-left a b (x ∷ l) h = go (one-cases a x) (pair-no-left a b l)
  where
    go : (a ≡ x) ⊎ (one a x ≡ 0) → (occurs a l ≡ 0 → cost_of (pair_of a b) l ≡ 0) → cost_with (pair_of a b) x l + cost_of (pair_of a b) l ≡ 0
    go (inl e) rest = absurd (omega (arith, occurs-cons a x l, ap (one a) e, one_same a))
    go (inr e) rest =
        omega (arith, rest (omega (arith, occurs-cons a x l)), pair-else a b x l (λ q. absurd (omega (arith, ap (one a) q, one_same a))))

pair-no-right : (a b : ℕ) (l : List ℕ) → occurs b l ≡ 0 → cost_of (pair_of a b) l ≡ 0
unfolding cost_of
pair-no-right a b [] h = refl
pair-no-right a b (x ∷ l) h = go (eqb x a) refl (pair-no-right a b l (omega (arith, occurs-cons b x l)))
  where
    none : occurs b l ≡ 0
    none = omega (arith, occurs-cons b x l)

    go : (t : Bool) → eqb x a ≡ t → cost_of (pair_of a b) l ≡ 0 → cost_with (pair_of a b) x l + cost_of (pair_of a b) l ≡ 0
    go true e rest = let q : x ≡ a = eqb-true x a e in omega (arith, rest, none, pair-with a b l, ap (λ (y : ℕ). cost_with (pair_of a b) y l) q)
    go false e rest = omega (arith, rest, pair-else a b x l (eqb-false x a e))

position_here : (p q : ℕ) (l : List ℕ) → p ≡ q → position p (q ∷ l) ≡ 0
unfolding position
position_here p q l e = rw (eq-eqb p q e)

position_later : (p q : ℕ) (l : List ℕ) → (p ≡ q → ⊥) → position p (q ∷ l) ≡ suc (position p l)
unfolding position
position_later p q l n = rw (ne_eqb p q n)

-- A pair costs 1 exactly where the first of its points stands left of the other.
pub pair_is : (a b : ℕ) (l : List ℕ) → Once l → 0 < occurs a l → 0 < occurs b l → cost_of (pair_of a b) l ≡ cond (ltb (position a l) (position b l)) 1 0
pair_is a b [] o h g = absurd (omega (arith, occurs-none a))
pair_is a b (x ∷ l) o h g = go (one-cases a x) (one-cases b x) (pair_is a b l (once-tail x l o))
  where
    apart : (p : ℕ) → one p x ≡ 0 → p ≡ x → ⊥
    apart p e q = omega (arith, ap (one p) q, one_same p)

    go : (a ≡ x) ⊎ (one a x ≡ 0) → (b ≡ x) ⊎ (one b x ≡ 0) → (0 < occurs a l → 0 < occurs b l → cost_of (pair_of a b) l ≡ cond (ltb (position a l) (position b l)) 1 0)
        → cost_of (pair_of a b) (x ∷ l) ≡ cond (ltb (position a (x ∷ l)) (position b (x ∷ l))) 1 0
    go (inl e) (inl f) rest =
        let w : ltb (position a (x ∷ l)) (position b (x ∷ l)) ≡ false =
        le-ltb (position a (x ∷ l)) (position b (x ∷ l)) (omega (arith, position_here a x l e, position_here b x l f)) in
        let n : occurs a l ≡ 0 = omega (arith, o.once a, occurs-cons a x l, ap (one a) e, one_same a) in
        let m : occurs b l ≡ 0 = omega (arith, o.once b, occurs-cons b x l, ap (one b) f, one_same b) in
        rw w
        (omega (arith, of_cons (pair_of a b) x l, pair-no-left a b l n, pair-with a b l, ap (λ (y : ℕ). cost_with (pair_of a b) y l) e))
    go (inl e) (inr f) rest =
        let w : ltb (position a (x ∷ l)) (position b (x ∷ l)) ≡ true =
        lt-ltb (position a (x ∷ l)) (position b (x ∷ l)) (omega (arith, position_here a x l e, position_later b x l (apart b f))) in
        let n : occurs a l ≡ 0 = omega (arith, o.once a, occurs-cons a x l, ap (one a) e, one_same a) in
        let m : occurs b l ≡ 1 = omega (arith, o.once b, occurs-cons b x l) in
        rw w
        (omega (arith, of_cons (pair_of a b) x l, pair-no-left a b l n, pair-with a b l, ap (λ (y : ℕ). cost_with (pair_of a b) y l) e))
    go (inr e) (inl f) rest =
        let w : ltb (position a (x ∷ l)) (position b (x ∷ l)) ≡ false =
        le-ltb (position a (x ∷ l)) (position b (x ∷ l)) (omega (arith, position_later a x l (apart a e), position_here b x l f)) in
        let m : occurs b l ≡ 0 = omega (arith, o.once b, occurs-cons b x l, ap (one b) f, one_same b) in
        rw w
        (omega (arith, of_cons (pair_of a b) x l, pair-no-right a b l m, pair-else a b x l (λ q. apart a e (sym q))))
    go (inr e) (inr f) rest =
        let w : ltb (position a (x ∷ l)) (position b (x ∷ l)) ≡ ltb (suc (position a l)) (suc (position b l)) =
        λ k. ltb (position_later a x l (apart a e) k) (position_later b x l (apart b f) k) in
        let v : ltb (position a (x ∷ l)) (position b (x ∷ l)) ≡ ltb (position a l) (position b l) = w ∙ leb-suc-suc (suc (position a l)) (position b l) in
        let c : cost_of (pair_of a b) (x ∷ l) ≡ cost_of (pair_of a b) l =
        omega (arith, of_cons (pair_of a b) x l, pair-else a b x l (λ q. apart a e (sym q))) in
        c ∙ rest (omega (arith, occurs-cons a x l)) (omega (arith, occurs-cons b x l)) ∙ ap (λ (t : Bool). cond t 1 0) (sym v)

-- ---- all pairs

-- w for a left of b, else 0
abbrev pub weighed : ℕ → ℕ → ℕ → ℕ → ℕ → ℕ
weighed w a b i j = cond (eqb i a) (cond (eqb j b) w 0) 0

pub zero-either : (t u : Bool) → cond t (cond u 0 0) 0 ≡ zero
zero-either true true = refl
zero-either true false = refl
zero-either false u = refl

weighed-with : (a b i : ℕ) (l : List ℕ) → cost_with (weighed 0 a b) i l ≡ 0
unfolding cost_with
weighed-with a b i [] = refl
weighed-with a b i (j ∷ l) = omega (arith, zero-either (eqb i a) (eqb j b), weighed-with a b i l)

pub weighed-none : (a b : ℕ) (l : List ℕ) → cost_of (weighed 0 a b) l ≡ 0
unfolding cost_of
weighed-none a b [] = refl
weighed-none a b (x ∷ l) = omega (arith, weighed-with a b x l, weighed-none a b l)
