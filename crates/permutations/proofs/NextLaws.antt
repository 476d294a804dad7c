-- The next order: a later order of the same points, with none between.
use mathlib.Core.Path.{◌≡◌, refl, sym, subst}
use mathlib.Core.Bool.{Bool, true, false, cond}
use mathlib.Core.Logic.{◌⊎◌, inl, inr}
use mathlib.Core.List.{List, [], ◌∷◌, ◌++◌, reverse, reverse-cons}
use Prim.Native.Nat.{ℕ, zero, suc, ◌≤◌, ◌<◌}
use native.Mathlib.Omega.{arith}
use lib.Dec.{ltb}
use lib.ListN.{length, get_or, set}
use borrow.Author.Tests.{ltb-true, ltb-false}
use Rattle.buffers.specs.Lists.{occurs}
use Rattle.buffers.proofs.OccursLaws.{at-occurs, occurs-append}
use Rattle.permutations.specs.Orders.{Permutation}
use Rattle.permutations.specs.Next.{Next, last, to, above, exchanged, next_with, next_order, Before}
use Rattle.permutations.proofs.PointLaws as points
use Rattle.permutations.proofs.PointLaws.{one, one_same, one-cases, occurs-none, occurs-cons, occurs-reverse, occurs-set, same-tail, same-cons}

-- ---- rows that fall and rows that rise

-- no point is larger than x
record Most (x : ℕ) (l : List ℕ) : Type 0 where
  most : (v : ℕ) → 0 < occurs v l → v ≤ x

-- none is smaller
pub record Least (x : ℕ) (l : List ℕ) : Type 0 where
  pub least : (v : ℕ) → 0 < occurs v l → x ≤ v

data Falling : List ℕ → Type 0 where
  none : Falling []
  falls : {x : ℕ} {l : List ℕ} → Most x l → Falling l → Falling (x ∷ l)

pub data Rising : List ℕ → Type 0 where
  none : Rising []
  rises : {x : ℕ} {l : List ℕ} → Least x l → Rising l → Rising (x ∷ l)

-- a point of x ∷ l is x or one of l
pub in-cons : (v x : ℕ) (l : List ℕ) → 0 < occurs v (x ∷ l) → (v ≡ x) ⊎ (0 < occurs v l)
in-cons v x l h = go (one-cases v x)
  where
    go : (v ≡ x) ⊎ (one v x ≡ 0) → (v ≡ x) ⊎ (0 < occurs v l)
    go (inl e) = inl e
    go (inr e) = inr (omega (arith, occurs-cons v x l))

most-cons : {x y : ℕ} {l : List ℕ} → y ≤ x → Most y l → Most x (y ∷ l)
most-cons {x} {y} {l} h m = record { most = λ v g. go v (in-cons v y l g) }
  where
    go : (v : ℕ) → (v ≡ y) ⊎ (0 < occurs v l) → v ≤ x
    go v (inl e) = omega arith
    go v (inr g) = omega (arith, m.most v g)

least-snoc : {x y : ℕ} {l : List ℕ} → x ≤ y → Least x l → Least x (l ++ (y ∷ []))
least-snoc {x} {y} {l} h m = record { least = λ v g. go v (one-cases v y) g }
  where
    go : (v : ℕ) → (v ≡ y) ⊎ (one v y ≡ 0) → 0 < occurs v (l ++ (y ∷ [])) → x ≤ v
    go v (inl e) g = omega arith
    go v (inr e) g = m.least v (omega (arith, occurs-append v l (y ∷ []), occurs-cons v y [], occurs-none v))

least-none : (x : ℕ) → Least x []
least-none x = record { least = λ v g. absurd (omega (arith, occurs-none v)) }

rising_snoc : {y : ℕ} {l : List ℕ} → Rising l → Most y l → Rising (l ++ (y ∷ []))
rising_snoc {y} none m = rises (least-none y) none
rising_snoc {y} (rises {x} {l} h r) m =
    rises
    (least-snoc (m.most x (omega (arith, occurs-cons x x l, one_same x))) h)
    (rising_snoc r (record { most = λ v g. m.most v (omega (arith, occurs-cons v x l)) }))

-- turned round, a row that falls rises
turned-rises : {l : List ℕ} → Falling l → Rising (reverse l)
turned-rises none = none
turned-rises (falls {x} {l} m f) =
    rw reverse-cons (rising_snoc (turned-rises f) (record { most = λ v g. m.most v (omega (arith, occurs-reverse v l)) }))

-- ---- the first and the last order

before-cons : (a b : ℕ) (p q : List ℕ) → Before (a ∷ p) (b ∷ q) → (a < b) ⊎ ((a ≡ b) × Before p q)
unfolding Before
before-cons a b p q h = h

pub before-less : (a b : ℕ) (p q : List ℕ) → a < b → Before (a ∷ p) (b ∷ q)
unfolding Before
before-less a b p q h = inl h

pub before-rest : (a : ℕ) (p q : List ℕ) → Before p q → Before (a ∷ p) (a ∷ q)
unfolding Before
before-rest a p q h = inr (refl, h)

before-none : (p : List ℕ) → Before p [] → ⊥
unfolding Before
before-none [] h = h
before-none (a ∷ p) h = h

none_before : (q : List ℕ) → Before [] q → ⊥
unfolding Before
none_before q h = h

-- the other points are the same where the first ones are
rest-same : (x z : ℕ) (l m : List ℕ) → x ≡ z → Permutation (x ∷ l) (z ∷ m) → Permutation l m
rest-same x z l m e h = same-tail x (subst (λ (y : ℕ). Permutation (x ∷ l) (y ∷ m)) (sym e) h)

-- an order's first point is one of the row's
head_in : (x z : ℕ) (l m : List ℕ) → Permutation (x ∷ l) (z ∷ m) → (z ≡ x) ⊎ (0 < occurs z l)
head_in x z l m h = in-cons z x l (omega (arith, h.points z, occurs-cons z z m, one_same z))

-- No order of the same points comes after one that falls: its first point is the largest, and where another order begins with it too,
-- the same holds of the points behind it.
falling-last : (p r : List ℕ) → Falling p → Permutation p r → Before p r → ⊥
falling-last [] r f h b = none_before r b
falling-last (x ∷ l) [] f h b = before-none (x ∷ l) b
falling-last (x ∷ l) (z ∷ m) (falls w f) h b = go (head_in x z l m h) (before-cons x z l m b) (falling-last l m f)
  where
    go : (z ≡ x) ⊎ (0 < occurs z l) → (x < z) ⊎ ((x ≡ z) × Before l m) → (Permutation l m → Before l m → ⊥) → ⊥
    go i (inr t) rest = rest (rest-same x z l m t.0 h) t.1
    go (inl e) (inl k) rest = omega arith
    go (inr g) (inl k) rest = omega (arith, w.most z g)

-- and none before one that rises
pub rising-first : (p r : List ℕ) → Rising p → Permutation p r → Before r p → ⊥
rising-first [] r f h b = before-none r b
rising-first (x ∷ l) [] f h b = none_before (x ∷ l) b
rising-first (x ∷ l) (z ∷ m) (rises w f) h b = go (head_in x z l m h) (before-cons z x m l b) (rising-first l m f)
  where
    go : (z ≡ x) ⊎ (0 < occurs z l) → (z < x) ⊎ ((z ≡ x) × Before m l) → (Permutation l m → Before m l → ⊥) → ⊥
    go i (inr t) rest = rest (rest-same x z l m (sym t.0) h) t.1
    go (inl e) (inl k) rest = omega arith
    go (inr g) (inl k) rest = omega (arith, w.least z g)

-- ---- the last order falls

above-none : (x : ℕ) (l : List ℕ) → Falling l → above x l ≡ 0 → Most x l
unfolding above
above-none x [] f e = record { most = λ v g. absurd (omega (arith, occurs-none v)) }
above-none x (y ∷ l) (falls m f) e = go (ltb x y) refl e
  where
    go : (t : Bool) → ltb x y ≡ t → cond t (suc (above x l)) 0 ≡ 0 → Most x (y ∷ l)
    go true q z = absurd (omega arith)
    go false q z = most-cons (ltb-false x y q) m

last-falls : (p : List ℕ) → next_order p ≡ last → Falling p
unfolding next_order next_with exchanged
last-falls [] e = none
last-falls (x ∷ l) e = go (next_order l) refl e (last-falls l)
  where
    at_last : Falling l → (k : ℕ) → above x l ≡ k → exchanged x l k ≡ last → Falling (x ∷ l)
    at_last f zero q z = falls (above-none x l f q) f
    at_last f (suc j) q z = absurd (let w : ◌≡◌ {A = ℕ} 0 1 = cc in omega arith)

    go : (s : Next) → next_order l ≡ s → next_with x l s ≡ last → (next_order l ≡ last → Falling l) → Falling (x ∷ l)
    go (to q) k z rest = absurd (let w : ◌≡◌ {A = ℕ} 0 1 = cc in omega arith)
    go last k z rest = at_last (rest k) (above x l) refl z

-- Where no next order is handed out, none of the same points comes after this one: it falls.
pub last-is-last : (p : List ℕ) → next_order p ≡ last → (r : List ℕ) → Permutation p r → Before p r → ⊥
last-is-last p e r h b = falling-last p r (last-falls p e) h b

-- ---- the exchange

-- Point x in front of the falling row l, where the point at j is the smallest that is larger than x.
record Exchange (x : ℕ) (l : List ℕ) (j : ℕ) : Type 0 where
  inside : j < length l
  larger : x < get_or l j 0
  smallest : (v : ℕ) → 0 < occurs v l → x < v → get_or l j 0 ≤ v
  falling : Falling (set l j x)

exchange-first : (x w : ℕ) (l : List ℕ) → x < w → Falling l → above x l ≡ 0 → Exchange x (w ∷ l) 0
exchange-first x w l h f e = record {
  inside = omega arith;
  larger = h;
  smallest = λ v g k. small v k (in-cons v w l g);
  falling = falls (above-none x l f e) f;
}
  where
    small : (v : ℕ) → x < v → (v ≡ w) ⊎ (0 < occurs v l) → w ≤ v
    small v k (inl q) = omega arith
    small v k (inr g) = absurd (omega (arith, (above-none x l f e).most v g))

exchange-later : (x w : ℕ) (l : List ℕ) (j : ℕ) → x < w → Most w l → Exchange x l j → Exchange x (w ∷ l) (suc j)
exchange-later x w l j h m s = record {
  inside = omega (arith, s.inside);
  larger = s.larger;
  smallest = λ v g k. small v k (in-cons v w l g);
  falling = falls (record { most = λ v g. most v (one-cases v x) g }) s.falling;
}
  where
    small : (v : ℕ) → x < v → (v ≡ w) ⊎ (0 < occurs v l) → get_or l j 0 ≤ v
    small v k (inl q) = omega (arith, m.most (get_or l j 0) (at-occurs l j s.inside))
    small v k (inr g) = s.smallest v g k

    most : (v : ℕ) → (v ≡ x) ⊎ (one v x ≡ 0) → 0 < occurs v (set l j x) → v ≤ w
    most v (inl e) g = omega arith
    most v (inr e) g = m.most v (omega (arith, occurs-set v l j x s.inside))

exchange-found : (x : ℕ) (l : List ℕ) (j : ℕ) → Falling l → above x l ≡ suc j → Exchange x l j
unfolding above
exchange-found x [] j f e = absurd (omega arith)
exchange-found x (w ∷ l) j (falls m f) e = go (ltb x w) refl e j refl (λ i. exchange-found x l i f)
  where
    go : (t : Bool) → ltb x w ≡ t → cond t (suc (above x l)) 0 ≡ suc j → (i : ℕ) → i ≡ j → ((i : ℕ) → above x l ≡ suc i → Exchange x l i) → Exchange x (w ∷ l) j
    go false q z i d rest = absurd (omega arith)
    go true q z zero d rest = subst (Exchange x (w ∷ l)) d (exchange-first x w l (ltb-true x w q) f (omega arith))
    go true q z (suc i) d rest = subst (Exchange x (w ∷ l)) d (exchange-later x w l i (ltb-true x w q) m (rest i (omega arith)))

-- ---- the next order

-- q is the dictionary's next order of the points of p: a later one, and none of the same points stands between.
pub record Successor (p q : List ℕ) : Type 0 where
  pub same : Permutation p q
  pub later : Before p q
  pub none_between : (r : List ℕ) → Permutation p r → Before p r → Before r q → ⊥

-- one point more in front
successor-cons : {l m : List ℕ} (x : ℕ) → Successor l m → Successor (x ∷ l) (x ∷ m)
successor-cons {l} {m} x s = record { same = same-cons x s.same; later = before-rest x l m s.later; none_between = between }
  where
    between : (r : List ℕ) → Permutation (x ∷ l) r → Before (x ∷ l) r → Before r (x ∷ m) → ⊥
    between [] h b c = before-none (x ∷ l) b
    between (z ∷ r) h b c = go (before-cons x z l r b) (before-cons z x r m c)
      where
        go : (x < z) ⊎ ((x ≡ z) × Before l r) → (z < x) ⊎ ((z ≡ x) × Before r m) → ⊥
        go (inl k) (inl g) = omega arith
        go (inl k) (inr t) = omega (arith, t.0)
        go (inr u) (inl g) = omega (arith, u.0)
        go (inr u) (inr t) = s.none_between r (rest-same x z l r u.0 h) u.1 t.1

exchanged_same : (x : ℕ) (l : List ℕ) (j : ℕ) → j < length l → Permutation (x ∷ l) (get_or l j 0 ∷ reverse (set l j x))
exchanged_same x l j h = record { points = each }
  where
    each : (v : ℕ) → occurs v (x ∷ l) ≡ occurs v (get_or l j 0 ∷ reverse (set l j x))
    each v = omega (arith, occurs-cons v x l, occurs-cons v (get_or l j 0) (reverse (set l j x)), occurs-reverse v (set l j x), occurs-set v l j x h)

-- The points behind x fall, so no later order begins with x. One that begins with a larger point begins with y, the smallest of the
-- larger ones, or comes after all that do; and of those that begin with y the first has the others in rising order.
successor-exchanged : (x : ℕ) (l : List ℕ) (j : ℕ) → Falling l → Exchange x l j → Successor (x ∷ l) (get_or l j 0 ∷ reverse (set l j x))
successor-exchanged x l j f s = record {
  same = exchanged_same x l j s.inside;
  later = before-less x (get_or l j 0) l (reverse (set l j x)) s.larger;
  none_between = between;
}
  where
    between : (r : List ℕ) → Permutation (x ∷ l) r → Before (x ∷ l) r → Before r (get_or l j 0 ∷ reverse (set l j x)) → ⊥
    between [] h b c = before-none (x ∷ l) b
    between (z ∷ r) h b c = go (before-cons x z l r b) (before-cons z (get_or l j 0) r (reverse (set l j x)) c) (head_in x z l r h)
      where
        go : (x < z) ⊎ ((x ≡ z) × Before l r) → (z < get_or l j 0) ⊎ ((z ≡ get_or l j 0) × Before r (reverse (set l j x))) → (z ≡ x) ⊎ (0 < occurs z l) → ⊥
        go (inr u) t i = falling-last l r f (rest-same x z l r u.0 h) u.1
        go (inl k) t (inl e) = omega arith
        go (inl k) (inl g) (inr i) = omega (arith, s.smallest z i k)
        go (inl k) (inr t) (inr i) =
            rising-first (reverse (set l j x)) r (turned-rises s.falling)
            (rest-same (get_or l j 0) z (reverse (set l j x)) r (sym t.0) (points.same-trans (points.same-sym (exchanged_same x l j s.inside)) h))
            t.1

-- The next order is the successor: the points behind the first are tried by themselves, and where they have no next order the first
-- one is exchanged.
pub next_successor : (p q : List ℕ) → next_order p ≡ to q → Successor p q
unfolding next_order next_with exchanged
next_successor [] q e = absurd (let w : ◌≡◌ {A = ℕ} 0 1 = cc in omega arith)
next_successor (x ∷ l) q e = go (next_order l) refl e (next_successor l)
  where
    at_last : next_order l ≡ last → (k : ℕ) → above x l ≡ k → exchanged x l k ≡ to q → Successor (x ∷ l) q
    at_last n zero g z = absurd (let w : ◌≡◌ {A = ℕ} 0 1 = cc in omega arith)
    at_last n (suc j) g z =
        let w : get_or l j 0 ∷ reverse (set l j x) ≡ q = cc in
        subst (Successor (x ∷ l)) w (successor-exchanged x l j (last-falls l n) (exchange-found x l j (last-falls l n) g))

    go : (s : Next) → next_order l ≡ s → next_with x l s ≡ to q → ((m : List ℕ) → next_order l ≡ to m → Successor l m) → Successor (x ∷ l) q
    go (to m) k z rest = let w : x ∷ m ≡ q = cc in subst (Successor (x ∷ l)) w (successor-cons x (rest m k))
    go last k z rest = at_last k (above x l) refl z

-- The next order has the points of this one.
pub next-same : (p q : List ℕ) → next_order p ≡ to q → Permutation p q
next-same p q e = (next_successor p q e).same
