-- What orders of the same points cost, and the floor.
use mathlib.Core.Path.{◌≡◌, refl, ap}
use mathlib.Core.List.{List, [], ◌∷◌, ◌++◌}
use Prim.Native.Nat.{ℕ, ◌+◌, ◌≤◌}
use native.Mathlib.Nat.{min_comm, min-le_left}
use native.Mathlib.Omega.{arith}
use Rattle.permutations.specs.Orders.{Permutation}
use Rattle.exchange.specs.Costs.{cost_with, cost_of, cheaper, floor_of}
use Rattle.permutations.proofs.PointLaws.{Around, split-same, split_rest, occurs-cons, occurs-none, one_same}

module _ (cost : ℕ → ℕ → ℕ) where
  pub with_none : (i : ℕ) → cost_with cost i [] ≡ 0
  unfolding cost_with
  with_none i = refl

  pub with-cons : (i j : ℕ) (js : List ℕ) → cost_with cost i (j ∷ js) ≡ cost i j + cost_with cost i js
  unfolding cost_with
  with-cons i j js = refl

  pub of_none : cost_of cost [] ≡ 0
  unfolding cost_of
  of_none = refl

  pub of_cons : (i : ℕ) (is : List ℕ) → cost_of cost (i ∷ is) ≡ cost_with cost i is + cost_of cost is
  unfolding cost_of
  of_cons i is = refl

  with_append : (i : ℕ) (a b : List ℕ) → cost_with cost i (a ++ b) ≡ cost_with cost i a + cost_with cost i b
  with_append i [] b = omega (arith, with_none i)
  with_append i (j ∷ a) b = omega (arith, with_append i a b, with-cons i j a, with-cons i j (a ++ b))

  -- A point costs the same with the same points on its right, in any order.
  pub with-same : (i : ℕ) (a b : List ℕ) → Permutation a b → cost_with cost i a ≡ cost_with cost i b
  with-same i [] [] h = refl
  with-same i [] (y ∷ b) h = absurd (omega (arith, h.points y, occurs-cons y y b, one_same y, occurs-none y))
  with-same i (x ∷ a) b h =
      let s : Around x b = split-same h in
      let rest : cost_with cost i a ≡ cost_with cost i (s.left ++ s.right) = with-same i a (s.left ++ s.right) (split_rest h s) in
      omega (
        arith,
        rest,
        with-cons i x a,
        ap (cost_with cost i) s.whole,
        with_append i s.left (x ∷ s.right),
        with-cons i x s.right,
        with_append i s.left s.right,
      )

  -- Of two orders that begin alike and go on with the same points, the costs differ as those of their ends do: a point of the beginning
  -- costs the same with the points behind it.
  pub ends-differ : (l a b : List ℕ) → Permutation a b → cost_of cost (l ++ a) + cost_of cost b ≡ cost_of cost (l ++ b) + cost_of cost a
  ends-differ [] a b h = omega arith
  ends-differ (x ∷ l) a b h =
      omega (
        arith,
        ends-differ l a b h,
        of_cons x (l ++ a),
        of_cons x (l ++ b),
        with_append x l a,
        with_append x l b,
        with-same x a b h,
      )

-- Where a pair costs the same either way, a point may come first.
module _ (cost : ℕ → ℕ → ℕ) (either : (i j : ℕ) → cost i j ≡ cost j i) where
  of-front : (x : ℕ) (a b : List ℕ) → cost_of cost (a ++ (x ∷ b)) ≡ cost_with cost x (a ++ b) + cost_of cost (a ++ b)
  of-front x [] b = of_cons cost x b
  of-front x (y ∷ a) b =
      omega (
        arith,
        of-front x a b,
        of_cons cost y (a ++ (x ∷ b)),
        of_cons cost y (a ++ b),
        with-cons cost x y (a ++ b),
        with_append cost y a (x ∷ b),
        with_append cost y a b,
        with-cons cost y x b,
        either x y,
      )

  of-same : (a b : List ℕ) → Permutation a b → cost_of cost a ≡ cost_of cost b
  of-same [] [] h = refl
  of-same [] (y ∷ b) h = absurd (omega (arith, h.points y, occurs-cons y y b, one_same y, occurs-none y))
  of-same (x ∷ a) b h =
      let s : Around x b = split-same h in
      omega (
        arith,
        of_cons cost x a,
        with-same cost x a (s.left ++ s.right) (split_rest h s),
        of-same a (s.left ++ s.right) (split_rest h s),
        ap (cost_of cost) s.whole,
        of-front x s.left s.right,
      )

module _ (cost : ℕ → ℕ → ℕ) where
  with-cheaper : (i : ℕ) (l : List ℕ) → cost_with (cheaper cost) i l ≤ cost_with cost i l
  with-cheaper i [] = omega (arith, with_none cost i, with_none (cheaper cost) i)
  with-cheaper i (j ∷ l) =
      omega (arith, with-cheaper i l, with-cons cost i j l, with-cons (cheaper cost) i j l, min-le_left (cost i j) (cost j i))

  of-cheaper : (l : List ℕ) → cost_of (cheaper cost) l ≤ cost_of cost l
  of-cheaper [] = omega (arith, of_none cost, of_none (cheaper cost))
  of-cheaper (i ∷ l) = omega (arith, of-cheaper l, of_cons cost i l, of_cons (cheaper cost) i l, with-cheaper i l)

  -- No order of the row costs less than the floor. The cheaper order of a pair costs the same whichever of the two is named first, so
  -- the floor is the same for every order of the row; and each order has every pair one way or the other, at no less than the cheaper.
  pub floor-below : (row order : List ℕ) → Permutation row order → floor_of cost row ≤ cost_of cost order
  unfolding floor_of
  floor-below row order h =
      omega (arith, of-same (cheaper cost) (λ i j. min_comm (cost i j) (cost j i)) row order h, of-cheaper order)
