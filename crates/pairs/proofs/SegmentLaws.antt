-- The crossings of segments with the row in some order are what the order costs, by the crossings of pairs of points.
use mathlib.Core.Path.{◌≡◌, refl, sym, ap, ◌∙◌}
use mathlib.Core.Bool.{Bool, true, false, ◌&&◌, ◌||◌, cond}
use mathlib.Core.Logic.{◌⊎◌, inl, inr}
use mathlib.Core.List.{List, [], ◌∷◌, map}
use Prim.Native.Nat.{ℕ, zero, suc, ◌+◌, ◌≤◌, ◌<◌}
use native.Mathlib.Omega.{arith}
use lib.Dec.{ltb}
use borrow.Author.Tests.{eq-eqb, ltb-true}
use Rattle.graph.specs.Search.{run}
use Rattle.buffers.specs.Lists.{occurs}
use Rattle.points.specs.Positions.{position}
use Rattle.crossings.specs.Crossings.{PlacedSegment, cross, crossings_with, crossing_pairs}
use Rattle.permutations.specs.Orders.{Permutation}
use Rattle.permutations.proofs.PointLaws.{one, one_same, one-cases, occurs-cons, occurs-none}
use Rattle.exchange.specs.Costs.{cost_of}
use Rattle.exchange.proofs.AgreeLaws.{Once}
use Rattle.pairs.specs.Segments.{reordered, crossings_in, cross_left, cross_either, cost_between, cost_from}
use Rattle.pairs.proofs.PairLaws.{of-sum, of_zero, weighed, weighed-none, pair_is}

-- segments from row r to points of an order
pub data Between (r : ℕ) (order : List ℕ) : List PlacedSegment → Type 0 where
  none : Between r order []
  more : {s : PlacedSegment} {ss : List PlacedSegment} → s.row ≡ r → 0 < occurs s.lower order → Between r order ss → Between r order (s ∷ ss)

module _ (r : ℕ) (order : List ℕ) (o : Once order) where
  left_is : (s t : PlacedSegment) → 0 < occurs s.lower order → 0 < occurs t.lower order
      → cost_of (cross_left s t) order ≡ cond (ltb t.upper s.upper) (cond (ltb (position s.lower order) (position t.lower order)) 1 0) 0
  left_is s t h g = go (ltb t.upper s.upper)
    where
      go : (w : Bool) → cost_of (weighed (cond w 1 0) s.lower t.lower) order ≡ cond w (cond (ltb (position s.lower order) (position t.lower order)) 1 0) 0
      go true = pair_is s.lower t.lower order o h g
      go false = weighed-none s.lower t.lower order

  -- Two segments cross where the points are on the one side and the upper ends on the other.
  pair-crosses : (s t : PlacedSegment) → s.row ≡ t.row → 0 < occurs s.lower order → 0 < occurs t.lower order
      → cost_of (cross_left s t) order + cost_of (cross_left t s) order ≡ cond (cross (reordered order s) (reordered order t)) 1 0
  pair-crosses s t e h g =
      rw (left_is s t h g, left_is t s g h, eq-eqb s.row t.row e)
      (go (ltb s.upper t.upper) refl (ltb t.upper s.upper) refl (ltb (position s.lower order) (position t.lower order)) (ltb (position t.lower order) (position s.lower order)))
    where
      go : (w : Bool) → ltb s.upper t.upper ≡ w → (v : Bool) → ltb t.upper s.upper ≡ v → (p q : Bool)
          → cond v (cond p 1 0) 0 + cond w (cond q 1 0) 0 ≡ cond (true && ((w && q) || (v && p))) 1 zero
      go true e true f p q = absurd (omega (arith, ltb-true s.upper t.upper e, ltb-true t.upper s.upper f))
      go true e false f p true = refl
      go true e false f p false = refl
      go false e true f true q = refl
      go false e true f false q = refl
      go false e false f p q = refl

  between_is : (s : PlacedSegment) (ts : List PlacedSegment) → s.row ≡ r → 0 < occurs s.lower order → Between r order ts
      → crossings_with (reordered order s) (map (reordered order) ts) ≡ cost_of (cost_between s ts) order
  unfolding crossings_with cost_between
  between_is s [] e h none = sym (of_zero order)
  between_is s (t ∷ ts) e h (more f g l) =
      omega (
        arith,
        between_is s ts e h l,
        pair-crosses s t (e ∙ sym f) h g,
        of-sum (cross_either s t) (cost_between s ts) order,
        of-sum (cross_left s t) (cross_left t s) order,
      )

  -- Costs add up over the pairs of segments, and each pair adds 1 where it crosses and 0 where it does not.
  pub crossings-cost : (ss : List PlacedSegment) → Between r order ss → crossings_in ss order ≡ cost_of (cost_from ss) order
  unfolding crossings_in crossing_pairs cost_from
  crossings-cost [] none = sym (of_zero order)
  crossings-cost (s ∷ ss) (more e h l) = omega (arith, crossings-cost ss l, between_is s ss e h l, of-sum (cost_between s ss) (cost_from ss) order)

pub between-permuted : {r : ℕ} {row order : List ℕ} (ss : List PlacedSegment) → Permutation row order → Between r row ss → Between r order ss
between-permuted [] h none = none
between-permuted (s ∷ ss) h (more e g l) = more {s = s} e (omega (arith, h.points s.lower)) (between-permuted ss h l)

-- ---- the points 0, 1, 2 and so on

run-before : (a k p : ℕ) → p < a → occurs p (run a k) ≡ 0
unfolding run
run-before a zero p h = occurs-none p
run-before a (suc k) p h = go (one-cases p a) (run-before (suc a) k p (omega arith))
  where
    go : (p ≡ a) ⊎ (one p a ≡ 0) → occurs p (run (suc a) k) ≡ 0 → occurs p (a ∷ run (suc a) k) ≡ 0
    go (inl e) rest = absurd (omega arith)
    go (inr e) rest = omega (arith, occurs-cons p a (run (suc a) k))

pub run-once : (a k p : ℕ) → occurs p (run a k) ≤ 1
unfolding run
run-once a zero p = omega (arith, occurs-none p)
run-once a (suc k) p = go (one-cases p a) (run-once (suc a) k p)
  where
    go : (p ≡ a) ⊎ (one p a ≡ 0) → occurs p (run (suc a) k) ≤ 1 → occurs p (a ∷ run (suc a) k) ≤ 1
    go (inl e) rest = omega (arith, occurs-cons p a (run (suc a) k), run-before (suc a) k p (omega arith), ap (one p) e, one_same p)
    go (inr e) rest = omega (arith, occurs-cons p a (run (suc a) k))

pub run-has : (a k p : ℕ) → a ≤ p → p < a + k → 0 < occurs p (run a k)
unfolding run
run-has a zero p h g = absurd (omega arith)
run-has a (suc k) p h g = go (one-cases p a) (run-has (suc a) k p)
  where
    go : (p ≡ a) ⊎ (one p a ≡ 0) → (suc a ≤ p → p < suc a + k → 0 < occurs p (run (suc a) k)) → 0 < occurs p (a ∷ run (suc a) k)
    go (inl e) rest = omega (arith, occurs-cons p a (run (suc a) k), ap (one p) e, one_same p)
    go (inr e) rest = omega (arith, occurs-cons p a (run (suc a) k), rest (omega (arith, differ)) (omega arith))
      where
        differ : suc a ≤ p
        differ = omega (arith, apart)
          where
            apart : p ≡ a → ⊥
            apart q = omega (arith, ap (one p) q, one_same p)

-- What an order of a row of k points costs are its crossings.
pub order-crossings : (r k : ℕ) (ss : List PlacedSegment) (order : List ℕ) → Between r (run 0 k) ss → Permutation (run 0 k) order
    → crossings_in ss order ≡ cost_of (cost_from ss) order
order-crossings r k ss order l h =
    crossings-cost r order (record { once = λ p. omega (arith, h.points p, run-once 0 k p) }) ss (between-permuted ss h l)
