-- No point has more ends on a side than there are edges: the points of one edge are all different, so that each is the upper end of one
-- of its segments at most, and the lower end of one at most.
use mathlib.Core.Path.{◌≡◌, refl}
use mathlib.Core.Logic.{◌≢◌}
use mathlib.Core.Bool.{Bool, true, false, cond}
use mathlib.Core.List.{List, [], ◌∷◌, ◌++◌, map}
use Prim.Native.Nat.{ℕ, zero, suc, ◌+◌, ◌≤◌, ◌<◌}
use native.Mathlib.Nat.{zero-lt-suc}
use native.Mathlib.Omega.{arith}
use lib.Dec.{eqb}
use lib.ListN.{length}
use borrow.Author.Tests.{eqb-true, ne_eqb}
use Rattle.graph.specs.declared.Edge.{Edge}
use Rattle.buffers.specs.Lists.{occurs}
use Rattle.points.specs.Points.{Segment, between, chain, segments_from, segments}
use Rattle.points.specs.Laying.{uppers, lowers}
use Rattle.points.proofs.NeighbourLaws.{Leads, AllLead, leads-tail}

-- ---- the chain of one edge, whose dummies have numbers above those of its nodes

one_more : (p q n : ℕ) → (p ≡ q → n ≡ 0) → n ≤ 1 → cond (eqb p q) 1 0 + n ≤ 1
one_more p q n own few = go (eqb p q) refl
  where
    go : (t : Bool) → eqb p q ≡ t → cond t 1 0 + n ≤ 1
    go true e = omega (arith, own (eqb-true p q e))
    go false e = omega (arith, few)

uppers-none : (b p d k : ℕ) → p < d → occurs p (uppers (chain d b (suc d) k)) ≡ 0
unfolding chain occurs
uppers-none b p d zero h = rw (ne_eqb p d (λ e. absurd (omega arith)))
uppers-none b p d (suc k) h = rw (ne_eqb p d (λ e. absurd (omega arith))) (omega (arith, uppers-none b p (suc d) k (omega arith)))

uppers-once : (b p a d k : ℕ) → a < d → occurs p (uppers (chain a b d k)) ≤ 1
unfolding chain occurs
uppers-once b p a d zero h = one_more p a 0 (λ e. refl) (omega arith)
uppers-once b p a d (suc k) h =
    one_more p a (occurs p (uppers (chain d b (suc d) k))) (λ e. uppers-none b p d k (omega arith)) (uppers-once b p d (suc d) k (omega arith))

lowers-none : (b p a d k : ℕ) → p < d → p ≢ b → occurs p (lowers (chain a b d k)) ≡ 0
unfolding chain occurs
lowers-none b p a d zero h n = rw (ne_eqb p b n)
lowers-none b p a d (suc k) h n = rw (ne_eqb p d (λ e. absurd (omega arith))) (omega (arith, lowers-none b p d (suc d) k (omega arith) n))

lowers-once : (b p a d k : ℕ) → b < d → occurs p (lowers (chain a b d k)) ≤ 1
unfolding chain occurs
lowers-once b p a d zero h = one_more p b 0 (λ e. refl) (omega arith)
lowers-once b p a d (suc k) h =
    one_more p d (occurs p (lowers (chain d b (suc d) k))) (λ e. lowers-none b p d (suc d) k (omega arith) (λ f. absurd (omega arith)))
    (lowers-once b p d (suc d) k (omega arith))

-- ---- all edges

module _ (end : Segment → ℕ) (p : ℕ) where
  ends-append : (xs zs : List Segment) → occurs p (map end (xs ++ zs)) ≡ occurs p (map end xs) + occurs p (map end zs)
  unfolding occurs
  ends-append [] zs = omega arith
  ends-append (s ∷ xs) zs = omega (arith, ends-append xs zs)

  edges_few : (ys : List ℕ) → ((e : Edge) (d : ℕ) → Leads ys e → length ys ≤ d → occurs p (map end (chain e.from e.to d (between ys e))) ≤ 1)
      → (d : ℕ) (edges : List Edge) → length ys ≤ d → AllLead ys edges → occurs p (map end (segments_from ys d edges)) ≤ length edges
  unfolding segments_from occurs
  edges_few ys once d [] h l = omega arith
  edges_few ys once d (e ∷ edges) h l =
      omega (
        arith,
        ends-append (chain e.from e.to d (between ys e)) (segments_from ys (d + between ys e) edges),
        once e d (l.leads zero (zero-lt-suc (length edges))) h,
        edges_few ys once (d + between ys e) edges (omega arith) (leads-tail l),
      )

module _ (ys : List ℕ) (edges : List Edge) (l : AllLead ys edges) (p : ℕ) where
  pub uppers-few : occurs p (uppers (segments ys edges)) ≤ length edges
  unfolding segments
  uppers-few = edges_few (λ s. s.upper) p ys (λ e d h k. uppers-once e.to p e.from d (between ys e) (omega (arith, h.tail_node))) (length ys) edges (omega arith) l

  pub lowers-few : occurs p (lowers (segments ys edges)) ≤ length edges
  unfolding segments
  lowers-few = edges_few (λ s. s.lower) p ys (λ e d h k. lowers-once e.to p e.from d (between ys e) (omega (arith, h.head_node))) (length ys) edges (omega arith) l
