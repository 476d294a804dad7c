-- The answer by the table is the answer in crossings.
use mathlib.Core.Path.{◌≡◌, refl, sym, ap, ◌∙◌, subst}
use mathlib.Core.Bool.{Bool, true, false, ◌||◌, cond}
use mathlib.Core.Logic.{◌⊎◌, inl, inr}
use mathlib.Core.List.{List, [], ◌∷◌}
use Prim.Native.Nat.{ℕ, zero, suc, ◌+◌, ◌≤◌, ◌<◌}
use native.Mathlib.Omega.{arith}
use lib.Dec.{eqb}
use lib.ListN.{length, get_or, replicate, length-replicate}
use borrow.Author.Tests.{eqb-true, eqb-false, ne_eqb}
use Rattle.graph.specs.Search.{run}
use Rattle.buffers.specs.Lists.{occurs}
use Rattle.buffers.proofs.RunLaws.{run_length, run_at}
use Rattle.buffers.proofs.ListLaws.{zero-at}
use Rattle.crossings.specs.Crossings.{PlacedSegment}
use Rattle.permutations.specs.Orders.{Permutation}
use Rattle.permutations.specs.Next.{Next, last, to, next_order, following, orders}
use Rattle.permutations.proofs.PointLaws.{one, one_same, one-cases, occurs-cons, occurs-none, same_refl, same-trans, below_each}
use Rattle.permutations.proofs.NextLaws.{next-same}
use Rattle.permutations.proofs.DictionaryLaws.{arranged-orders}
use Rattle.exchange.specs.Limits.{max_row_points}
use Rattle.exchange.specs.Costs.{cost_of, floor_of}
use Rattle.exchange.specs.Best.{fewest_by, first_fewest, cheapest}
use Rattle.exchange.specs.Tables.{table_size, cost_in}
use Rattle.exchange.specs.Turns.{RowIs}
use Rattle.exchange.proofs.CostLaws.{of_cons, of_none, with-cons, with_none}
use Rattle.exchange.proofs.AgreeLaws.{Once, of_agree, floor-agree}
use Rattle.exchange.proofs.BestLaws.{IsFirstFewest, first-fewest, fewest-agree}
use Rattle.std.specs.Prelude.{All}
use Rattle.pairs.specs.declared.ends.Ends.{Ends}
use Rattle.pairs.specs.Segments.{crossings_in, only, pair_crossings, cross_either, cost_between, cost_from, placed_end, placed}
use Rattle.pairs.specs.Filling.{UpTo, FewEnds, FilledIs, CrossedIs}
use Rattle.pairs.proofs.SegmentLaws.{Between, none, more, crossings-cost, order-crossings, run-once, run-has}

-- ---- the orders that are looked at

-- each has the points of the row
following-permutes : (row : List ℕ) (tries : ℕ) (p : List ℕ) → Permutation row p → (i : ℕ) → i < length (following tries (next_order p))
    → Permutation row (get_or (following tries (next_order p)) i [])
unfolding following
following-permutes row zero p h i g = absurd (omega arith)
following-permutes row (suc tries) p h i g = go (next_order p) refl i g (following-permutes row tries)
  where
    go : (s : Next) → next_order p ≡ s → (i : ℕ) → i < length (following (suc tries) s)
        → ((q : List ℕ) → Permutation row q → (i : ℕ) → i < length (following tries (next_order q)) → Permutation row (get_or (following tries (next_order q)) i []))
        → Permutation row (get_or (following (suc tries) s) i [])
    go last e i l rest = absurd (omega arith)
    go (to q) e zero l rest = same-trans h (next-same p q e)
    go (to q) e (suc i) l rest = rest q (same-trans h (next-same p q e)) i (omega arith)

pub orders-permute : (tries : ℕ) (row : List ℕ) (i : ℕ) → i < length (orders tries row) → Permutation row (get_or (orders tries row) i [])
unfolding orders
orders-permute tries row zero h = same_refl row
orders-permute tries row (suc i) h = following-permutes row tries row (same_refl row) i (omega arith)

best-permutes : (cost : ℕ → ℕ → ℕ) (tries : ℕ) (row : List ℕ) → Permutation row (cheapest cost tries row)
unfolding cheapest orders
best-permutes cost tries row =
    subst (Permutation row) (sym first.one) (orders-permute tries row first.which first.inside)
  where
    first : IsFirstFewest (cost_of cost) (orders tries row) (fewest_by (cost_of cost) row (following tries (next_order row)))
    first = first-fewest (cost_of cost) row (following tries (next_order row))

-- ---- a pair of points by itself

-- a segment of another point adds nothing
other_none : (s t : PlacedSegment) (i j : ℕ) → eqb t.lower i ≡ false → eqb t.lower j ≡ false → cross_either s t i j ≡ 0
other_none s t i j e f =
    rw (ne_eqb i t.lower (λ q. eqb-false t.lower i e (sym q)), ne_eqb j t.lower (λ q. eqb-false t.lower j f (sym q))) (go (eqb i s.lower))
  where
    go : (b : Bool) → cond b 0 0 + 0 ≡ zero
    go true = refl
    go false = refl

-- The segments that do not end at i or j add nothing to the costs of the pair.
module _ (i j : ℕ) where
  only-between : (s : PlacedSegment) (ts : List PlacedSegment) → cost_between s (only i j ts) i j ≡ cost_between s ts i j
  unfolding cost_between only
  only-between s [] = refl
  only-between s (t ∷ ts) = go (eqb t.lower i) refl (eqb t.lower j) refl (only-between s ts)
    where
      go : (a : Bool) → eqb t.lower i ≡ a → (b : Bool) → eqb t.lower j ≡ b → cost_between s (only i j ts) i j ≡ cost_between s ts i j
          → cost_between s (cond (a || b) (t ∷ only i j ts) (only i j ts)) i j ≡ cross_either s t i j + cost_between s ts i j
      go true e b f rest = omega (arith, rest)
      go false e true f rest = omega (arith, rest)
      go false e false f rest = omega (arith, rest, other_none s t i j e f)

  -- a segment that ends elsewhere costs nothing with any other
  stray-none : (s : PlacedSegment) (ts : List PlacedSegment) → eqb s.lower i ≡ false → eqb s.lower j ≡ false → cost_between s ts i j ≡ 0
  unfolding cost_between
  stray-none s [] e f = refl
  stray-none s (t ∷ ts) e f = omega (arith, other_none t s i j e f, stray-none s ts e f)

  only-cost : (ss : List PlacedSegment) → cost_from (only i j ss) i j ≡ cost_from ss i j
  unfolding cost_from only
  only-cost [] = refl
  only-cost (s ∷ ss) = go (eqb s.lower i) refl (eqb s.lower j) refl (only-cost ss)
    where
      go : (a : Bool) → eqb s.lower i ≡ a → (b : Bool) → eqb s.lower j ≡ b → cost_from (only i j ss) i j ≡ cost_from ss i j
          → cost_from (cond (a || b) (s ∷ only i j ss) (only i j ss)) i j ≡ cost_between s ss i j + cost_from ss i j
      go true e b f rest = omega (arith, rest, only-between s ss)
      go false e true f rest = omega (arith, rest, only-between s ss)
      go false e false f rest = omega (arith, rest, stray-none s ss e f)

  only-lands : {r : ℕ} {row : List ℕ} (ss : List PlacedSegment) → Between r row ss → Between r (i ∷ j ∷ []) (only i j ss)
  unfolding only
  only-lands [] none = none
  only-lands {r} (s ∷ ss) (more e g l) = go (eqb s.lower i) refl (eqb s.lower j) refl (only-lands ss l)
    where
      go : (a : Bool) → eqb s.lower i ≡ a → (b : Bool) → eqb s.lower j ≡ b → Between r (i ∷ j ∷ []) (only i j ss)
          → Between r (i ∷ j ∷ []) (cond (a || b) (s ∷ only i j ss) (only i j ss))
      go true p b q rest =
          more {s = s} e (omega (arith, occurs-cons s.lower i (j ∷ []), ap (one s.lower) (eqb-true s.lower i p), one_same s.lower)) rest
      go false p true q rest =
          more {s = s} e
          (omega (arith, occurs-cons s.lower i (j ∷ []), occurs-cons s.lower j [], ap (one s.lower) (eqb-true s.lower j q), one_same s.lower)) rest
      go false p false q rest = rest

  two-once : (i ≡ j → ⊥) → Once (i ∷ j ∷ [])
  two-once n = record { once = λ p. go p (one-cases p i) (one-cases p j) }
    where
      at_most : (p q : ℕ) → one p q ≤ 1
      at_most p q = go (one-cases p q)
        where
          go : (p ≡ q) ⊎ (one p q ≡ 0) → one p q ≤ 1
          go (inl e) = omega (arith, ap (one p) e, one_same p)
          go (inr e) = omega arith

      go : (p : ℕ) → (p ≡ i) ⊎ (one p i ≡ 0) → (p ≡ j) ⊎ (one p j ≡ 0) → occurs p (i ∷ j ∷ []) ≤ 1
      go p (inl e) (inl f) = absurd (n (sym e ∙ f))
      go p (inr e) (inl f) = omega (arith, at_most p j, occurs-cons p i (j ∷ []), occurs-cons p j [], occurs-none p)
      go p (inl e) (inr f) = omega (arith, at_most p i, occurs-cons p i (j ∷ []), occurs-cons p j [], occurs-none p)
      go p (inr e) (inr f) = omega (arith, occurs-cons p i (j ∷ []), occurs-cons p j [], occurs-none p)

  -- The crossings of a pair of points in one of its orders are what the pair costs.
  pub pair-cost : {r : ℕ} {row : List ℕ} (ss : List PlacedSegment) → Between r row ss → (i ≡ j → ⊥) → cost_from ss i j ≡ pair_crossings ss i j
  pair-cost {r} ss l n =
      omega (
        arith,
        only-cost ss,
        crossings-cost r (i ∷ j ∷ []) (two-once n) (only i j ss) (only-lands ss l),
        of_cons (cost_from (only i j ss)) i (j ∷ []),
        with-cons (cost_from (only i j ss)) i j [],
        with_none (cost_from (only i j ss)) i,
        of_cons (cost_from (only i j ss)) j [],
        with_none (cost_from (only i j ss)) j,
        of_none (cost_from (only i j ss)),
      )

-- ---- segments by where their ends stand

-- from whichever row they start, they cost the same
module _ (r : ℕ) where
  between-row : (s : Ends) (ends : List Ends) (i j : ℕ) → cost_between (placed_end r s) (placed r ends) i j ≡ cost_between (placed_end 0 s) (placed 0 ends) i j
  unfolding cost_between
  between-row s [] i j = refl
  between-row s (e ∷ ends) i j = omega (arith, between-row s ends i j)

  from_row : (ends : List Ends) (i j : ℕ) → cost_from (placed r ends) i j ≡ cost_from (placed 0 ends) i j
  unfolding cost_from
  from_row [] i j = refl
  from_row (e ∷ ends) i j = omega (arith, between-row e ends i j, from_row ends i j)

  ends-between : (n : ℕ) (ends : List Ends) → All (λ e. e.lower < n) ends → Between r (run 0 n) (placed r ends)
  ends-between n [] h = none
  ends-between n (e ∷ ends) h =
      more {s = placed_end r e} refl (run-has 0 n e.lower (omega arith) (omega (arith, h 0 e (omega arith)))) (ends-between n ends (λ k d l. h (suc k) d (omega arith)))

-- ---- the answer

-- a new table is empty
pub table_empty : UpTo 0 (replicate table_size 0)
table_empty = record { table = length-replicate {A = ℕ} table_size 0; low = λ k. omega (arith, zero-at table_size k) }

-- the present order has each point once, all of them in the table
run-single : (k : ℕ) → Once (run 0 k)
run-single k = record { once = run-once 0 k }

run-low : (k : ℕ) → k ≤ max_row_points → (v : ℕ) → 0 < occurs v (run 0 k) → v < max_row_points
run-low k h = below_each max_row_points (run 0 k) (λ i g. omega (arith, run_length 0 k, run_at 0 k i 0 (omega (arith, run_length 0 k))))

module _ (ends : List Ends) (costs : List ℕ) (tries k : ℕ) (few : k ≤ max_row_points) (low : FewEnds k ends) (f : FilledIs ends costs) (r : ℕ) where
  -- the segments, from row r
  abbrev ss : List PlacedSegment
  ss = placed r ends

  lands : Between r (run 0 k) ss
  lands = ends-between r k ends low.inside

  -- what the table has for a pair are its crossings
  entry : (i j : ℕ) → 0 < occurs i (run 0 k) → 0 < occurs j (run 0 k) → cost_in costs i j ≡ cost_from ss i j
  entry i j h g = f.each i j (run-low k few i h) (run-low k few j g) ∙ sym (from_row r ends i j)

  -- what an order costs by the table are its crossings
  counted : (order : List ℕ) → Permutation (run 0 k) order → cost_of (cost_in costs) order ≡ crossings_in ss order
  counted order p =
      of_agree (cost_in costs) (cost_from ss) order (record { once = λ v. omega (arith, p.points v, run-once 0 k v) })
      (record { pairs = λ i j h g n. entry i j (omega (arith, p.points i)) (omega (arith, p.points j)) })
      ∙ sym (order-crossings r k ss order lands p)

  first-is : cheapest (cost_in costs) tries (run 0 k) ≡ first_fewest (crossings_in ss) (orders tries (run 0 k))
  unfolding cheapest orders
  first-is =
      fewest-agree (cost_of (cost_in costs)) (crossings_in ss) (run 0 k) (following tries (next_order (run 0 k)))
      (λ i g. counted (get_or (run 0 k ∷ following tries (next_order (run 0 k))) i []) (looked i g))
    where
      looked : (i : ℕ) → i < length (orders tries (run 0 k)) → Permutation (run 0 k) (get_or (orders tries (run 0 k)) i [])
      looked i g = orders-permute tries (run 0 k) i g

  floor-same : floor_of (cost_in costs) (run 0 k) ≡ floor_of (pair_crossings ss) (run 0 k)
  floor-same =
      floor-agree (cost_in costs) (pair_crossings ss) (run 0 k) (run-single k) (record { pairs = λ i j h g n. entry i j h g ∙ pair-cost i j ss lands n })

-- The table has the costs of all pairs of the row, and what an order costs are its crossings.
pub row-crossed : (ends : List Ends) (costs : List ℕ) (tries k : ℕ) (order : List ℕ) (crossings floor : ℕ) → k ≤ max_row_points → FewEnds k ends
    → FilledIs ends costs → RowIs costs tries k order crossings floor → CrossedIs ends tries k order crossings floor
row-crossed ends costs tries k order crossings floor few low f a = record {
  order_is = λ r. a.order_is ∙ first-is ends costs tries k few low f r ∙ ap (first_fewest (crossings_in (placed r ends))) (arranged-orders tries k);
  crossings_are = λ r. a.crossings_are ∙ counted ends costs tries k few low f r (cheapest (cost_in costs) tries (run 0 k)) found
      ∙ ap (crossings_in (placed r ends)) (sym a.order_is);
  floor_is = λ r. a.floor_is ∙ floor-same ends costs tries k few low f r;
}
  where
    found : Permutation (run 0 k) (cheapest (cost_in costs) tries (run 0 k))
    found = best-permutes (cost_in costs) tries (run 0 k)

-- points of a short row are points of the longest
pub all-in : (k : ℕ) (ends : List Ends) → k ≤ max_row_points → FewEnds k ends → FewEnds max_row_points ends
all-in k ends h f = record { few = f.few; inside = λ i d l. omega (arith, f.inside i d l) }
