-- The costs that the code lays, line by line, are those of the chart's segments.
use mathlib.Core.Path.{◌≡◌, refl, ap, ◌∙◌}
use mathlib.Core.Bool.{Bool, true, false, cond}
use mathlib.Core.List.{List, [], ◌∷◌, ◌++◌, map, map-append}
use Prim.Native.Nat.{ℕ, zero, suc, ◌+◌, ◌*◌, ◌≤◌, ◌<◌, suc-le-suc}
use native.Mathlib.Nat.{le_of_suc-le-suc, zero-lt-suc, mul-le-mul_left, mul-le-mul_right, le_trans}
use native.Mathlib.Omega.{arith}
use lib.Dec.{eqb}
use lib.ListN.{length}
use borrow.Author.Tests.{eq-eqb, ne_eqb, lt-ltb, le-ltb}
use Rattle.graph.specs.declared.Edge.{Edge}
use Rattle.graph.specs.Rows.{at}
use Rattle.graph.specs.Search.{run}
use Rattle.points.specs.Points.{Segment, between, chain, segments_from, segments}
use Rattle.points.proofs.PointLaws.{tails, heads}
use Rattle.spacing.specs.Limits.{plain_factor, end_factor, inner_factor}
use Rattle.spacing.specs.Coordinates.{Costed}
use Rattle.spacing.specs.Flat.{costed_of}
use Rattle.coordinates.specs.Costs.{priced, costed_from, chart_costed}
use Rattle.coordinates.specs.Costing.{factor_at, line_costs, costs_from, lines_of}

abbrev pub weights : List Edge → List ℕ
weights edges = map (λ (e : Edge). e.weight) edges

abbrev pub costs : List Costed → List ℕ
costs costed = map (λ (s : Costed). s.cost) costed

-- ---- one line

-- The segments from dummy u on, which is the upper end of segment j of a line with j + i dummies: each but the last leads to a dummy.
module _ (n weight b : ℕ) (step : b < n) where
  inner : (u d j i k : ℕ) → n ≤ u → n ≤ d → 0 < j → j + i ≡ k
      → costs (map (priced n weight) (chain u b d i)) ≡ map (λ (l : ℕ). weight * factor_at l k) (run j (suc i))
  unfolding chain run
  inner u d j zero k hu hd hj e =
      rw (le-ltb u n hu, lt-ltb b n step, ne_eqb j 0 (λ (z : j ≡ 0). omega arith), eq-eqb j k (omega arith))
  inner u d j (suc i) k hu hd hj e =
      rw (le-ltb u n hu, le-ltb d n hd, ne_eqb j 0 (λ (z : j ≡ 0). omega arith), ne_eqb j k (λ (z : j ≡ k). omega arith))
      (ap (λ (l : List ℕ). weight * inner_factor ∷ l) (inner d (suc d) (suc j) i k hd (omega arith) (omega arith) (omega arith)))

  -- A line from step a to step b: its first segment starts at a step, its last ends at one, and all else are dummies.
  pub line-costs : (a d k : ℕ) → a < n → n ≤ d → costs (map (priced n weight) (chain a b d k)) ≡ line_costs weight k
  unfolding chain run line_costs
  line-costs a d zero ha hd = rw (lt-ltb a n ha, lt-ltb b n step)
  line-costs a d (suc k) ha hd =
      rw (lt-ltb a n ha, le-ltb d n hd, ne_eqb 0 (suc k) (λ (z : 0 ≡ suc k). omega arith))
      (ap (λ (l : List ℕ). weight * end_factor ∷ l) (inner d (suc d) 1 k (suc k) hd (omega arith) (omega arith) (omega arith)))

-- ---- all lines

-- both ends of every edge are steps
pub data Ends (n : ℕ) : List Edge → Type 0 where
  none : Ends n []
  one : {e : Edge} {edges : List Edge} → e.from < n → e.to < n → Ends n edges → Ends n (e ∷ edges)

pub costs-are : (n : ℕ) (ys : List ℕ) (d : ℕ) (edges : List Edge) → n ≤ d → Ends n edges → costs (costed_from n ys d edges) ≡ costs_from ys edges
unfolding costed_from costs_from
costs-are n ys d [] h ends = refl
costs-are n ys d (e ∷ edges) h (one f t ends) =
    map-append (λ (s : Costed). s.cost) (map (priced n e.weight) (chain e.from e.to d (between ys e))) (costed_from n ys (d + between ys e) edges)
    ∙ ap (λ (l : List ℕ). l ++ costs (costed_from n ys (d + between ys e) edges)) (line-costs n e.weight e.to t e.from d (between ys e) f h)
    ∙ ap (λ (l : List ℕ). line_costs e.weight (between ys e) ++ l) (costs-are n ys (d + between ys e) edges (omega arith) ends)

pub chart-costs : (ys : List ℕ) (edges : List Edge) → Ends (length ys) edges → costs (chart_costed ys edges) ≡ costs_from ys edges
unfolding chart_costed
chart-costs ys edges = costs-are (length ys) ys (length ys) edges (omega arith)

-- ---- the segments

pub segment_of : Costed → Segment
segment_of s = record { upper = s.upper; lower = s.lower }

priced-segments : (n weight : ℕ) (segs : List Segment) (rest : List Costed) → map segment_of (map (priced n weight) segs ++ rest) ≡ segs ++ map segment_of rest
unfolding segment_of
priced-segments n weight [] rest = refl
priced-segments n weight (s ∷ segs) rest = ap (λ (l : List Segment). s ∷ l) (priced-segments n weight segs rest)

costed-segments : (n : ℕ) (ys : List ℕ) (d : ℕ) (edges : List Edge) → map segment_of (costed_from n ys d edges) ≡ segments_from ys d edges
unfolding costed_from segments_from
costed-segments n ys d [] = refl
costed-segments n ys d (e ∷ edges) =
    let c = chain e.from e.to d (between ys e) in
    priced-segments n e.weight c (costed_from n ys (d + between ys e) edges)
    ∙ ap (λ (l : List Segment). c ++ l) (costed-segments n ys (d + between ys e) edges)

-- each segment of the chart is one that costs, in the same order
pub chart-segments : (ys : List ℕ) (edges : List Edge) → map segment_of (chart_costed ys edges) ≡ segments ys edges
unfolding chart_costed segments
chart-segments ys edges = costed-segments (length ys) ys (length ys) edges

-- taken apart into three flat lists and put together again
flat-again : (cs : List Costed) → costed_of (map (λ (s : Segment). s.upper) (map segment_of cs)) (map (λ (s : Segment). s.lower) (map segment_of cs)) (costs cs) ≡ cs
unfolding costed_of segment_of
flat-again [] = refl
flat-again (s ∷ cs) = ap (λ (l : List Costed). s ∷ l) (flat-again cs)

-- So the ends of the segments, as they are laid, and the costs, as they are laid, are the chart's.
pub costed-flat : (ys : List ℕ) (edges : List Edge) → Ends (length ys) edges
    → costed_of (map (λ (s : Segment). s.upper) (segments ys edges)) (map (λ (s : Segment). s.lower) (segments ys edges)) (costs_from ys edges) ≡ chart_costed ys edges
costed-flat ys edges ends = rw (← chart-segments ys edges, ← chart-costs ys edges ends) (flat-again (chart_costed ys edges))

-- ---- gaps play no part

pub any-costs : (ys : List ℕ) (edges : List Edge) → costs_from ys (lines_of (tails edges) (heads edges) (weights edges)) ≡ costs_from ys edges
unfolding costs_from lines_of
any-costs ys [] = refl
any-costs ys (e ∷ edges) = ap (λ (l : List ℕ). line_costs e.weight (between ys e) ++ l) (any-costs ys edges)

costed-by-ends : (n : ℕ) (ys : List ℕ) (d : ℕ) (edges : List Edge) → costed_from n ys d (lines_of (tails edges) (heads edges) (weights edges)) ≡ costed_from n ys d edges
unfolding costed_from lines_of
costed-by-ends n ys d [] = refl
costed-by-ends n ys d (e ∷ edges) =
    ap (λ (l : List Costed). map (priced n e.weight) (chain e.from e.to d (between ys e)) ++ l) (costed-by-ends n ys (d + between ys e) edges)

pub any-costed : (ys : List ℕ) (edges : List Edge) → chart_costed ys (lines_of (tails edges) (heads edges) (weights edges)) ≡ chart_costed ys edges
unfolding chart_costed
any-costed ys edges = costed-by-ends (length ys) ys (length ys) edges

-- ---- how large a cost is

pub factor-low : (j k : ℕ) → factor_at j k ≤ inner_factor
factor-low j k = go (eqb j 0) (eqb j k)
  where
    go : (s t : Bool) → cond s (cond t plain_factor end_factor) (cond t end_factor inner_factor) ≤ inner_factor
    go true true = omega arith
    go true false = omega arith
    go false true = omega arith
    go false false = omega arith

pub cost_low : (weight most j k : ℕ) → weight ≤ most → weight * factor_at j k ≤ most * inner_factor
cost_low weight most j k h = le_trans (mul-le-mul_left weight (factor-low j k)) (mul-le-mul_right inner_factor h)

-- every number of a list is at most b
pub data All≤ (b : ℕ) : List ℕ → Type 0 where
  none : All≤ b []
  one : {x : ℕ} {l : List ℕ} → x ≤ b → All≤ b l → All≤ b (x ∷ l)

all_append : {b : ℕ} {l m : List ℕ} → All≤ b l → All≤ b m → All≤ b (l ++ m)
all_append none k = k
all_append (one x h) k = one x (all_append h k)

pub all-at : (b : ℕ) (l : List ℕ) → All≤ b l → (i : ℕ) → i < length l → at l i ≤ b
all-at b [] h i k = absurd (omega arith)
all-at b (x ∷ l) (one p h) zero k = p
all-at b (x ∷ l) (one p h) (suc i) k = all-at b l h i (le_of_suc-le-suc k)

run-all : (weight most k j i : ℕ) → weight ≤ most → All≤ (most * inner_factor) (map (λ (l : ℕ). weight * factor_at l k) (run j i))
unfolding run
run-all weight most k j zero h = none
run-all weight most k j (suc i) h = one (cost_low weight most j k h) (run-all weight most k (suc j) i h)

pub costs-low : (most : ℕ) (ys : List ℕ) (edges : List Edge) → All≤ most (weights edges) → All≤ (most * inner_factor) (costs_from ys edges)
unfolding costs_from line_costs
costs-low most ys [] h = none
costs-low most ys (e ∷ edges) (one p h) = all_append (run-all e.weight most (between ys e) 0 (suc (between ys e)) p) (costs-low most ys edges h)

pub all_of : (b : ℕ) (l : List ℕ) → ((i : ℕ) → i < length l → at l i ≤ b) → All≤ b l
all_of b [] h = none
all_of b (x ∷ l) h = one (h zero (zero-lt-suc (length l))) (all_of b l (λ i k. h (suc i) (suc-le-suc k)))
