-- Without loops some feasible rows are low, for any node count and any largest gap: each node stands at the largest gap times the
-- number of nodes that a walk leads from to it. Along an edge these are more: they stay, and the edge's tail, which no walk leads back
-- to, is new. A node is not among its own, so there are at most n - 1 of them.
use mathlib.Core.Path.{◌≡◌, refl, subst}
use mathlib.Core.List.{List}
use Prim.Native.Nat.{ℕ, zero, suc, ◌+◌, ◌-◌, ◌*◌, ◌≤◌, ◌<◌, min, zero-le}
use native.Mathlib.Nat.{not-suc-le-zero, le_trans, mul-le-mul_left, mul-le-mul_right, mul-suc, mul_comm}
use native.Mathlib.Decide.{dec_lt}
use native.Mathlib.Omega.{arith}
use lib.ListN.{length, get_or}
use Rattle.graph.specs.declared.Edge.{Edge}
use Rattle.graph.specs.Rows.{at, no_edge, Within}
use Rattle.graph.specs.Search.{widest}
use Rattle.graph.proofs.BoundLaws.{gap-le-widest, widest-le}
use Rattle.acyclic.specs.Loops.{Walk, LoopFree, LowRows, reached}
use Rattle.acyclic.specs.Loops as loops
use Rattle.acyclic.proofs.ReachLaws.{reached-sound, reached-complete}

-- a sum over the numbers below n
unfoldable sum : ℕ → (ℕ → ℕ) → ℕ
sum zero f = 0
sum (suc n) f = f n + sum n f

sum-le : (n : ℕ) (f g : ℕ → ℕ) → ((k : ℕ) → f k ≤ g k) → sum n f ≤ sum n g
unfolding sum
sum-le zero f g h = zero-le
sum-le (suc n) f g h = omega (arith, h n, sum-le n f g h)

sum_lt : (n : ℕ) (f g : ℕ → ℕ) → ((k : ℕ) → f k ≤ g k) → (u : ℕ) → u < n → f u < g u → sum n f < sum n g
unfolding sum
sum_lt zero f g h u l s = absurd (not-suc-le-zero l)
sum_lt (suc n) f g h u l s = go (dec_lt u n) (λ p. sum_lt n f g h u p s)
  where
    go : Dec (u < n) → (u < n → sum n f < sum n g) → sum (suc n) f < sum (suc n) g
    go (yes p) ih = omega (arith, h n, ih p)
    go (no p) ih = let e : u ≡ n = omega arith in omega (arith, sum-le n f g h, subst (λ (j : ℕ). f j < g j) e s)

sum_one : (n : ℕ) → sum n (λ _. 1) ≡ n
unfolding sum
sum_one zero = refl
sum_one (suc n) = omega (arith, sum_one n)

min-up : (x y : ℕ) → (0 < x → 0 < y) → min 1 x ≤ min 1 y
min-up zero y h = omega arith
min-up (suc x) y h = omega (arith, h (omega arith))

zero-unless : (x : ℕ) → (0 < x → ⊥) → x ≡ 0
zero-unless zero h = refl
zero-unless (suc x) h = absurd (h (omega arith))

module _ (n : ℕ) (edges : List Edge) (within : Within n edges) (free : LoopFree edges) where
  -- 1 where a walk leads from k to v, else 0
  abbrev leads : ℕ → ℕ → ℕ
  leads v k = min 1 (at (reached n edges k) v)

  complete : {k v : ℕ} → Walk edges k v → 0 < at (reached n edges k) v
  complete {k} w = reached-complete n edges k (λ i h. (within i h).1) w

  leads-home : (v : ℕ) → at (reached n edges v) v ≡ 0
  leads-home v = zero-unless _ (λ p. free.free v (reached-sound n edges v v p))

  leads-up : (i : ℕ) → i < length edges → (k : ℕ) → leads (get_or edges i no_edge).from k ≤ leads (get_or edges i no_edge).to k
  leads-up i h k = min-up _ _ (λ p. complete (loops.more i h (reached-sound n edges k _ p)))

  -- how many nodes a walk leads from to v
  count : ℕ → ℕ
  count v = sum n (leads v)

  count-up : (i : ℕ) → i < length edges → count (get_or edges i no_edge).from < count (get_or edges i no_edge).to
  unfolding count
  count-up i h =
      let u = (get_or edges i no_edge).from in
      sum_lt n _ _ (leads-up i h) u (within i h).0 (omega (arith, leads-home u, complete (loops.one i h refl)))

  count_low : (v : ℕ) → v < n → count v < n
  unfolding count
  count_low v l = omega (arith, sum_lt n (leads v) (λ _. 1) (λ k. omega arith) v l (omega (arith, leads-home v)), sum_one n)

  pub low_rows : LowRows n edges ((n - 1) * widest edges)
  low_rows =
      record {
        rows = λ v. widest edges * count v;
        kept = λ i h.
            omega (arith, mul-le-mul_left (widest edges) (count-up i h), mul-suc (widest edges) (count (get_or edges i no_edge).from), gap-le-widest edges i h);
        low = λ v l. omega (arith, mul-le-mul_left (widest edges) (bound v l), mul_comm (widest edges) (n - 1));
      }
    where
      bound : (v : ℕ) → v < n → count v ≤ n - 1
      bound v l = omega (arith, count_low v l)

pub low_up : {n : ℕ} {edges : List Edge} {low high : ℕ} → low ≤ high → LowRows n edges low → LowRows n edges high
low_up le r = record { rows = r.rows; kept = r.kept; low = λ v l. le_trans (r.low v l) le }

-- the bound at limits of the node count and of the gaps
pub low-rows-at : (n : ℕ) (edges : List Edge) → Within n edges → LoopFree edges → (most top : ℕ) → n ≤ most
    → ((i : ℕ) → i < length edges → (get_or edges i no_edge).gap ≤ top) → LowRows n edges ((most - 1) * top)
low-rows-at n edges within free most top le gaps =
    low_up (le_trans (mul-le-mul_left (n - 1) (widest-le edges top gaps)) (mul-le-mul_right top (omega arith))) (low_rows n edges within free)
