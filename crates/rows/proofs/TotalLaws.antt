-- A loop that sums weight times length: what it has, and the total of the edges from here on, is the whole total.
use mathlib.Core.Path.{◌≡◌, refl, ap, ◌∙◌}
use mathlib.Core.List.{List, [], ◌∷◌, tail}
use Prim.Native.Nat.{ℕ, zero, suc, ◌+◌, ◌*◌, ◌-◌, ◌≤◌, ◌<◌}
use native.Mathlib.Nat.{le_trans, mul-le-mul_left, mul-le-mul_right, not-suc-le-zero, le_of_suc-le-suc}
use native.Mathlib.Numerals.{add-one}
use native.Mathlib.Omega.{arith}
use lib.ListN.{length, get_or, drop}
use lib.Seq.{drop-cons}
use Rattle.std.specs.List.{zip}
use Rattle.buffers.proofs.ZipLaws.{triple-at}
use Rattle.graph.specs.declared.Edge.{Edge}
use Rattle.graph.specs.Rows.{at, no_edge, total}
use Rattle.relaxation.specs.Network.{edges_of}
use Rattle.relaxation.proofs.EdgesLaws.{length-edges_of, edge_at}
use Rattle.table.specs.Limits.{max_weight}
use Rattle.rows.specs.Limits.{top_row}
use Rattle.rows.specs.Placed.{RowsSummable}

-- gaps play no part
pub total-gaps : (from to gap gap' weight : List ℕ) (y : ℕ → ℕ) → total (edges_of from to gap weight) y ≡ total (edges_of from to gap' weight) y
unfolding edges_of total
total-gaps [] to gap gap' weight y = refl
total-gaps (f ∷ from) to gap gap' weight y =
    ap (λ (k : ℕ). at weight 0 * (y (at to 0) - y f) + k) (total-gaps from (tail to) (tail gap) (tail gap') (tail weight) y)

total_first : (edges : List Edge) (i : ℕ) (y : ℕ → ℕ) → i < length edges
    → total (drop i edges) y ≡ (get_or edges i no_edge).weight * (y (get_or edges i no_edge).to - y (get_or edges i no_edge).from) + total (drop (i + 1) edges) y
unfolding total
total_first edges i y h = rw (drop-cons edges i no_edge h, add-one i)

total-none : (edges : List Edge) (i : ℕ) (y : ℕ → ℕ) → length edges ≤ i → total (drop i edges) y ≡ 0
unfolding total
total-none [] zero y h = refl
total-none [] (suc i) y h = refl
total-none (e ∷ edges) zero y h = absurd (not-suc-le-zero h)
total-none (e ∷ edges) (suc i) y h = total-none edges i y (le_of_suc-le-suc h)

-- the sum of the first i edges, and that it is small
pub record Summing (from to weight rows : List ℕ) (i sum : ℕ) : Type 0 where
  pub whole : sum + total (drop i (edges_of from to [] weight)) (at rows) ≡ total (edges_of from to [] weight) (at rows)
  pub small : sum ≤ i * (max_weight * top_row)
  pub some : i ≤ length from

module _ (from to weight rows : List ℕ) where
  pub summing-none : Summing from to weight rows 0 0
  summing-none = record { whole = omega arith; small = omega arith; some = omega arith }

  module _ (s : RowsSummable from to weight rows) (i : ℕ) (h : i < length from) where
    -- one edge's share
    pub share-low : at weight i * (at rows (at to i) - at rows (at from i)) ≤ max_weight * top_row
    share-low =
        le_trans (mul-le-mul_right (at rows (at to i) - at rows (at from i)) (s.weights i h)) (mul-le-mul_left max_weight short)
      where
        short : at rows (at to i) - at rows (at from i) ≤ top_row
        short = omega (arith, s.low (at to i) (s.ends.to_in i h))

    pub summing-more : (sum : ℕ) → Summing from to weight rows i sum
        → Summing from to weight rows (i + 1) (sum + at weight i * (at rows (at to i) - at rows (at from i)))
    summing-more sum p =
        record {
          whole = omega (arith, p.whole, one);
          small = omega (arith, p.small, share-low);
          some = omega arith;
        }
      where
        one : total (drop i (edges_of from to [] weight)) (at rows)
            ≡ at weight i * (at rows (at to i) - at rows (at from i)) + total (drop (i + 1) (edges_of from to [] weight)) (at rows)
        one =
            total_first (edges_of from to [] weight) i (at rows) (omega (arith, length-edges_of from to [] weight))
            ∙ ap (λ (e : Edge). e.weight * (at rows e.to - at rows e.from) + total (drop (i + 1) (edges_of from to [] weight)) (at rows))
            (edge_at from to [] weight i h)

  -- one turn of the loop, by what it read
  pub summing-turn : (s : RowsSummable from to weight rows) (i f t w sum : ℕ)
      → (i < length (zip (zip from to) weight)) × (◌≡◌ {A = (ℕ × ℕ) × ℕ} ((f, t), w) (get_or (zip (zip from to) weight) i ((f, t), w)))
      → Summing from to weight rows i sum
      → (w * (at rows t - at rows f) ≤ max_weight * top_row) × Summing from to weight rows (i + 1) (sum + w * (at rows t - at rows f))
  summing-turn s i f t w sum p l =
      let e = triple-at from to weight s.ends.to_long s.weight_long i f t w p in
      rw (e.1, e.2, e.3) (share-low s i e.0, summing-more s i e.0 sum l)

  pub summing-all : (i sum : ℕ) → length from ≤ i → Summing from to weight rows i sum → sum ≡ total (edges_of from to [] weight) (at rows)
  summing-all i sum h p = omega (arith, p.whole, total-none (edges_of from to [] weight) i (at rows) (omega (arith, length-edges_of from to [] weight)))
