-- The trial of all spaced x finds the best ones.
use mathlib.Core.Path.{◌≡◌, sym, ◌∙◌}
use mathlib.Core.Bool.{true}
use mathlib.Core.List.{List}
use Prim.Native.Nat.{ℕ, suc, ◌-◌, ◌≤◌, ◌<◌}
use native.Mathlib.Omega.{arith}
use lib.ListN.{length}
use lib.Seq.{take_all}
use Rattle.graph.specs.Rows.{at, Within}
use Rattle.graph.specs.Search.{keeps}
use Rattle.graph.proofs.SearchLaws.{keeps-feasible, under_at, all_map, all_keep, met-placements, Beats, first-lightest}
use Rattle.spacing.specs.Coordinates.{Costed, x_total, Spaced, BestX, Among}
use Rattle.spacing.specs.Auxiliary.{order_edges}
use Rattle.spacing.specs.Trial.{xs_of}
use Rattle.spacing.proofs.AuxiliaryLaws.{order-every, feasible-spaced, spaced-feasible}
use Rattle.spacing.proofs.BoundLaws.{x_below}

-- the edges between neighbours join points
order-within : (n : ℕ) (order : List (List ℕ)) (costed : List Costed) → Among n order costed → Within n (order_edges order)
order-within n order costed among =
    order-every (λ e. (e.from < n) × (e.to < n)) order (λ r i h k. (among.points_in r i h (omega arith), among.points_in r (suc i) h k))

-- Best x are among those that are tried, since they are spaced and below n. One that is tried before them is smaller somewhere, so it has a
-- larger total; one after them has no smaller total. So they are the first of least total.
pub best-is-xs_of : (n : ℕ) (order : List (List ℕ)) (costed : List Costed) → Among n order costed
    → (xs : List ℕ) → BestX n order costed xs → xs_of n order costed ≡ xs
unfolding xs_of
best-is-xs_of n order costed among xs best =
    first-lightest (λ zs. x_total costed (at zs)) xs
    (rw (take_all n xs (omega (arith, best.one_a_point))) at (met-placements (order_edges order) xs (spaced-feasible order (at xs) best.spaced) (n - 1) low n (omega (arith, best.one_a_point))))
    (all_map beats (all_keep (order_edges order) (n - 1) n))
  where
    low : (i : ℕ) → i < length xs → at xs i ≤ n - 1
    low i h = omega (arith, x_below n order costed among xs best i (omega (arith, best.one_a_point)))

    beats : (c : List ℕ) → (length c ≡ n) × (keeps (order_edges order) c ≡ true) → Beats (λ zs. x_total costed (at zs)) xs c
    beats c p =
        let s : Spaced order (at c) = feasible-spaced order (at c) (keeps-feasible (order_edges order) c (rw p.0 (order-within n order costed among)) p.1) in (
          best.least c p.0 s,
          λ e. under_at xs c (best.one_a_point ∙ sym p.0) (λ i h. best.lowest c p.0 s e i (omega (arith, best.one_a_point))),
        )
