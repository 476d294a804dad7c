-- The present order of a row, numbered from 0, and the answer for it.
use mathlib.Core.Path.{◌≡◌, sym, ap, ◌∙◌, subst}
use mathlib.Core.List.{List}
use Prim.Native.Nat.{ℕ, ◌≤◌}
use native.Mathlib.Omega.{arith}
use Rattle.graph.specs.Search.{run}
use Rattle.buffers.proofs.RunLaws.{run_length, run_at}
use Rattle.exchange.specs.Costs.{cost_of, floor_of}
use Rattle.exchange.specs.Best.{cheapest}
use Rattle.exchange.specs.Limits.{max_row_points}
use Rattle.exchange.specs.Tables.{cost_in, RowPoints}
use Rattle.exchange.specs.Turns.{BestIs, RowIs}

-- a numbered row has few points, all in the table
pub row-points : (k : ℕ) (row : List ℕ) → k ≤ max_row_points → row ≡ run 0 k → RowPoints row
row-points k row h e = subst RowPoints (sym e) (record {
  few = omega (arith, run_length 0 k);
  points = λ i g. omega (arith, run_length 0 k, run_at 0 k i 0 (omega (arith, run_length 0 k)));
})

pub row-found : (costs : List ℕ) (tries k crossings floor : ℕ) (row best : List ℕ) → row ≡ run 0 k → BestIs costs tries row best crossings
    → floor ≡ floor_of (cost_in costs) row → RowIs costs tries k best crossings floor
row-found costs tries k crossings floor row best r b g = record {
  order_is = b.order_is ∙ ap (cheapest (cost_in costs) tries) r;
  crossings_are = b.cost_is ∙ ap (cost_of (cost_in costs)) (b.order_is ∙ ap (cheapest (cost_in costs) tries) r);
  floor_is = g ∙ ap (floor_of (cost_in costs)) r;
}
