-- The end of the search for the best order.
use Rattle.std.specs.Prelude.{◌≡◌, List, ℕ}
use Rattle.graph.specs.Search.{run}
use Rattle.exchange.specs.Costs.{cost_of, floor_of}
use Rattle.exchange.specs.Best.{cheapest}
use Rattle.exchange.specs.Tables.{cost_in}

-- the best order of a row, and its cost
pub record BestIs (costs : List ℕ) (tries : ℕ) (row saved : List ℕ) (r : ℕ) : Type 0 where
  pub order_is : saved ≡ cheapest (cost_in costs) tries row
  pub cost_is : r ≡ cost_of (cost_in costs) saved

-- the answer for a row of k points
pub record RowIs (costs : List ℕ) (tries k : ℕ) (order : List ℕ) (crossings floor : ℕ) : Type 0 where
  pub order_is : order ≡ cheapest (cost_in costs) tries (run 0 k)
  pub crossings_are : crossings ≡ cost_of (cost_in costs) (cheapest (cost_in costs) tries (run 0 k))
  pub floor_is : floor ≡ floor_of (cost_in costs) (run 0 k)
