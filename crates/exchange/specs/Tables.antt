-- The costs of pairs in a table, as the code keeps them.
use Rattle.std.specs.Prelude.{◌≡◌, List, ℕ, ◌+◌, ◌*◌, ◌≤◌, ◌<◌, length, get_or}
use Rattle.permutations.specs.Next.{to, next_order}
use Rattle.exchange.specs.Limits.{max_row_points}
use Rattle.exchange.specs.Costs.{cost_of}

-- an entry for each pair
abbrev pub table_size : ℕ
table_size = max_row_points * max_row_points

-- the cost of a pair, of a table that has a line for the left point and an entry in it for the right one
abbrev pub cost_in : List ℕ → ℕ → ℕ → ℕ
cost_in costs i j = get_or costs (i * max_row_points + j) 0

-- no pair costs as much as this
abbrev pub cost_limit : ℕ
cost_limit = 4294967296

-- a table of the crossings of pairs
pub record PairCosts (costs : List ℕ) : Type 0 where
  pub table : length costs ≡ table_size
  pub low : (k : ℕ) → get_or costs k 0 < cost_limit

-- a row of few points, whose pairs a table has
pub record RowPoints (order : List ℕ) : Type 0 where
  pub few : length order ≤ max_row_points
  pub points : (i : ℕ) → i < length order → get_or order i 0 < max_row_points

-- an order and what it costs
pub record CostIs (order costs : List ℕ) (total : ℕ) : Type 0 where
  pub row_points : RowPoints order
  pub total_is : total ≡ cost_of (cost_in costs) order

-- the order that is next, and what it costs
pub record Moved (p costs q : List ℕ) (total : ℕ) : Type 0 where
  pub next : next_order p ≡ to q
  pub costed : CostIs q costs total
