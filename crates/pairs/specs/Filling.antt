-- The table of the costs of pairs, filled from segments, and the answer for a row.
use Rattle.std.specs.Prelude.{◌≡◌, List, ℕ, suc, ◌+◌, ◌≤◌, ◌<◌, length, get_or, take, All}
use Rattle.graph.specs.Search.{run}
use Rattle.permutations.specs.Orders.{arrangements}
use Rattle.exchange.specs.Limits.{max_row_points}
use Rattle.exchange.specs.Costs.{floor_of}
use Rattle.exchange.specs.Best.{first_fewest}
use Rattle.exchange.specs.Tables.{table_size, cost_in, cost_limit}
use Rattle.pairs.specs.declared.ends.Ends.{Ends}
use Rattle.pairs.specs.Segments.{crossings_in, pair_crossings, cost_from, placed}

-- more segments than lie between two rows of any chart, so few that all their crossings fit a word
abbrev pub ends_limit : ℕ
ends_limit = 32768

-- no entry has more than this when a segment is counted with those after it, and than that when a pair is
abbrev pub after_room : ℕ
after_room = 2000000000

abbrev pub pair_room : ℕ
pair_room = 4000000000

-- a table, and no entry larger than this
pub record UpTo (most : ℕ) (costs : List ℕ) : Type 0 where
  pub table : length costs ≡ table_size
  pub low : (k : ℕ) → get_or costs k 0 ≤ most

-- few enough segments, each to one of k points
pub record FewEnds (k : ℕ) (ends : List Ends) : Type 0 where
  pub few : length ends ≤ ends_limit
  pub inside : All (λ e. e.lower < k) ends

-- a table with other costs added to those of the pairs, none more than `more`
pub record CostsAdded (more : ℕ) (cost : ℕ → ℕ → ℕ) (old new : List ℕ) : Type 0 where
  pub table : length new ≡ table_size
  pub each : (i j : ℕ) → i < max_row_points → j < max_row_points → cost_in new i j ≡ cost_in old i j + cost i j
  pub room : (most : ℕ) → UpTo most old → (k : ℕ) → get_or new k 0 ≤ most + more

-- a table of the costs of all segments, from whichever row they start
pub record FilledIs (ends : List Ends) (costs : List ℕ) : Type 0 where
  pub table : length costs ≡ table_size
  pub low : (k : ℕ) → get_or costs k 0 < cost_limit
  pub each : (i j : ℕ) → i < max_row_points → j < max_row_points → cost_in costs i j ≡ cost_from (placed 0 ends) i j

-- The answer for a row of k points: of the present order and as many that follow it as there are tries the first with fewest crossings,
-- these, and the floor; from whichever row the segments start.
pub record CrossedIs (ends : List Ends) (tries k : ℕ) (order : List ℕ) (crossings floor : ℕ) : Type 0 where
  pub order_is : (r : ℕ) → order ≡ first_fewest (crossings_in (placed r ends)) (take (suc tries) (arrangements (run 0 k)))
  pub crossings_are : (r : ℕ) → crossings ≡ crossings_in (placed r ends) order
  pub floor_is : (r : ℕ) → floor ≡ floor_of (pair_crossings (placed r ends)) (run 0 k)
