-- Segments as they are placed, in flat lists: `upper` and `lower` have the ends of each segment, `row` the row of each point and `pos`
-- its position in that row.
use Rattle.std.specs.Prelude.{◌≡◌, List, map, ℕ, ◌+◌, ◌-◌, ◌/◌, ◌≤◌, ◌<◌, length}
use Rattle.graph.specs.Rows.{at}
use Rattle.graph.specs.Search.{run}
use Rattle.buffers.specs.Lists.{Below}
use Rattle.points.specs.Lists.{Linked}
use Rattle.points.specs.Positions.{row_at}
use Rattle.crossings.specs.Crossings.{PlacedSegment, in_row, crossing_pairs}
use Rattle.crossings.specs.Tally.{block_size}

-- fewer segments than this have crossings that fit a word
abbrev pub segment_limit : ℕ
segment_limit = 1048576

-- segment k
abbrev pub placed_at : List ℕ → List ℕ → List ℕ → List ℕ → ℕ → PlacedSegment
placed_at upper lower row pos k = record { row = at row (at upper k); upper = at pos (at upper k); lower = at pos (at lower k) }

-- the segments in their order
unfoldable pub placed_by : List ℕ → List ℕ → List ℕ → List ℕ → List PlacedSegment
placed_by upper lower row pos = map (placed_at upper lower row pos) (run 0 (length upper))

-- of n points those of row r, from left to right: each stands at its position
pub record RowOf (n : ℕ) (row pos : List ℕ) (r : ℕ) (points : List ℕ) : Type 0 where
  pub below : (i : ℕ) → i < length points → at points i < n
  pub stands_in_row : (i : ℕ) → i < length points → at row (at points i) ≡ r
  pub stands : (i : ℕ) → i < length points → at pos (at points i) ≡ i
  pub none_past : (p : ℕ) → p < n → at row p ≡ r → at pos p < length points
  pub found : (p : ℕ) → p < n → at row p ≡ r → at points (at pos p) ≡ p

-- A chart in flat lists: the rows one behind the other in `order`, and segments from each row to the row below, in lists by upper end.
pub record ChartLists (upper row order first head next lower pos : List ℕ) : Type 0 where
  pub linked : Linked upper head next
  pub heads_long : length row ≤ length head
  pub both : length lower ≡ length upper
  pub few : length upper < segment_limit
  pub upper_in : Below (length row) upper
  pub lower_in : Below (length row) lower
  pub pos_long : length row ≤ length pos
  pub down : (k : ℕ) → k < length upper → at row (at lower k) ≡ at row (at upper k) + 1
  pub rows_in : (p : ℕ) → p < length row → at row p + 1 < length first
  pub rises : (r : ℕ) → r + 1 < length first → at first r ≤ at first (r + 1)
  pub inside : (r : ℕ) → r + 1 < length first → at first (r + 1) ≤ length order
  pub rows : (r : ℕ) → r + 1 < length first → RowOf (length row) row pos r (row_at first order r)

-- what a count works on: some chart in its lists, and counts and blocks for the widest row
pub record Countable (order first head next lower pos counts blocks : List ℕ) : Type 0 where
  pub upper : List ℕ
  pub row : List ℕ
  pub lists : ChartLists upper row order first head next lower pos
  pub wide : (r : ℕ) → r + 1 < length first → at first (r + 1) - at first r ≤ length counts
  pub blocks_long : length counts / block_size < length blocks

-- Whatever chart the lists hold, x is the number of crossings between row r and the row below, and of all rows.
pub record RowCrossings (order first head next lower pos : List ℕ) (r x : ℕ) : Type 0 where
  pub counted : (upper row : List ℕ) → ChartLists upper row order first head next lower pos → x ≡ crossing_pairs (in_row r (placed_by upper lower row pos))

pub record ChartCrossings (order first head next lower pos : List ℕ) (x : ℕ) : Type 0 where
  pub counted : (upper row : List ℕ) → ChartLists upper row order first head next lower pos → x ≡ crossing_pairs (placed_by upper lower row pos)
