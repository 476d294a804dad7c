-- A drawing on its way: the order that the passes work on, the best so far beside it, and what is left to do.
use Rattle.std.specs.Prelude.{◌≡◌, ℕ, suc, ◌+◌, ◌/◌, ◌≤◌, ◌<◌, length, take}
use mathlib.Core.List.{List, map, flatten}
use Rattle.graph.specs.Rows.{at}
use Rattle.table.specs.Limits.{max_edges}
use Rattle.points.specs.Limits.{max_points}
use Rattle.points.specs.Points.{Segment}
use Rattle.passes.specs.Order.{Direction, downward, results}
use Rattle.fewest.specs.Fewest.{Drawing, drawn, fewest, best_order}
use Rattle.crossings.specs.Crossings.{crossings}
use Rattle.buffers.specs.Lists.{Below, occurs}
use Rattle.passes.specs.Laid.{segments_in, rows_held, SegmentEnds, Laid}
use Rattle.crossings.specs.Tally.{block_size}
use Rattle.crossings.specs.Placing.{segment_limit}

-- What a loop over the passes has left to do: the best so far against the results of the k passes that are left, the next one in
-- direction d on the order o.
unfoldable pub rest_from : List ℕ → List Segment → List (List ℕ) → ℕ → Direction → List (List ℕ) → Drawing
rest_from ys segs best k d o = fewest (drawn ys segs best) (map (drawn ys segs) (results segs ys k d o))

-- the drawing of points in their rows and of segments by their ends; `first` has as many rows as there are
abbrev pub best_in : List ℕ → List ℕ → List ℕ → List ℕ → Drawing
best_in row upper lower first = best_order (rows_held first) row (segments_in upper lower)

-- Segments between points of neighbouring rows, one entry for each. There are no more points than a chart has, and above and below a point no
-- more segments than a chart has edges.
pub record Segmented (row upper lower : List ℕ) : Type 0 where
  pub both : length lower ≡ length upper
  pub upper_in : Below (length row) upper
  pub lower_in : Below (length row) lower
  pub few : length upper < segment_limit
  pub few_points : length row ≤ max_points
  pub few_above : (p : ℕ) → occurs p lower ≤ max_edges
  pub few_below : (p : ℕ) → occurs p upper ≤ max_edges
  pub down : (k : ℕ) → k < length upper → at row (at lower k) ≡ at row (at upper k) + 1

-- room for a list and a count of segments by point, the near end of which that point is
pub record ListRoom (row near head next counts : List ℕ) : Type 0 where
  pub heads_long : length row ≤ length head
  pub next_long : length next ≡ length near
  pub counts_long : length row ≤ length counts

-- what no pass changes: the segments at each end of each point, listed and counted
pub record Prepared (row upper lower above_head above_next above below_head below_next below : List ℕ) : Type 0 where
  pub segmented : Segmented row upper lower
  pub ends_above : SegmentEnds (length row) lower upper above_head above_next above
  pub ends_below : SegmentEnds (length row) upper lower below_head below_next below

-- room for the start order, its positions and a copy of it
pub record Roomy (row first order pos saved : List ℕ) : Type 0 where
  pub rows_in : Below (rows_held first) row
  pub first_long : 0 < length first
  pub order_long : length row ≤ length order
  pub pos_long : length row ≤ length pos
  pub same : length saved ≡ length order

-- Room for the sums and for a row of a pass. A count of crossings takes them too: the row for counts, and the sums for those by block.
pub record Scratch (row totals moved : List ℕ) : Type 0 where
  pub totals_long : length row ≤ length totals
  pub moved_long : length row ≤ length moved
  pub blocks_long : length moved / block_size < length totals

-- what a pass works on: some order in its lists, and room for its work and for a copy of the order
pub record Passable (row first order pos totals moved saved : List ℕ) : Type 0 where
  pub o : List (List ℕ)
  pub laid : Laid row (rows_held first) o order first pos
  pub scratch : Scratch row totals moved
  pub same : length saved ≡ length order

-- An order in its lists, and the best so far with its crossings: the drawing of the chart is what is left of it, after `left` more
-- passes, the next one in direction d.
pub record Improving (row upper lower first : List ℕ) (left : ℕ) (d : Direction) (order pos saved : List ℕ) (fewest : ℕ) : Type 0 where
  pub o : List (List ℕ)
  pub best : List (List ℕ)
  pub laid : Laid row (rows_held first) o order first pos
  pub same : length saved ≡ length order
  pub best_flat : take (length row) saved ≡ flatten best
  pub best_crossings : fewest ≡ crossings row (segments_in upper lower) best
  pub rest : best_in row upper lower first ≡ rest_from row (segments_in upper lower) best left d o

-- a drawing in the first entries of a list, and its crossings
pub record DrawingHeld (d : Drawing) (order : List ℕ) (crossings : ℕ) : Type 0 where
  pub order_is : take (length (flatten d.order)) order ≡ flatten d.order
  pub crossings_are : crossings ≡ d.crossings

-- A pass down and a pass up: however many passes were left, two fewer are; and where they left the order as it was, the best so far is
-- the drawing.
pub record Bettered (row upper lower first : List ℕ) (order pos saved : List ℕ) (fewest : ℕ) (order' pos' saved' : List ℕ) (fewest' : ℕ) : Type 0 where
  pub steps : (left : ℕ) → Improving row upper lower first (suc (suc left)) downward order pos saved fewest
      → Improving row upper lower first left downward order' pos' saved' fewest'
  pub still : (left : ℕ) → Improving row upper lower first (suc (suc left)) downward order pos saved fewest → order' ≡ order
      → DrawingHeld (best_in row upper lower first) saved' fewest'
