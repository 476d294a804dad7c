-- The room in which the order of a chart is found, of two sizes, and what is answered of the order.
use Rattle.std.specs.Prelude.{◌≡◌, ℕ, ◌+◌, ◌/◌, ◌≤◌, ◌<◌, length, drop}
use mathlib.Core.List.{List, ◌++◌, flatten}
use Rattle.table.specs.Limits.{max_edges}
use Rattle.buffers.specs.Lists.{Below}
use Rattle.crossings.specs.Tally.{block_size}
use Rattle.fewest.specs.Fewest.{Drawing}

-- points for which the smaller room is made
abbrev pub small_points : ℕ
small_points = 128

-- segments between so many points: each edge has one more than dummies
abbrev pub segment_room : ℕ → ℕ
segment_room limit = limit + max_edges

-- points and segments in few enough rows for room that is made for so many points
pub record Sketched (limit : ℕ) (row upper : List ℕ) (count : ℕ) : Type 0 where
  pub few_points : length row ≤ limit
  pub few_segments : length upper ≤ segment_room limit
  pub few_rows : count ≤ limit
  pub rows_in : Below count row

-- room to find the order of n points between which there are m segments, in `count` rows
pub record Room (n m count : ℕ) (first order before pos totals moved above_head above_links above below_head below_links below saved : List ℕ) : Type 0 where
  pub first_long : count < length first
  pub order_long : n ≤ length order
  pub before_long : length before ≡ length order
  pub saved_long : length saved ≡ length order
  pub pos_long : n ≤ length pos
  pub totals_long : n ≤ length totals
  pub totals_rows : count ≤ length totals
  pub moved_long : n ≤ length moved
  pub blocks_long : length moved / block_size < length totals
  pub above_heads : n ≤ length above_head
  pub above_links_long : m ≤ length above_links
  pub above_counts : n ≤ length above
  pub below_heads : n ≤ length below_head
  pub below_links_long : m ≤ length below_links
  pub below_counts : n ≤ length below

-- an order in the first entries of a list, whose others stay, and its crossings
pub record DrawnIs (d : Drawing) (old new : List ℕ) (crossings : ℕ) : Type 0 where
  pub order_is : new ≡ flatten d.order ++ drop (length (flatten d.order)) old
  pub crossings_are : crossings ≡ d.crossings
