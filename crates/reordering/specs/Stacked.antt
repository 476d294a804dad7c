-- What the functions behind the best order of a row ask for and answer.
use Rattle.std.specs.Prelude.{◌≡◌, cond, ℕ, ◌+◌, ◌≤◌, ◌<◌, eqb, length, get_or}
use mathlib.Core.List.{List, [], ◌∷◌, flatten, map}
use Rattle.graph.specs.Rows.{at}
use Rattle.buffers.specs.Lists.{Below, occurs}
use Rattle.points.specs.Limits.{max_points}
use Rattle.points.specs.Points.{Segment}
use Rattle.points.specs.Laying.{uppers, lowers}
use Rattle.rooms.specs.Rooms.{segment_room}
use Rattle.crossings.specs.Crossings.{PlacedSegment}
use Rattle.reordering.specs.RowOrder.{row_crossings, best_row, row_floor}

-- of points in some order those of row r; `row` has the row of each point
unfoldable pub points_of : List ℕ → ℕ → List ℕ → List ℕ
points_of row r [] = []
points_of row r (p ∷ order) = let rest = points_of row r order in cond (eqb (at row p) r) (p ∷ rest) rest

-- the positions of the lower ends of segments
abbrev pub lower_places : List PlacedSegment → List ℕ
lower_places ss = map (λ (s : PlacedSegment). s.lower) ss

-- A chart in flat lists: the order o, its rows one behind the other in `order`, in which each point stands once, in its own row; and
-- segments, each from a row to the row below. Row r is one of its rows, and not the first.
pub record Stacked (o : List (List ℕ)) (segs : List Segment) (row upper lower order : List ℕ) (r : ℕ) : Type 0 where
  pub flat : order ≡ flatten o
  pub long : length order ≡ length row
  pub once : (p s : ℕ) → p < length row → occurs p (get_or o s []) ≡ cond (eqb (at row p) s) 1 0
  pub none : (p s : ℕ) → length row ≤ p → occurs p (get_or o s []) ≡ 0
  pub uppers_are : upper ≡ uppers segs
  pub lowers_are : lower ≡ lowers segs
  pub upper_in : Below (length row) upper
  pub lower_in : Below (length row) lower
  pub down : (k : ℕ) → k < length upper → at row (at lower k) ≡ at row (at upper k) + 1
  pub few_points : length row ≤ max_points
  pub few_segments : length upper ≤ segment_room max_points
  pub above : 0 < r
  pub tall : r < length o

-- some chart
pub record Stack (row upper lower order : List ℕ) (r : ℕ) : Type 0 where
  pub o : List (List ℕ)
  pub segs : List Segment
  pub stacked : Stacked o segs row upper lower order r

-- The answer for row r, whose points these are: whatever chart the flat lists stand for, `found` has the positions of the points in the
-- best order, and the numbers are its crossings and the floor.
pub record RowFoundIs (row upper lower order points : List ℕ) (r tries : ℕ) (found : List ℕ) (crossings floor : ℕ) : Type 0 where
  pub order_is : (o : List (List ℕ)) (segs : List Segment) → Stacked o segs row upper lower order r
      → map (at points) (found) ≡ best_row row segs o r tries
  pub crossings_are : (o : List (List ℕ)) (segs : List Segment) → Stacked o segs row upper lower order r → crossings ≡ row_crossings row segs o r (best_row row segs o r tries)
  pub floor_is : (o : List (List ℕ)) (segs : List Segment) → Stacked o segs row upper lower order r → floor ≡ row_floor row segs o r
  pub places : Below (length points) (found)
