-- How the code keeps an order: the rows one behind the other in one list of points, where each row starts, and by point its position.
use Rattle.std.specs.Prelude.{◌≡◌, cond, ℕ, suc, ◌-◌, ◌≤◌, ◌<◌, eqb, length, get_or, take, set}
use mathlib.Core.List.{List, [], ◌∷◌, flatten, tail}
use Rattle.graph.specs.Rows.{at}
use Rattle.table.specs.Limits.{max_edges}
use Rattle.points.specs.Limits.{max_points}
use Rattle.points.specs.Points.{Segment}
use Rattle.points.specs.Positions.{place}
use Rattle.points.specs.Lists.{Linked}
use Rattle.buffers.specs.Lists.{Below, occurs}
use Rattle.barycentre.specs.Flat.{Counts}
use Rattle.passes.specs.Starts.{start}

-- The order o of points with the rows ys: `count` rows, in which each point stands once, in its own row, and nothing else stands.
-- They are the first entries of `order`; `first` has where each row starts and, behind the last, where it ends.
pub record Ranked (ys : List ℕ) (count : ℕ) (o : List (List ℕ)) (order first : List ℕ) : Type 0 where
  pub rows : length o ≡ count
  pub once : (p r : ℕ) → p < length ys → occurs p (get_or o r []) ≡ cond (eqb (at ys p) r) 1 0
  pub none : (p r : ℕ) → length ys ≤ p → occurs p (get_or o r []) ≡ 0
  pub flat : take (length ys) order ≡ flatten o
  pub order_long : length ys ≤ length order
  pub first_long : count < length first
  pub starts : (r : ℕ) → r ≤ count → at first r ≡ start o r

-- and with the position of each point
pub record Laid (ys : List ℕ) (count : ℕ) (o : List (List ℕ)) (order first pos : List ℕ) : Type 0 where
  pub ranked : Ranked ys count o order first
  pub pos_long : length ys ≤ length pos
  pub places : (p : ℕ) → p < length ys → at pos p ≡ place ys o p

-- the number of rows: `first` has an entry for each, and one behind the last
abbrev pub rows_held : List ℕ → ℕ
rows_held first = length first - 1

-- positions by point, after the points of a row were given theirs, numbered from i on
unfoldable pub stored : ℕ → List ℕ → List ℕ → List ℕ
stored i [] pos = pos
stored i (p ∷ row) pos = stored (suc i) row (set pos p i)

-- segments by the lists of their ends
unfoldable pub segments_in : List ℕ → List ℕ → List Segment
segments_in [] lower = []
segments_in (a ∷ upper) lower = record { upper = a; lower = at lower 0 } ∷ segments_in upper (tail lower)

-- Segments between n points, by the lists of their near and far ends; and by point a list of those that have it as their near end, and
-- how many they are. There are no more points than a chart has, and no point is the near end of more segments than a chart has edges.
pub record SegmentEnds (n : ℕ) (near far head next counts : List ℕ) : Type 0 where
  pub near_in : Below n near
  pub far_in : Below n far
  pub one_each : length near ≡ length far
  pub few_points : n ≤ max_points
  pub few_ends : (p : ℕ) → occurs p near ≤ max_edges
  pub linked : Linked near head next
  pub heads_long : n ≤ length head
  pub counted : Counts near far counts
  pub counts_long : n ≤ length counts

-- What a pass works on: some order in its lists, some segments between its points, and room for sums and for a row.
pub record Standing (far head next counts : List ℕ) (count : ℕ) (order first pos totals moved : List ℕ) : Type 0 where
  pub near : List ℕ
  pub ys : List ℕ
  pub o : List (List ℕ)
  pub laid : Laid ys count o order first pos
  pub ends : SegmentEnds (at first count) near far head next counts
  pub totals_long : at first count ≤ length totals
  pub moved_long : at first count ≤ length moved

-- Whatever order the lists held, they hold now what `change` makes of it.
pub record Changed (count : ℕ) (change : List ℕ → List (List ℕ) → List (List ℕ)) (first order pos order' pos' : List ℕ) : Type 0 where
  pub laid : (ys : List ℕ) (o : List (List ℕ)) → Laid ys count o order first pos → Laid ys count (change ys o) order' first pos'

-- The same, of what the near ends of the segments make the change.
pub record ChangedBy (far head next counts : List ℕ) (count : ℕ) (change : List ℕ → List ℕ → List (List ℕ) → List (List ℕ)) (first order pos order' pos' : List ℕ) : Type 0 where
  pub by : (near : List ℕ) → SegmentEnds (at first count) near far head next counts → Changed count (change near) first order pos order' pos'

-- What positions are stored from: some order in its lists, and room for the positions.
pub record Placeable (count : ℕ) (order first pos : List ℕ) : Type 0 where
  pub ys : List ℕ
  pub o : List (List ℕ)
  pub ranked : Ranked ys count o order first
  pub pos_long : length ys ≤ length pos

-- Whatever order the lists hold, the positions are those of it.
pub record Positioned (count : ℕ) (order first pos : List ℕ) : Type 0 where
  pub laid : (ys : List ℕ) (o : List (List ℕ)) → Ranked ys count o order first → Laid ys count o order first pos
