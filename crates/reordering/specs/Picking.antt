-- What picking the segments of a row asks for.
use Rattle.std.specs.Prelude.{◌≡◌, List, map, ℕ, ◌≤◌, length}
use Rattle.graph.specs.Rows.{at}
use Rattle.buffers.specs.Lists.{Below}
use Rattle.points.specs.Points.{Segment}
use Rattle.crossings.specs.Crossings.{PlacedSegment, in_row}
use Rattle.passes.specs.Laid.{segments_in}

-- segments between points whose rows and positions are there
pub record Pickable (upper lower row pos : List ℕ) : Type 0 where
  pub both : length lower ≡ length upper
  pub upper_in : Below (length row) upper
  pub lower_in : Below (length row) lower
  pub places : length row ≤ length pos

-- a segment by the row and the position of its upper end and the position of its lower end, as lists have these by point
abbrev pub placed_in : List ℕ → List ℕ → Segment → PlacedSegment
placed_in row pos s = record { row = at row s.upper; upper = at pos s.upper; lower = at pos s.lower }

-- of segments by the lists of their ends those from row r
abbrev pub starting_in : List ℕ → List ℕ → List ℕ → List ℕ → ℕ → List PlacedSegment
starting_in upper lower row pos r = in_row r (map (placed_in row pos) (segments_in upper lower))
