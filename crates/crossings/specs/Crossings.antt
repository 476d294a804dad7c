-- Crossings of segments.
use Rattle.std.specs.Prelude.{Bool, ◌&&◌, ◌||◌, cond, List, [], ◌∷◌, map, ℕ, ◌+◌, ltb, eqb}
use Rattle.graph.specs.Rows.{at}
use Rattle.points.specs.Points.{Segment}
use Rattle.points.specs.Positions.{place}

-- a segment, by the row of its upper end and the positions of both ends
pub record PlacedSegment : Type 0 where
  pub row : ℕ
  pub upper : ℕ
  pub lower : ℕ

abbrev pub placed : List ℕ → List (List ℕ) → Segment → PlacedSegment
placed ys order s = record { row = at ys s.upper; upper = place ys order s.upper; lower = place ys order s.lower }

-- two segments between the same rows cross where one starts left of the other and ends right of it; a shared end is no crossing
abbrev pub cross : PlacedSegment → PlacedSegment → Bool
cross s t = eqb s.row t.row
    && ((ltb s.upper t.upper && ltb t.lower s.lower) || (ltb t.upper s.upper && ltb s.lower t.lower))

-- how many of the others a segment crosses
unfoldable pub crossings_with : PlacedSegment → List PlacedSegment → ℕ
crossings_with s [] = 0
crossings_with s (t ∷ ts) = cond (cross s t) 1 0 + crossings_with s ts

-- each pair once
unfoldable pub crossing_pairs : List PlacedSegment → ℕ
crossing_pairs [] = 0
crossing_pairs (s ∷ ss) = crossings_with s ss + crossing_pairs ss

unfoldable pub crossings : List ℕ → List Segment → List (List ℕ) → ℕ
crossings ys segs order = crossing_pairs (map (placed ys order) segs)

-- the segments whose upper end is in row r, which are those between row r and the row below
unfoldable pub in_row : ℕ → List PlacedSegment → List PlacedSegment
in_row r [] = []
in_row r (s ∷ l) = let rest = in_row r l in cond (eqb s.row r) (s ∷ rest) rest

-- the crossings between row r and the row below; those of a chart are the sum over its rows
unfoldable pub crossings_between : List ℕ → List Segment → List (List ℕ) → ℕ → ℕ
crossings_between ys segs order r = crossing_pairs (in_row r (map (placed ys order) segs))
