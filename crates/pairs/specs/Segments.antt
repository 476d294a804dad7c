-- Segments between a row and the row above it, where the row is put in another order. The lower end of a segment names its point, by where
-- it stands now or by its number, and an order of the row is the list of these names from left to right.
use Rattle.std.specs.Prelude.{◌||◌, cond, List, [], ◌∷◌, map, ℕ, ◌+◌, ltb, eqb}
use Rattle.points.specs.Positions.{position}
use Rattle.crossings.specs.Crossings.{PlacedSegment, crossing_pairs}
use Rattle.crossings.specs.Between.{segment_to}
use Rattle.pairs.specs.declared.ends.Ends.{Ends}

-- a segment with the row in that order
abbrev pub reordered : List ℕ → PlacedSegment → PlacedSegment
reordered order s = record { row = s.row; upper = s.upper; lower = position s.lower order }

-- their crossings then
unfoldable pub crossings_in : List PlacedSegment → List ℕ → ℕ
crossings_in ss order = crossing_pairs (map (reordered order) ss)

-- the segments of the points i and j alone
unfoldable pub only : ℕ → ℕ → List PlacedSegment → List PlacedSegment
only i j [] = []
only i j (s ∷ ss) = let rest = only i j ss in cond (eqb s.lower i || eqb s.lower j) (s ∷ rest) rest

-- how often these cross where i stands left of j
abbrev pub pair_crossings : List PlacedSegment → ℕ → ℕ → ℕ
pair_crossings ss i j = crossings_in (only i j ss) (i ∷ j ∷ [])

-- ---- the same number by pairs of segments

-- 1 where s ends at i, t ends at j and s starts right of t, so that they cross with i left of j
abbrev pub cross_left : PlacedSegment → PlacedSegment → ℕ → ℕ → ℕ
cross_left s t i j = cond (eqb i s.lower) (cond (eqb j t.lower) (cond (ltb t.upper s.upper) 1 0) 0) 0

-- either of two segments may be that of the left point
abbrev pub cross_either : PlacedSegment → PlacedSegment → ℕ → ℕ → ℕ
cross_either s t i j = cross_left s t i j + cross_left t s i j

-- a segment with others
unfoldable pub cost_between : PlacedSegment → List PlacedSegment → ℕ → ℕ → ℕ
cost_between s [] i j = 0
cost_between s (t ∷ ts) i j = cross_either s t i j + cost_between s ts i j

-- each pair of segments once
unfoldable pub cost_from : List PlacedSegment → ℕ → ℕ → ℕ
cost_from [] i j = 0
cost_from (s ∷ ss) i j = cost_between s ss i j + cost_from ss i j

-- ---- segments by where their ends stand, all from row r

abbrev pub placed_end : ℕ → Ends → PlacedSegment
placed_end r e = segment_to r e.upper e.lower

abbrev pub placed : ℕ → List Ends → List PlacedSegment
placed r ends = map (placed_end r) ends
