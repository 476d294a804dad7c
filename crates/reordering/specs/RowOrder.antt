-- The best order of one row of a chart as far as so many tries go, and a floor for the crossings of every order of it. Only the segments
-- between the row and the row above it count, and the row above stays as it is.
use Rattle.std.specs.Prelude.{◌||◌, cond, List, [], ◌∷◌, ℕ, suc, ◌-◌, eqb, get_or, set, take}
use Rattle.points.specs.Points.{Segment}
use Rattle.crossings.specs.Crossings.{crossings_between}
use Rattle.permutations.specs.Orders.{arrangements}
use Rattle.exchange.specs.Costs.{floor_of}
use Rattle.exchange.specs.Best.{first_fewest}

-- row r of a chart's order
abbrev pub present_row : List (List ℕ) → ℕ → List ℕ
present_row order r = get_or order r []

-- the crossings between row r and the row above it, where row r of the order is another list of points
abbrev pub row_crossings : List ℕ → List Segment → List (List ℕ) → ℕ → List ℕ → ℕ
row_crossings ys segs order r row = crossings_between ys segs (set order r row) (r - 1)

-- Of the row as it is and as many of its orders that follow in the dictionary as there are tries, or all there are, the first with fewest
-- crossings.
abbrev pub best_row : List ℕ → List Segment → List (List ℕ) → ℕ → ℕ → List ℕ
best_row ys segs order r tries = first_fewest (row_crossings ys segs order r) (take (suc tries) (arrangements (present_row order r)))

-- the segments that end at p or at q
unfoldable pub segments_to : ℕ → ℕ → List Segment → List Segment
segments_to p q [] = []
segments_to p q (s ∷ segs) = let rest = segments_to p q segs in cond (eqb s.lower p || eqb s.lower q) (s ∷ rest) rest

-- how often the segments of p and q cross where p stands left of q
abbrev pub pair_above : List ℕ → List Segment → List (List ℕ) → ℕ → ℕ → ℕ → ℕ
pair_above ys segs order r p q = row_crossings ys (segments_to p q segs) order r (p ∷ q ∷ [])

-- the floor: for each pair of the row's points the fewer crossings of its two orders, added up
abbrev pub row_floor : List ℕ → List Segment → List (List ℕ) → ℕ → ℕ
row_floor ys segs order r = floor_of (pair_above ys segs order r) (present_row order r)
