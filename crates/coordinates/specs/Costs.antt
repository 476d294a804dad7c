-- What each segment of a chart costs for a unit of its horizontal distance (document 02, request 7). The edges are those that are drawn,
-- one a line, with its added weight.
use Rattle.std.specs.Prelude.{cond, List, [], ◌∷◌, ◌++◌, map, ℕ, ◌+◌, ◌*◌, ltb, length}
use Rattle.graph.specs.declared.Edge.{Edge}
use Rattle.points.specs.Points.{Segment, between, chain}
use Rattle.spacing.specs.Limits.{plain_factor, end_factor, inner_factor}
use Rattle.spacing.specs.Coordinates.{Costed}

-- The factor of a segment between points p and q. The n steps are numbered before all dummies: 1 between two steps, 2 with one dummy, 8
-- between two, so that long lines run straight where they have most dummies.
abbrev pub factor : ℕ → ℕ → ℕ → ℕ
factor n p q = cond (ltb p n) (cond (ltb q n) plain_factor end_factor) (cond (ltb q n) end_factor inner_factor)

abbrev pub priced : ℕ → ℕ → Segment → Costed
priced n weight s = record { upper = s.upper; lower = s.lower; cost = weight * factor n s.upper s.lower }

-- the segments of the edges, whose dummies are numbered from d on, each with its cost
unfoldable pub costed_from : ℕ → List ℕ → ℕ → List Edge → List Costed
costed_from n ys d [] = []
costed_from n ys d (e ∷ edges) = map (priced n e.weight) (chain e.from e.to d (between ys e)) ++ costed_from n ys (d + between ys e) edges

-- those of a chart, for its rows and its edges as they are drawn
unfoldable pub chart_costed : List ℕ → List Edge → List Costed
chart_costed ys edges = costed_from (length ys) ys (length ys) edges
