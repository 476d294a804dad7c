-- The strokes of a chart by the points that they go to (document 02, request 8). A visit is a stroke that has no corner yet: the point that
-- it goes to, and whether a line of the chart starts there.
use Rattle.std.specs.Prelude.{Bool, true, false, cond, List, [], ◌∷◌, ◌++◌, map, reverse, ℕ, ◌+◌, get_or}
use Rattle.graph.specs.Search.{run}
use Rattle.merging.specs.declared.MergedEdge.{MergedEdge}
use Rattle.merging.specs.Merged.{drawn_edge}
use Rattle.points.specs.Points.{between}
use Rattle.routes.specs.declared.Visit.{Visit}

-- a move to a point, and a line to it
abbrev pub move_to : ℕ → Visit
move_to p = record { start = true; point = p }

abbrev pub line_to : ℕ → Visit
line_to p = record { start = false; point = p }

-- what stands past the end of a list of them
abbrev pub no_visit : Visit
no_visit = line_to 0

-- Dummies in the order of travel: they are numbered by rising row, and a turned edge leads up.
abbrev pub travelled : Bool → List ℕ → List ℕ
travelled turned dummies = cond turned (reverse dummies) dummies

-- Of a line, here a merged edge, with k dummies, which are numbered from d on: a move to the step that it starts at by the table, then a
-- line to each dummy and to the step that it ends at.
unfoldable pub line_visits : Bool → MergedEdge → ℕ → ℕ → List Visit
line_visits turned e d k = move_to e.from ∷ map line_to (travelled turned (run d k) ++ e.to ∷ [])

-- those of all lines, one behind the other, between steps in the rows ys
unfoldable pub visits_from : List ℕ → List Bool → ℕ → List MergedEdge → List Visit
visits_from ys turned d [] = []
visits_from ys turned d (e ∷ edges) =
    line_visits (get_or turned e.first false) e d (between ys (drawn_edge turned e)) ++ visits_from ys turned (d + between ys (drawn_edge turned e)) edges
