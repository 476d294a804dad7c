-- What laying the points of a chart asks of its input, and the lists of ends that it writes.
use Rattle.std.specs.Prelude.{◌≡◌, ℕ, ◌<◌, length}
use mathlib.Core.List.{List, [], ◌∷◌, map, tail}
use Rattle.graph.specs.declared.Edge.{Edge}
use Rattle.graph.specs.Rows.{at}
use Rattle.points.specs.Points.{Segment}
use Rattle.buffers.specs.Lists.{Below}

-- edges by their ends alone: gaps and weights play no part in points and segments
unfoldable pub edges_between : List ℕ → List ℕ → List Edge
edges_between [] to = []
edges_between (a ∷ from) to = record { from = a; to = at to 0; gap = 0; weight = 0 } ∷ edges_between from (tail to)

-- nodes, edges and rows are each fewer than 2^20, so that the points can be counted in a word
abbrev pub size_limit : ℕ
size_limit = 1048576

-- nodes in the rows ys, and edges each from a node to one farther down
pub record Chart (ys from to : List ℕ) : Type 0 where
  pub few_nodes : length ys < size_limit
  pub few_edges : length from < size_limit
  pub few_rows : Below size_limit ys
  pub to_long : length to ≡ length from
  pub from_in : Below (length ys) from
  pub to_in : Below (length ys) to
  pub down : (i : ℕ) → i < length from → at ys (at from i) < at ys (at to i)

-- the upper ends of segments, and the lower
abbrev pub uppers : List Segment → List ℕ
uppers segs = map (λ (s : Segment). s.upper) segs

abbrev pub lowers : List Segment → List ℕ
lowers segs = map (λ (s : Segment). s.lower) segs
