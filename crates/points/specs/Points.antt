-- The points of a chart: the nodes, and on each edge a dummy in every row between its ends (document 01: a pass point). Dummies part
-- an edge into segments (document 01: pieces), each between two neighbouring rows.
use Rattle.std.specs.Prelude.{List, [], ◌∷◌, ◌++◌, map, ℕ, zero, suc, ◌+◌, ◌-◌, max, length}
use Rattle.graph.specs.declared.Edge.{Edge}
use Rattle.graph.specs.Rows.{at, span}
use Rattle.graph.specs.Search.{run}
use Rattle.points.specs.declared.dummy.Dummy.{Dummy}

-- how many dummies an edge has: one fewer than its length
abbrev pub between : List ℕ → Edge → ℕ
between ys e = span (at ys) e - 1

-- the dummies of the edges from number i on, by edge and then by rising row
unfoldable pub dummies : List ℕ → ℕ → List Edge → List Dummy
dummies ys i [] = []
dummies ys i (e ∷ edges) = map (λ r. record { edge = i; row = r }) (run (suc (at ys e.from)) (between ys e)) ++ dummies ys (suc i) edges

-- the row of each point: of the nodes by number, and then of the dummies
unfoldable pub point_rows : List ℕ → List Edge → List ℕ
point_rows ys edges = ys ++ map (λ (d : Dummy). d.row) (dummies ys 0 edges)

-- a segment, by the points at its upper and its lower end
pub record Segment : Type 0 where
  pub upper : ℕ
  pub lower : ℕ

-- from point a to point b over k dummies, numbered from d on
unfoldable pub chain : ℕ → ℕ → ℕ → ℕ → List Segment
chain a b d zero = record { upper = a; lower = b } ∷ []
chain a b d (suc k) = record { upper = a; lower = d } ∷ chain d b (suc d) k

-- the segments of the edges, whose dummies are numbered from d on
unfoldable pub segments_from : List ℕ → ℕ → List Edge → List Segment
segments_from ys d [] = []
segments_from ys d (e ∷ edges) = chain e.from e.to d (between ys e) ++ segments_from ys (d + between ys e) edges

-- points are numbered on from the nodes
unfoldable pub segments : List ℕ → List Edge → List Segment
segments ys edges = segments_from ys (length ys) edges

-- the number of rows: one more than the highest, and none without nodes
unfoldable pub row_count : List ℕ → ℕ
row_count [] = 0
row_count (y ∷ ys) = max (suc y) (row_count ys)
