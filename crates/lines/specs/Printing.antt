-- How the code goes through a chart: its points one behind the other, with the row of each.
use Rattle.std.specs.Prelude.{◌≡◌, Bool, cond, List, [], ◌∷◌, ◌++◌, map, ℕ, zero, suc, ◌+◌, ◌≤◌, ◌<◌, eqb, length, get_or, drop}
use Rattle.graph.specs.Rows.{at, no_edge}
use Rattle.merging.specs.declared.MergedEdge.{MergedEdge}
use Rattle.merging.specs.Merged.{no_merged_edge, drawn_edges}
use Rattle.points.specs.declared.dummy.Dummy.{Dummy}
use Rattle.points.specs.Points.{dummies}
use Rattle.buffers.specs.Lists.{Below}
use Rattle.labels.specs.Text.{decimal}
use Rattle.lines.specs.Lines.{line}

-- the points in front that stand in row r, of points whose rows are given
unfoldable pub leading : List ℕ → ℕ → List ℕ → List ℕ
leading ys r [] = []
leading ys r (p ∷ ps) = let more = p ∷ leading ys r ps in cond (eqb (at ys p) r) more []

-- the others
abbrev pub behind : List ℕ → ℕ → List ℕ → List ℕ
behind ys r ps = drop (length (leading ys r ps)) ps

-- the line of row r
unfoldable pub line_in : (ℕ → List ℕ) → List ℕ → ℕ → List ℕ → List ℕ
line_in show ys r ps = line (decimal r) (map show (leading ys r ps))

-- k lines from row r on, each with the points in front that stand in its row
unfoldable pub lines_from : (ℕ → List ℕ) → List ℕ → ℕ → ℕ → List ℕ → List ℕ
lines_from show ys r zero ps = []
lines_from show ys r (suc k) ps = line_in show ys r ps ++ lines_from show ys (suc r) k (behind ys r ps)

-- dummies of merged edges, each with the number of the first edge that its own stands for
unfoldable pub numbered : List MergedEdge → List Dummy → List Dummy
numbered edges ds = map (λ (d : Dummy). record { edge = (get_or edges d.edge no_merged_edge).first; row = d.row }) ds

-- the dummies of an edge by their rows
abbrev pub dummies_on : ℕ → List ℕ → List Dummy
dummies_on edge rows = map (λ r. record { edge = edge; row = r }) rows

-- the rows of dummies
abbrev pub dummy_rows : List Dummy → List ℕ
dummy_rows ds = map (λ (d : Dummy). d.row) ds

-- What laying the dummies asks for: merged edges, each kept or turned as its first edge is, lead down from row to row, and there is room for
-- their dummies.
pub record Layable (list : List MergedEdge) (turned : List Bool) (ys : List ℕ) (cap : ℕ) : Type 0 where
  pub firsts : (i : ℕ) → i < length list → (get_or list i no_merged_edge).first < length turned
  pub from_in : (i : ℕ) → i < length list → (get_or (drawn_edges turned list) i no_edge).from < length ys
  pub to_in : (i : ℕ) → i < length list → (get_or (drawn_edges turned list) i no_edge).to < length ys
  pub down : (i : ℕ) → i < length list
      → at ys (get_or (drawn_edges turned list) i no_edge).from < at ys (get_or (drawn_edges turned list) i no_edge).to
  pub room : length (dummies ys 0 (drawn_edges turned list)) ≤ cap

-- What printing rows asks for: a row for each step, and an order of points.
pub record Printable (steps dummies : ℕ) (ys order : List ℕ) : Type 0 where
  pub one_a_step : length ys ≡ steps
  pub points : Below (length ys + dummies) order
