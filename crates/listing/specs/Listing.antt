-- What the program prints for a table: the bytes of its lines.
use Rattle.std.specs.Prelude.{List, [], ◌∷◌, ◌++◌, map, ℕ, suc, length}
use Rattle.graph.specs.Rows.{at, total}
use Rattle.outcome.specs.Refusal.{Outcome, done, refused}
use Rattle.points.specs.declared.dummy.Dummy.{Dummy}
use Rattle.points.specs.Points.{dummies, row_count}
use Rattle.fewest.specs.Fewest.{drawing_of}
use Rattle.layering.specs.Calls.{oriented_in, turned_in}
use Rattle.merging.specs.Merged.{merged}
use Rattle.ordering.specs.Calls.{drawn_in, Placing, chart_of_table}
use Rattle.labels.specs.Text.{text, decimal}
use Rattle.lines.specs.Lines.{line, refusal_text}
use Rattle.lines.specs.Printing.{numbered}
use Rattle.labels.specs.Labels.{label_text}

-- ---- the chart

-- line one: steps, edges, rows, total, crossings
abbrev pub head_text : ℕ → ℕ → ℕ → ℕ → ℕ → List ℕ
head_text n m height sum crossings = line (text "chart") (map decimal (n ∷ m ∷ height ∷ sum ∷ crossings ∷ []))

-- a line for each row from number r on: the number, and the points from left to right
unfoldable pub row_lines : (ℕ → List ℕ) → ℕ → List (List ℕ) → List ℕ
row_lines show r [] = []
row_lines show r (row ∷ rows) = line (decimal r) (map show row) ++ row_lines show (suc r) rows

-- the dummies of a table's edges as they are drawn, each with the number that the table gives the first of the edges it stands for
abbrev pub dummies_in : Placing → List Dummy
dummies_in p = numbered (merged p.contents.edges) (dummies p.rows 0 (drawn_in p.contents))

-- the table's steps and how many edges it has; rows and total are of its edges as they are kept or turned, crossings and points of those
-- that are drawn
unfoldable pub chart_text : List ℕ → Placing → List ℕ
chart_text bytes p =
    let steps = p.contents.steps in
    let drawing = drawing_of p.rows (drawn_in p.contents) in
    head_text (length steps) (length p.contents.edges) (row_count p.rows) (total (oriented_in p.contents) (at p.rows)) drawing.crossings
    ++ row_lines (label_text bytes steps (dummies_in p) (turned_in p.contents)) 0 drawing.order

-- ---- the listing

-- a chart's lines, or the line of a refusal
abbrev pub outcome_text : List ℕ → Outcome Placing → List ℕ
outcome_text bytes (done p) = chart_text bytes p
outcome_text bytes (refused r) = refusal_text r

unfoldable pub listing : List ℕ → List ℕ
listing bytes = outcome_text bytes (chart_of_table bytes)
