-- The whole chart: what the call answers, and what its two buffers hold at its end.
use Rattle.std.specs.Prelude.{◌≡◌, Bool, ◌&&◌, cond, ℕ, leb, length, get_or, take, drop, Result, Ok, Err}
use mathlib.Core.List.{List, [], ◌∷◌, ◌++◌, flatten}
use Rattle.graph.specs.declared.Edge.{Edge}
use Rattle.graph.specs.Rows.{at, total, Best}
use Rattle.outcome.specs.declared.Refusal.{Refusal}
use Rattle.outcome.specs.declared.Refusal.TheVariants.{ManyPoints, ShortBuffer}
use Rattle.points.specs.Limits.{max_points}
use Rattle.outcome.specs.Refusal.{Outcome, done, refused, then_do, demand, numbers_of, told, bare, answered, refusal_in}
use Rattle.table.specs.Table.{Contents, read}
use Rattle.table.specs.Calls.{contents_in}
use Rattle.layering.specs.declared.types.Unplaced.{Unplaced}
use Rattle.layering.specs.Calls.{table_rows_found, oriented_in, turned_in, steps_in, edges_in, contents_beside, PlaceEnd, place_call}
use Rattle.merging.specs.Merged.{merged, drawn_edges}
use Rattle.ordering.specs.declared.types.Figures.{Figures}
use Rattle.ordering.specs.declared.types.TableChart.{TableChart}
use Rattle.ordering.specs.declared.types.Uncharted.{Uncharted}
use Rattle.points.specs.Points.{point_rows, row_count}
use Rattle.fewest.specs.Fewest.{drawing_of}

-- ---- the chart of a table

-- A table's edges as they are drawn: repeated ones are one, kept or turned as they are (document 02, request 6). Points, order and
-- crossings are of these; rows and total are of the edges themselves.
abbrev pub drawn_in : Contents → List Edge
drawn_in t = drawn_edges (turned_in t) (merged t.edges)

-- a table that was read, with its rows
pub record Placing : Type 0 where
  pub contents : Contents
  pub rows : List ℕ

-- how many points it has
abbrev pub point_count : List ℕ → List Edge → ℕ
point_count rows edges = length (point_rows rows edges)

-- too many points are refused (12)
abbrev pub unless_many : Contents → List ℕ → Outcome Placing
unless_many t rows = demand (leb (point_count rows (drawn_in t)) max_points) ManyPoints (done (record { contents = t; rows = rows }))

-- the refusals of the table, then of its rows (11), then 12
unfoldable pub chart_of_table : List ℕ → Outcome Placing
chart_of_table bytes = then_do (read bytes) λ t. then_do (table_rows_found (length t.steps) t.edges) λ rows. unless_many t rows

-- ---- what is handed out of it

-- rows one a step, points in their order, and the numbers
pub record Charted : Type 0 where
  pub rows : List ℕ
  pub order : List ℕ
  pub figures : Figures

-- The rows of some edges, and the drawing of those that stand for them. The order goes row by row from row 0, each from left to right. The
-- numbers are those of the points, the total of the rows, and the crossings of the order.
abbrev pub charted : List ℕ → List Edge → List Edge → Charted
charted rows edges drawn =
    record {
      rows = rows;
      order = flatten (drawing_of rows drawn).order;
      figures =
          record {
            points = point_count rows drawn;
            total = total edges (at rows);
            crossings = (drawing_of rows drawn).crossings;
          };
    }

abbrev pub chart_out : Outcome Placing → Outcome Charted
chart_out o = then_do o λ p. done (charted p.rows (oriented_in p.contents) (drawn_in p.contents))

-- ---- the buffers

-- the figures in the order in which they are told
abbrev pub figures_numbers : Figures → List ℕ
figures_numbers f = f.points ∷ f.total ∷ f.crossings ∷ []

-- a call's answer in numbers, and the buffers at its end
pub record ChartEnd : Type 0 where
  pub numbers : List ℕ
  pub rows : List ℕ
  pub order : List ℕ

-- values in the first entries of a buffer, whose others stay
abbrev pub filled : List ℕ → List ℕ → List ℕ
filled values old = values ++ drop (length values) old

-- A buffer with fewer entries than it is to get is refused (13), after every other fault, and a refusal leaves both as they were.
abbrev pub chart_end : Outcome Charted → List ℕ → List ℕ → ChartEnd
chart_end (refused r) rows order = record { numbers = numbers_of r; rows = rows; order = order }
chart_end (done c) rows order =
    cond (leb (length c.rows) (length rows) && leb (length c.order) (length order))
    (record { numbers = 0 ∷ figures_numbers c.figures; rows = filled c.rows rows; order = filled c.order order })
    (record { numbers = numbers_of ShortBuffer; rows = rows; order = order })

unfoldable pub chart_call : List ℕ → List ℕ → List ℕ → ChartEnd
chart_call bytes rows order = chart_end (chart_out (chart_of_table bytes)) rows order

-- what the code answers, in numbers
abbrev pub chart_numbers : Result Figures Refusal → List ℕ
chart_numbers r = answered figures_numbers r

-- ---- demand 3

-- the total among the numbers of a chart
abbrev pub total_told : List ℕ → ℕ
total_told numbers = get_or numbers 2 0

-- Where the call tells 0, the first entries of the buffer for rows, one a step, are the best rows, and the total that it tells is theirs.
abbrev pub DrawnBest : ℕ → List Edge → List ℕ → List ℕ → Type 0
DrawnBest n edges numbers rows = refusal_in numbers ≡ 0 → Best n edges (take n rows) × (total_told numbers ≡ total edges (at (take n rows)))

-- for the steps that a table's bytes say, and their edges as they are kept or turned
abbrev pub ChartBest : List ℕ → List ℕ → List ℕ → Type 0
ChartBest bytes numbers rows = DrawnBest (steps_in bytes) (edges_in bytes) numbers rows

-- ---- what a layer above builds on

-- the numbers of the outcome, the steps and edges of the table, which edges are turned, and the chart: the rows, how many rows these make,
-- the points in their order, and the figures
pub record DrawEnd : Type 0 where
  pub numbers : List ℕ
  pub contents : Contents
  pub turned : List Bool
  pub rows : List ℕ
  pub height : ℕ
  pub order : List ℕ
  pub figures : Figures

-- the chart of an outcome; a refusal has no rows, no points and no figures
abbrev pub chart_by : Outcome Charted → Charted
chart_by (done c) = c
chart_by (refused r) = record { rows = []; order = []; figures = record { points = 0; total = 0; crossings = 0 } }

-- 0 or the refusal's number, and the chart; the table and what is turned are as the rows leave them
abbrev pub draw_by : PlaceEnd → Outcome Charted → DrawEnd
draw_by p o =
    record {
      numbers = told bare o;
      contents = p.contents;
      turned = p.turned;
      rows = (chart_by o).rows;
      height = row_count (chart_by o).rows;
      order = (chart_by o).order;
      figures = (chart_by o).figures;
    }

unfoldable pub draw_call : List ℕ → DrawEnd
draw_call bytes = draw_by (place_call bytes) (chart_out (chart_of_table bytes))

-- what a refused table's rows leave is what its chart leaves, and no edge is turned
pub record RowsRefused (u : Unplaced) (r : Uncharted) : Type 0 where
  pub refusal_is : r.refusal ≡ u.refusal
  pub table_is : r.table ≡ u.table
  pub none_turned : r.turned.items ≡ []

-- what the code answers, in numbers
abbrev pub draw_end : Result TableChart Uncharted → DrawEnd
draw_end (Ok r) =
    record {
      numbers = 0 ∷ [];
      contents = contents_in r.table;
      turned = r.turned.items;
      rows = r.chart.rows.items;
      height = r.chart.height;
      order = r.chart.order.items;
      figures = record { points = length r.chart.order.items; total = r.chart.total; crossings = r.chart.crossings };
    }
draw_end (Err u) =
    record {
      numbers = numbers_of u.refusal;
      contents = contents_beside u.table;
      turned = u.turned.items;
      rows = [];
      height = 0;
      order = [];
      figures = record { points = 0; total = 0; crossings = 0 };
    }
