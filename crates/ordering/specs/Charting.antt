-- What the functions behind the whole chart ask for and answer.
use Rattle.std.specs.Prelude.{◌≡◌, List, ℕ, ◌+◌, ◌*◌, ◌≤◌, leb, length, Result, Ok, Err, IfOk}
use Rattle.graph.specs.declared.Edge.{Edge}
use Rattle.graph.specs.Rows.{at, total, Best}
use Rattle.outcome.specs.declared.Refusal.{Refusal}
use Rattle.outcome.specs.declared.Refusal.TheVariants.{ManyPoints}
use Rattle.table.specs.Limits.{max_edges, max_weight}
use Rattle.points.specs.Limits.{max_points}
use Rattle.outcome.specs.Refusal.{Outcome, done, refused, demand}
use Rattle.layering.specs.Calls.{steps_in, edges_in}
use Rattle.rows.specs.declared.types.RowsFound.{RowsFound}
use Rattle.rows.specs.Limits.{top_row}
use Rattle.rows.specs.Placed.{FairEdges, RowsPlaced}
use Rattle.ordering.specs.declared.types.Figures.{Figures}
use Rattle.ordering.specs.declared.types.ChartFound.{ChartFound}
use Rattle.ordering.specs.declared.types.TableChart.{TableChart}
use Rattle.ordering.specs.declared.types.Uncharted.{Uncharted}
use Rattle.points.specs.Points.{row_count}
use Rattle.buffers.specs.Lists.{Below}
use Rattle.points.specs.Laying.{Chart}
use Rattle.ordering.specs.Calls.{point_count, Charted, charted, chart_out, chart_of_table, chart_end, chart_numbers}

-- a chart that is to be drawn, if it has few points
pub record Sizable (ys from to : List ℕ) : Type 0 where
  pub chart : Chart ys from to
  pub few_edges : length from ≤ max_edges
  pub few_rows : Below max_points ys

-- best rows of fair edges, and their total
pub record RowsGiven (edges : List Edge) (f : RowsFound) : Type 0 where
  pub fair : FairEdges (length f.rows.items) edges
  pub placed : RowsPlaced edges (length f.rows.items) f

-- what lists and numbers hold
abbrev pub charted_by : ChartFound → Charted
charted_by f =
    record {
      rows = f.rows.items;
      order = f.order.items;
      figures = record { points = length f.order.items; total = f.total; crossings = f.crossings };
    }

-- the outcome that they hold
abbrev pub held_chart : Result ChartFound Refusal → Outcome Charted
held_chart (Ok f) = done (charted_by f)
held_chart (Err r) = refused r

-- the rows of a chart are the best of the edges, and its total and its height are theirs
pub record ChartPlaced (edges : List Edge) (n : ℕ) (f : ChartFound) : Type 0 where
  pub best : Best n edges f.rows.items
  pub summed : f.total ≡ total edges (at f.rows.items)
  pub tall : f.height ≡ row_count f.rows.items

-- all of the answer; where it is not refused, its rows are the best of the edges, and its total and its height are theirs
pub record ChartHeld (n : ℕ) (edges : List Edge) (what : Outcome Charted) (r : Result ChartFound Refusal) : Type 0 where
  pub says : held_chart r ≡ what
  pub placed : IfOk r (ChartPlaced edges n)

-- the chart of edges in their rows, drawn by those that stand for them: refused where it has too many points
abbrev pub unless_large : List ℕ → List Edge → List Edge → Outcome Charted
unless_large rows edges drawn = demand (leb (point_count rows drawn) max_points) ManyPoints (done (charted rows edges drawn))

abbrev pub EdgesFound : ℕ → List Edge → List Edge → List ℕ → Result ChartFound Refusal → Type 0
EdgesFound n edges drawn rows r = ChartHeld n edges (unless_large rows edges drawn) r

-- the chart of a table
abbrev pub TableFound : List ℕ → Result ChartFound Refusal → Type 0
TableFound bytes r = ChartHeld (steps_in bytes) (edges_in bytes) (chart_out (chart_of_table bytes)) r

-- the chart of an answer
abbrev pub chart_in : Result TableChart Uncharted → Result ChartFound Refusal
chart_in (Ok t) = Ok t.chart
chart_in (Err u) = Err u.refusal

-- an outcome handed out in two buffers
pub record ChartHandedOut (what : Outcome Charted) (rows order rows' order' : List ℕ) (r : Result Figures Refusal) : Type 0 where
  pub numbers : chart_numbers r ≡ (chart_end what rows order).numbers
  pub rows_are : rows' ≡ (chart_end what rows order).rows
  pub order_is : order' ≡ (chart_end what rows order).order

-- the figures of a chart are no larger: each line has one segment more than dummies, and no row is above top_row
pub record Small (f : Figures) : Type 0 where
  pub few_points : f.points ≤ max_points
  pub few_crossings : 2 * f.crossings ≤ (max_points + max_edges) * (max_points + max_edges)
  pub low_total : f.total ≤ max_edges * (max_weight * top_row)
