-- Best rows of fair edges make a chart: each edge leads down by its gap at least, and that is 1 or more. Those that are drawn have the ends
-- of edges. What is drawn from their ends is their chart, since gaps and weights play no part in it.
use mathlib.Core.Path.{◌≡◌, sym, ap, ◌∙◌}
use mathlib.Core.List.{List, ◌++◌, flatten}
use Prim.Native.Nat.{ℕ, ◌≤◌, ◌<◌}
use native.Mathlib.Omega.{arith}
use borrow.Author.Tests.{le-leb, lt-leb}
use lib.ListN.{length, get_or, take, drop, length-map, get_or-map}
use lib.Seq.{take_at}
use Rattle.graph.specs.declared.Edge.{Edge}
use Rattle.graph.specs.Rows.{at, no_edge, Best}
use Rattle.outcome.specs.declared.Refusal.TheVariants.{ManyPoints}
use Rattle.points.specs.Limits.{max_points}
use Rattle.outcome.specs.Refusal.{Outcome, done}
use Rattle.ordering.specs.declared.types.ChartFound.{ChartFound}
use Rattle.merging.proofs.EndsLaws.{EndsAmong}
use Rattle.points.specs.Points.{point_rows, row_count}
use Rattle.fewest.specs.Fewest.{Drawing, drawing_of}
use Rattle.rooms.specs.Rooms.{DrawnIs}
use Rattle.drawing.specs.Drawing.{Drawable}
use Rattle.points.specs.Laying.{edges_between, Chart}
use Rattle.ordering.specs.Calls.{point_count, Charted}
use Rattle.std.specs.Prelude.{Ok, Err}
use Rattle.rows.specs.declared.types.RowsFound.{RowsFound}
use Rattle.rows.specs.Placed.{FairEdges}
use Rattle.rows.proofs.PlacedLaws.{best-low}
use Rattle.ordering.specs.Charting.{held_chart, Sizable, RowsGiven, unless_large, EdgesFound}
use Rattle.points.proofs.PointLaws.{tails, heads, any-points, any-segments}
use Rattle.fewest.proofs.CompleteLaws.{drawing-count}

-- the drawing of edges is that of their ends
pub drawing-of-ends : (ys : List ℕ) (edges : List Edge) → drawing_of ys (edges_between (tails edges) (heads edges)) ≡ drawing_of ys edges
unfolding drawing_of
drawing-of-ends ys edges = rw (any-points ys edges, any-segments ys edges)

tail_at : (edges : List Edge) (i : ℕ) → at (tails edges) i ≡ (get_or edges i no_edge).from
tail_at edges i = get_or-map (λ (e : Edge). e.from) edges i no_edge

head_at : (edges : List Edge) (i : ℕ) → at (heads edges) i ≡ (get_or edges i no_edge).to
head_at edges i = get_or-map (λ (e : Edge). e.to) edges i no_edge

-- what is handed out, part by part
charted-by : {ys ys' o o' : List ℕ} {p p' t t' c c' : ℕ} → ys ≡ ys' → o ≡ o' → p ≡ p' → t ≡ t' → c ≡ c'
    → ◌≡◌ {A = Outcome Charted} (done (record { rows = ys; order = o; figures = record { points = p; total = t; crossings = c } }))
    (done (record { rows = ys'; order = o'; figures = record { points = p'; total = t'; crossings = c' } }))
charted-by y a b d e = rw (y, a, b, d, e)

-- Best rows of fair edges lead each edge down that is drawn for them.
module _ (n : ℕ) (edges : List Edge) (fair : FairEdges n edges) (ys : List ℕ) (best : Best n edges ys) (drawn : List Edge) (among : EndsAmong edges drawn) where
  low-at : (v : ℕ) → v < length ys → at ys v < max_points
  low-at v h = omega (arith, (best-low n edges ys fair best).each v)

  pub chart-of : Chart ys (tails drawn) (heads drawn)
  chart-of =
      record {
        few_nodes = omega (arith, best.one_a_node, fair.few_steps);
        few_edges = omega (arith, length-map drawn (λ (e : Edge). e.from), among.few, fair.few_edges);
        few_rows = record { below = λ v h. omega (arith, low-at v h) };
        to_long = length-map drawn (λ (e : Edge). e.to) ∙ sym (length-map drawn (λ (e : Edge). e.from));
        from_in =
            record {
              below = λ i h. let l : i < length drawn = omega (arith, length-map drawn (λ (e : Edge). e.from)) in
                  omega (arith, tail_at drawn i, among.tail i l, (fair.each (among.source i) (among.inside i l)).from_in, best.one_a_node);
            };
        to_in =
            record {
              below = λ i h. let l : i < length drawn = omega (arith, length-map drawn (λ (e : Edge). e.to)) in
                  omega (arith, head_at drawn i, among.head i l, (fair.each (among.source i) (among.inside i l)).to_in, best.one_a_node);
            };
        down = λ i h. let l : i < length drawn = omega (arith, length-map drawn (λ (e : Edge). e.from)) in
            rw (tail_at drawn i, head_at drawn i, among.tail i l, among.head i l)
            (omega (arith, best.feasible (among.source i) (among.inside i l), (fair.each (among.source i) (among.inside i l)).gap_some));
      }

module _ (edges : List Edge) (f : RowsFound) (s : RowsGiven edges f) (drawn : List Edge) (among : EndsAmong edges drawn) where
  abbrev ys : List ℕ
  ys = f.rows.items

  abbrev n : ℕ
  n = length f.rows.items

  sizable-ends : Sizable ys (tails drawn) (heads drawn)
  sizable-ends =
      record {
        chart = chart-of n edges s.fair ys s.placed.best drawn among;
        few_edges = omega (arith, length-map drawn (λ (e : Edge). e.from), among.few, s.fair.few_edges);
        few_rows = record { below = low-at n edges s.fair ys s.placed.best drawn among };
      }

  module _ (from to : List ℕ) (ef : from ≡ tails drawn) (et : to ≡ heads drawn) where
    pub sizable : Sizable ys from to
    sizable = rw (ef, et) sizable-ends

    edges-of : edges_between from to ≡ edges_between (tails drawn) (heads drawn)
    edges-of = rw (ef, et)

    drawing-is : drawing_of ys (edges_between from to) ≡ drawing_of ys drawn
    drawing-is = ap (drawing_of ys) edges-of ∙ drawing-of-ends ys drawn

    module _ (points : ℕ) (p : points ≡ length (point_rows ys (edges_between from to))) where
      count-is : points ≡ point_count ys drawn
      count-is = p ∙ ap (λ es. length (point_rows ys es)) edges-of ∙ ap length (any-points ys drawn)

      pub found-many : max_points < points → EdgesFound n edges drawn ys (Err ManyPoints)
      found-many h = record { says = simp (lt-leb (point_count ys drawn) max_points (omega (arith, count-is))); placed = tt }

      -- with few enough points it can be drawn
      pub drawable : points ≤ max_points → Drawable ys from to
      drawable h = record { few_points = omega (arith, p); few_edges = sizable.few_edges; few_rows = sizable.few_rows }

      pub found-drawn : (c : ChartFound) → c.rows.items ≡ ys → c.height ≡ row_count ys → c.total ≡ f.total → points ≤ max_points → {old all : List ℕ}
          → DrawnIs (drawing_of ys (edges_between from to)) old all c.crossings → c.order.items ≡ take points all
          → EdgesFound n edges drawn ys (Ok c)
      found-drawn c rows tall sum h {old} {all} d order =
          record { says = says; placed = record { best = rw rows s.placed.best; summed = rw rows (sum ∙ s.placed.summed); tall = rw rows tall } }
        where
          drawn-order : List ℕ
          drawn-order = flatten (drawing_of ys drawn).order

          count : length drawn-order ≡ points
          count = drawing-count ys drawn ∙ sym count-is

          order-is : c.order.items ≡ drawn-order
          order-is =
              order ∙ ap (take points) (d.order_is ∙ ap (λ (g : Drawing). flatten g.order ++ drop (length (flatten g.order)) old) drawing-is)
              ∙ take_at drawn-order _ points count

          crossed : c.crossings ≡ (drawing_of ys drawn).crossings
          crossed = d.crossings_are ∙ ap (λ (g : Drawing). g.crossings) drawing-is

          says : held_chart (Ok c) ≡ unless_large ys edges drawn
          says =
              simp (le-leb (point_count ys drawn) max_points (omega (arith, count-is)))
              (charted-by rows order-is (ap length order-is ∙ count ∙ count-is) (sum ∙ s.placed.summed) crossed)
