-- A table with its chart, as the code hands it on in lists and numbers, and what the definitions say of them.
use mathlib.Core.Path.{◌≡◌, refl, sym, ap, ◌∙◌, subst}
use mathlib.Core.Bool.{Bool, true, false}
use mathlib.Core.List.{List, flatten}
use Prim.Native.Nat.{ℕ, ◌≤◌}
use native.Mathlib.Omega.{arith}
use borrow.Author.Tests.{leb-true}
use lib.Dec.{leb}
use lib.ListN.{length}
use Rattle.std.specs.Prelude.{Ok, Err}
use Rattle.graph.specs.Rows.{at, total, Best}
use Rattle.graph.specs.Directed.{directed_by}
use Rattle.outcome.specs.declared.Refusal.{Refusal}
use Rattle.outcome.specs.declared.Refusal.TheVariants.{ManyPoints}
use Rattle.points.specs.Limits.{max_points}
use Rattle.outcome.specs.Refusal.{Outcome, done, refused, then_do, demand}
use Rattle.table.specs.Table.{Contents, contents_of, read}
use Rattle.table.specs.Calls.{contents_in}
use Rattle.acyclic.proofs.OrientedLaws.{turned-length, directed-oriented}
use Rattle.layering.specs.Calls.{table_rows_found, rows_of_table, oriented_in, turned_in, flags_by, place_call}
use Rattle.layering.proofs.CallLaws.{read-oriented, place-contents, place-flags}
use Rattle.rows.specs.Placed.{FairEdges}
use Rattle.ordering.specs.declared.types.TableChart.{TableChart}
use Rattle.merging.specs.Merged.{merged, drawn_edges}
use Rattle.merging.specs.Merging.{Mergeable}
use Rattle.points.specs.Points.{row_count}
use Rattle.points.specs.Laying.{Chart}
use Rattle.points.proofs.PointLaws.{tails, heads}
use Rattle.fewest.specs.Fewest.{drawing_of}
use Rattle.ordering.specs.Calls.{drawn_in, Placing, point_count, unless_many, chart_of_table, Charted, charted, chart_out, DrawEnd, draw_by, draw_call, draw_end}
use Rattle.ordering.specs.Charting.{charted_by, TableFound}
use Rattle.ordering.proofs.DrawnLaws.{mergeable, drawn-among}
use Rattle.ordering.proofs.ChartLaws.{chart-of}

-- What an accepted table's lists and numbers hold: its steps and edges, its rows, and their drawing.
pub record Opened (bytes : List ℕ) (r : TableChart) : Type 0 where
  pub said : read bytes ≡ done (contents_in r.table)
  pub is : chart_of_table bytes ≡ done (record { contents = contents_in r.table; rows = r.chart.rows.items })
  pub rows_found : rows_of_table bytes ≡ done r.chart.rows.items
  pub flags_are : r.turned.items ≡ turned_in (contents_in r.table)
  pub best : Best (length r.table.steps.items) (oriented_in (contents_in r.table)) r.chart.rows.items
  pub height_is : r.chart.height ≡ row_count r.chart.rows.items
  pub order_is : r.chart.order.items ≡ flatten (drawing_of r.chart.rows.items (drawn_in (contents_in r.table))).order
  pub points_are : length r.chart.order.items ≡ point_count r.chart.rows.items (drawn_in (contents_in r.table))
  pub few_points : length r.chart.order.items ≤ max_points
  pub total_is : r.chart.total ≡ total (oriented_in (contents_in r.table)) (at r.chart.rows.items)
  pub crossings_are : r.chart.crossings ≡ (drawing_of r.chart.rows.items (drawn_in (contents_in r.table))).crossings

-- ---- the placing

-- an outcome that is not refused has a placing, with few points
record Found (bytes : List ℕ) (c : Charted) : Type 0 where
  placing : Placing
  is : chart_of_table bytes ≡ done placing
  said : read bytes ≡ done placing.contents
  rows_found : rows_of_table bytes ≡ done placing.rows
  few : point_count placing.rows (drawn_in placing.contents) ≤ max_points
  holds : c ≡ charted placing.rows (oriented_in placing.contents) (drawn_in placing.contents)

never : {X : Type 0} {c : Charted} {r : Refusal} → ◌≡◌ {A = Outcome Charted} (done c) (refused r) → X
never e = let z : ◌≡◌ {A = ℕ} 0 1 = cc in absurd (omega arith)

module _ (bytes : List ℕ) (c : Charted) where
  abbrev rest : Contents → Outcome Placing
  rest t = then_do (table_rows_found (length t.steps) t.edges) λ rows. unless_many t rows

  found_of : done c ≡ chart_out (chart_of_table bytes) → Found bytes c
  unfolding chart_of_table rows_of_table
  found_of = go (read bytes) refl
    where
      many : (t : Contents) (ys : List ℕ) (b : Bool) → read bytes ≡ done t → table_rows_found (length t.steps) t.edges ≡ done ys
          → leb (point_count ys (drawn_in t)) max_points ≡ b
          → done c ≡ chart_out (demand b ManyPoints (done (record { contents = t; rows = ys }))) → Found bytes c
      many t ys true r s p e =
          record {
            placing = record { contents = t; rows = ys };
            is = rw (r, s, p);
            said = r;
            rows_found = rw (r, s);
            few = leb-true _ _ p;
            holds = cc;
          }
      many t ys false r s p e = never e

      found : (t : Contents) (o : Outcome (List ℕ)) → read bytes ≡ done t → table_rows_found (length t.steps) t.edges ≡ o
          → done c ≡ chart_out (then_do o (λ ys. unless_many t ys)) → Found bytes c
      found t (done ys) r s e = many t ys (leb (point_count ys (drawn_in t)) max_points) r s refl e
      found t (refused g) r s e = never e

      go : (o : Outcome Contents) → read bytes ≡ o → done c ≡ chart_out (then_do o rest) → Found bytes c
      go (done t) r e = found t (table_rows_found (length t.steps) t.edges) r refl e
      go (refused g) r e = never e

-- ---- the lists and numbers

-- a table that was read, and the rest of the answer in the place of what was found
module _ (bytes : List ℕ) {r : TableChart} (e : draw_end (Ok r) ≡ draw_call bytes) (h : TableFound bytes (Ok r.chart)) where
  found : Found bytes (charted_by r.chart)
  found = found_of bytes (charted_by r.chart) h.says

  end : draw_end (Ok r) ≡ draw_by (place_call bytes) (done (charted_by r.chart))
  unfolding draw_call
  end = e ∙ ap (draw_by (place_call bytes)) (sym h.says)

  here : contents_in r.table ≡ found.placing.contents
  here = ap (λ (x : DrawEnd). x.contents) end ∙ place-contents bytes ∙ ap contents_of found.said

  ys-are : r.chart.rows.items ≡ found.placing.rows
  ys-are = ap (λ (c : Charted). c.rows) found.holds

  -- what was found, by contents and rows
  record Held (t : Contents) (ys : List ℕ) : Type 0 where
    is : chart_of_table bytes ≡ done (record { contents = t; rows = ys })
    said : read bytes ≡ done t
    rows_found : rows_of_table bytes ≡ done ys
    few : point_count ys (drawn_in t) ≤ max_points
    holds : charted_by r.chart ≡ charted ys (oriented_in t) (drawn_in t)

  held : Held (contents_in r.table) r.chart.rows.items
  held =
      subst (λ t. Held t r.chart.rows.items) (sym here)
      (subst (Held found.placing.contents) (sym ys-are)
      (record { is = found.is; said = found.said; rows_found = found.rows_found; few = found.few; holds = found.holds }))

  pub opened : Opened bytes r
  opened =
      record {
        said = held.said;
        is = held.is;
        rows_found = held.rows_found;
        flags_are =
            ap (λ (x : DrawEnd). x.turned) end ∙ place-flags bytes ∙ ap (λ o. flags_by o (turned_in (contents_of (read bytes)))) held.rows_found
            ∙ ap (λ o. turned_in (contents_of o)) held.said;
        best = subst (λ o. Best (length (contents_of o).steps) (oriented_in (contents_of o)) r.chart.rows.items) held.said h.placed.best;
        height_is = h.placed.tall;
        order_is = ap (λ (c : Charted). c.order) held.holds;
        points_are = ap (λ (c : Charted). c.figures.points) held.holds;
        few_points = omega (arith, ap (λ (c : Charted). c.figures.points) held.holds, held.few);
        total_is = ap (λ (c : Charted). c.figures.total) held.holds;
        crossings_are = ap (λ (c : Charted). c.figures.crossings) held.holds;
      }

-- ---- what a layer above takes from it

-- where nothing is handed out of a chart, it was refused
pub chart-refused : (o : Outcome Placing) {r : Refusal} → refused r ≡ chart_out o → o ≡ refused r
chart-refused (done p) e = let z : ◌≡◌ {A = ℕ} 0 1 = cc in absurd (omega arith)
chart-refused (refused g) e = sym cc

pub found-refused : (bytes : List ℕ) {f : Refusal} → TableFound bytes (Err f) → chart_of_table bytes ≡ refused f
found-refused bytes h = chart-refused (chart_of_table bytes) h.says

module _ {bytes : List ℕ} {r : TableChart} (o : Opened bytes r) where
  abbrev table : Contents
  table = contents_in r.table

  -- the edges as kept or turned are fair
  pub directed-fair : FairEdges (length r.table.steps.items) (oriented_in table)
  directed-fair = read-oriented bytes o.said

  pub opened-long : length r.turned.items ≡ length r.table.edges.items
  opened-long = ap length o.flags_are ∙ turned-length (length r.table.steps.items) r.table.edges.items

  pub opened-directed : directed_by r.turned.items r.table.edges.items ≡ oriented_in table
  opened-directed = ap (λ b. directed_by b r.table.edges.items) o.flags_are ∙ directed-oriented (length r.table.steps.items) r.table.edges.items

  -- the table's edges can be merged
  pub opened-mergeable : Mergeable r.table.edges.items
  opened-mergeable =
      mergeable r.turned.items r.table.edges.items (length r.table.steps.items)
      (subst (FairEdges (length r.table.steps.items)) (sym opened-directed) directed-fair)

  -- what is drawn of them are the edges of the chart
  pub opened-drawn : drawn_edges r.turned.items (merged r.table.edges.items) ≡ drawn_in table
  opened-drawn = ap (λ (b : List Bool). drawn_edges b (merged r.table.edges.items)) o.flags_are

  -- and lead down
  pub opened-chart : Chart r.chart.rows.items (tails (drawn_in table)) (heads (drawn_in table))
  opened-chart = chart-of (length r.table.steps.items) (oriented_in table) directed-fair r.chart.rows.items o.best (drawn_in table) (drawn-among table)
