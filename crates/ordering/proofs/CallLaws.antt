-- The outcome of the whole chart by cases: what its parts found is what its definition says.
use mathlib.Core.Path.{◌≡◌, refl, sym, ap, ◌∙◌, subst}
use mathlib.Core.Bool.{Bool, true, false}
use mathlib.Core.List.{List}
use Prim.Native.Nat.{ℕ}
use lib.Dec.{leb}
use lib.ListN.{length}
use Rattle.std.specs.Prelude.{Some, Result, Ok, Err}
use Rattle.graph.specs.declared.Edge.{Edge}
use Rattle.graph.specs.Directed.{directed_by}
use Rattle.outcome.specs.declared.Refusal.{Refusal}
use Rattle.outcome.specs.declared.Refusal.TheVariants.{ManyPoints}
use Rattle.points.specs.Limits.{max_points}
use Rattle.outcome.specs.Refusal.{Outcome, done, refused, then_do, demand}
use Rattle.table.specs.Table.{Contents, read}
use Rattle.table.specs.Calls.{contents_in}
use Rattle.acyclic.proofs.OrientedLaws.{turned-length, directed-oriented}
use Rattle.layering.specs.declared.types.TableRows.{TableRows}
use Rattle.layering.specs.declared.types.Unplaced.{Unplaced}
use Rattle.layering.specs.Calls.{table_rows_found, rows_of_table, oriented_in, steps_in, edges_in, PlaceEnd, contents_beside, place_call, place_end}
use Rattle.layering.proofs.CallLaws.{TableFound as RowsOfTable, read-oriented, found-end}
use Rattle.merging.specs.Merged.{merged, drawn_edges}
use Rattle.ordering.specs.declared.types.Figures.{Figures}
use Rattle.ordering.specs.declared.types.ChartFound.{ChartFound}
use Rattle.ordering.specs.declared.types.Uncharted.{Uncharted}
use Rattle.points.specs.Points.{row_count}
use Rattle.ordering.specs.Calls.{drawn_in, point_count, unless_many, chart_of_table, charted, chart_out, chart_call, chart_numbers, ChartBest, RowsRefused, draw_call, draw_end}
use Rattle.ordering.specs.Charting.{RowsGiven, held_chart, unless_large, EdgesFound, TableFound, ChartHandedOut}
use Rattle.ordering.proofs.HandLaws.{handed-best}

-- what is handed out of a table whose rows are known
out-large : (t : Contents) (rows : List ℕ) → chart_out (unless_many t rows) ≡ unless_large rows (oriented_in t) (drawn_in t)
out-large t rows = go (leb (point_count rows (drawn_in t)) max_points)
  where
    go : (b : Bool) → chart_out (demand b ManyPoints (done (record { contents = t; rows = rows }))) ≡ demand b ManyPoints (done (charted rows (oriented_in t) (drawn_in t)))
    go true = refl
    go false = refl

module _ (bytes : List ℕ) where
  pub out-refused : {r : Refusal} → rows_of_table bytes ≡ refused r → chart_out (chart_of_table bytes) ≡ refused r
  unfolding chart_of_table rows_of_table
  out-refused {r} e = go (read bytes) e
    where
      go : (o : Outcome Contents) → then_do o (λ t. table_rows_found (length t.steps) t.edges) ≡ refused r
          → chart_out (then_do o λ t. then_do (table_rows_found (length t.steps) t.edges) λ rows. unless_many t rows) ≡ refused r
      go (done t) w = rw w
      go (refused k) w = cc

  -- what is found for a table that has no rows
  pub table-refused : {r : Refusal} → rows_of_table bytes ≡ refused r → TableFound bytes (Err r)
  table-refused e = record { says = sym (out-refused e); placed = tt }

  module _ {r : TableRows} (p : RowsOfTable bytes r) where
    abbrev t : Contents
    t = contents_in r.table

    abbrev ys : List ℕ
    ys = r.found.rows.items

    count : length ys ≡ length t.steps
    count = p.placed.best.one_a_node

    pub flags-long : length r.turned.items ≡ length r.table.edges.items
    flags-long = ap length p.flags ∙ turned-length (length t.steps) t.edges

    -- the flags direct the table's edges as they are kept or turned
    directed-same : directed_by r.turned.items r.table.edges.items ≡ oriented_in t
    directed-same = ap (λ b. directed_by b t.edges) p.flags ∙ directed-oriented (length t.steps) t.edges

    -- and so they do those that are drawn
    drawn-same : drawn_edges r.turned.items (merged r.table.edges.items) ≡ drawn_in t
    drawn-same = ap (λ b. drawn_edges b (merged t.edges)) p.flags

    pub table-given : RowsGiven (directed_by r.turned.items r.table.edges.items) r.found
    table-given =
        subst (λ (l : List Edge). RowsGiven l r.found) (sym directed-same)
        (record { fair = rw count (read-oriented bytes p.told); placed = rw count p.placed })

    out_of : chart_out (chart_of_table bytes) ≡ unless_large ys (oriented_in t) (drawn_in t)
    unfolding chart_of_table rows_of_table
    out_of = rw (p.told, says) (out-large t ys)
      where
        says : table_rows_found (length t.steps) t.edges ≡ done ys
        says = rw p.told at p.says

    pub table-drawn : {c : Result ChartFound Refusal}
        → EdgesFound (length ys) (directed_by r.turned.items r.table.edges.items) (drawn_edges r.turned.items (merged r.table.edges.items)) ys c
        → TableFound bytes c
    table-drawn {c} e =
        rw (out_of, p.told)
        (subst (λ (l : List Edge). EdgesFound (length t.steps) l (drawn_in t) ys c) directed-same
        (subst (λ (l : List Edge). EdgesFound (length t.steps) (directed_by r.turned.items r.table.edges.items) l ys c) drawn-same
        (subst (λ (k : ℕ). EdgesFound k (directed_by r.turned.items r.table.edges.items) (drawn_edges r.turned.items (merged r.table.edges.items)) ys c) count e)))

    -- what the functions behind the chart found is what a layer above is promised
    pub drawn-end : {c : ChartFound} → TableFound bytes (Ok c) → draw_end (Ok (record { table = r.table; turned = r.turned; chart = c })) ≡ draw_call bytes
    unfolding draw_call
    drawn-end {c} h = rw (← (found-end bytes p).0, ← h.says) (rw h.placed.tall refl)

  -- and of a table that has no chart: it and its turned edges, as `place_table` leaves them, beside the refusal
  pub refused-end : (u : Uncharted) → contents_beside u.table ≡ (place_call bytes).contents → u.turned.items ≡ (place_call bytes).turned
      → TableFound bytes (Err u.refusal) → draw_end (Err u) ≡ draw_call bytes
  unfolding draw_call row_count
  refused-end u t f h = rw (t, f, ← h.says) refl

  -- of too many points both are there
  pub many-end : {r : TableRows} → RowsOfTable bytes r → {f : Refusal} → TableFound bytes (Err f)
      → draw_end (Err (record { refusal = f; table = Some r.table; turned = r.turned })) ≡ draw_call bytes
  many-end {r} p {f} h =
      let e = (found-end bytes p).0 in
      refused-end (record { refusal = f; table = Some r.table; turned = r.turned }) (ap (λ (x : PlaceEnd). x.contents) e) (ap (λ (x : PlaceEnd). x.turned) e) h

  -- of a table that has no rows no edge is turned
  pub rowless-end : (u : Unplaced) (x : Uncharted) → place_end (Err u) ≡ place_call bytes → TableFound bytes (Err u.refusal) → RowsRefused u x
      → (draw_end (Err x) ≡ draw_call bytes) × TableFound bytes (Err x.refusal)
  rowless-end u x e h k =
      let found = subst (λ f. TableFound bytes (Err f)) (sym k.refusal_is) h in
      (refused-end x (ap contents_beside k.table_is ∙ ap (λ (y : PlaceEnd). y.contents) e) (k.none_turned ∙ ap (λ (y : PlaceEnd). y.turned) e) found, found)

  -- ---- the whole chart

  -- what the call promises
  pub chart-call : {f : Result ChartFound Refusal} {rows order rows' order' : List ℕ} {r : Result Figures Refusal} → TableFound bytes f
      → ChartHandedOut (held_chart f) rows order rows' order' r
      → (chart_numbers r ≡ (chart_call bytes rows order).numbers) × ((rows' ≡ (chart_call bytes rows order).rows)
      × ((order' ≡ (chart_call bytes rows order).order) × ChartBest bytes (chart_numbers r) rows'))
  unfolding chart_call
  chart-call {f} {rows} {order} {rows'} {order'} {r} p h =
      let k : ChartHandedOut (chart_out (chart_of_table bytes)) rows order rows' order' r = subst (λ o. ChartHandedOut o rows order rows' order' r) p.says h in
      (k.numbers, (k.rows_are, (k.order_is, handed-best (steps_in bytes) (edges_in bytes) p k)))
