-- Tables that were accepted before document 02 let them grow have the chart that they had, and its rows fit a byte.
use mathlib.Core.Path.{◌≡◌, ap}
use mathlib.Core.Bool.{Bool, true, false}
use mathlib.Core.List.{List}
use Prim.Native.Nat.{ℕ, ◌≤◌}
use native.Mathlib.Omega.{arith}
use lib.Dec.{leb}
use lib.ListN.{length}
use Rattle.graph.specs.Rows.{at}
use Rattle.outcome.specs.declared.Refusal.TheVariants.{ManyPoints}
use Rattle.table.specs.declared.rule.Rule.TheVariants.{Shortest}
use Rattle.table.specs.Limits.{old_size}
use Rattle.points.specs.Limits.{max_points}
use Rattle.outcome.specs.Refusal.{Outcome, done, refused, then_do, demand}
use Rattle.table.specs.Table.{Contents, read, read_within}
use Rattle.table.proofs.SizeLaws.{read-before}
use Rattle.rows.specs.Limits.{old_top_row}
use Rattle.layering.specs.Calls.{table_rows_found, rows_of_table, steps_in}
use Rattle.layering.proofs.SizeLaws.{table-byte}
use Rattle.ordering.specs.Calls.{Placing, drawn_in, point_count, unless_many, chart_of_table}

-- a chart's rows are those of the rows call
pub chart-rows : (bytes : List ℕ) {p : Placing} → chart_of_table bytes ≡ done p → rows_of_table bytes ≡ done p.rows
unfolding chart_of_table rows_of_table
chart-rows bytes {p} e = go (read bytes) e
  where
    many : (t : Contents) (rows : List ℕ) (b : Bool) → demand b ManyPoints (done (record { contents = t; rows = rows })) ≡ done p → done rows ≡ done p.rows
    many t rows true e = let f : rows ≡ p.rows = cc in ap done f
    many t rows false e = let z : ◌≡◌ {A = ℕ} 0 1 = cc in absurd (omega arith)

    found : (t : Contents) (o : Outcome (List ℕ)) → then_do o (λ rows. unless_many t rows) ≡ done p → o ≡ done p.rows
    found t (done rows) e = many t rows (leb (point_count rows (drawn_in t)) max_points) e
    found t (refused r) e = let z : ◌≡◌ {A = ℕ} 0 1 = cc in absurd (omega arith)

    go : (o : Outcome Contents) → then_do o (λ t. then_do (table_rows_found (length t.steps) t.edges) (λ rows. unless_many t rows)) ≡ done p
        → then_do o (λ t. table_rows_found (length t.steps) t.edges) ≡ done p.rows
    go (done t) e = found t (table_rows_found (length t.steps) t.edges) e
    go (refused r) e = let z : ◌≡◌ {A = ℕ} 0 1 = cc in absurd (omega arith)

pub chart-byte : (bytes : List ℕ) {p : Placing} → chart_of_table bytes ≡ done p → steps_in bytes ≤ old_size.steps → (v : ℕ) → at p.rows v ≤ old_top_row
chart-byte bytes e few v = table-byte bytes (chart-rows bytes e) few v

pub chart-before : (bytes : List ℕ) {t : Contents} → read_within old_size Shortest bytes ≡ done t
    → chart_of_table bytes ≡ then_do (table_rows_found (length t.steps) t.edges) λ rows. unless_many t rows
unfolding chart_of_table
chart-before bytes old = ap (λ o. then_do o λ t. then_do (table_rows_found (length t.steps) t.edges) λ rows. unless_many t rows) (read-before Shortest bytes old)
