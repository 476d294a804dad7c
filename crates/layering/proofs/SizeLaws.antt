-- Tables that were accepted before document 02 let them grow have the rows that they had, and these fit a byte.
use mathlib.Core.Path.{◌≡◌, ap, ◌∙◌}
use mathlib.Core.List.{List}
use Prim.Native.Nat.{ℕ, ◌≤◌}
use native.Mathlib.Omega.{arith}
use lib.ListN.{length}
use Rattle.graph.specs.Rows.{at}
use Rattle.table.specs.declared.rule.Rule.TheVariants.{Shortest}
use Rattle.table.specs.Limits.{old_size}
use Rattle.outcome.specs.Refusal.{done, then_do}
use Rattle.table.specs.Table.{Contents, contents_of, read_within}
use Rattle.table.proofs.SizeLaws.{read-few, read-before}
use Rattle.rows.specs.Limits.{old_top_row}
use Rattle.rows.proofs.HeightLaws.{rows-byte}
use Rattle.layering.specs.Calls.{table_rows_found, rows_of_table, steps_in}
use Rattle.layering.proofs.CallLaws.{table-rows}

-- rows of no more steps than the old limit, whatever else the table has
pub table-byte : (bytes : List ℕ) {rows : List ℕ} → rows_of_table bytes ≡ done rows → steps_in bytes ≤ old_size.steps → (v : ℕ) → at rows v ≤ old_top_row
table-byte bytes e few v =
    let t = table-rows bytes e in
    rw t.1 (rows-byte _ _ few (λ i h. (t.0.each i h).gap_low) v)

module _ (bytes : List ℕ) {t : Contents} (old : read_within old_size Shortest bytes ≡ done t) where
  -- what becomes of the edges, and which rows they have, is a function of the contents, and these are as before
  pub rows_before : rows_of_table bytes ≡ table_rows_found (length t.steps) t.edges
  unfolding rows_of_table
  rows_before = ap (λ o. then_do o λ t. table_rows_found (length t.steps) t.edges) (read-before Shortest bytes old)

  -- so a list of rows that a host kept, one byte each, is what the call gives today
  pub kept-right : {rows : List ℕ} → table_rows_found (length t.steps) t.edges ≡ done rows
      → (rows_of_table bytes ≡ done rows) × ((v : ℕ) → at rows v ≤ old_top_row)
  kept-right {rows} e =
      let now = rows_before ∙ e in
      let steps : steps_in bytes ≡ length t.steps = ap (λ o. length (contents_of o).steps) (read-before Shortest bytes old) in
      (now, table-byte bytes now (omega (arith, steps, (read-few old_size Shortest bytes old).0)))
