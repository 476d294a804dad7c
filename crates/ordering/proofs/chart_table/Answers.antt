-- A table or rows that are refused have no chart; the edges of others, which of them are turned, and their best rows make one.
use Rattle.std.specs.Prelude.{Err, Ok}
use Rattle.std.proofs.lemmas.Result.{err_from_is_err_and}
use Rattle.layering.proofs.CallLaws.{place-found, place-refused}
use Rattle.ordering.proofs.CallLaws.{table-refused, flags-long, table-given, table-drawn, drawn-end, many-end, rowless-end}
use Rattle.ordering.proofs.chart_table.Goals as goal

pub returns-in_err-table : goal.returns-in_err-table
returns-in_err-table c =
    let p = err_from_is_err_and c.from_residual.result c.from_residual.ensures.1 in
    let k = table-refused _ (place-refused _ c.in_err-table.field-0.0 c.in_err-table.ensures.result_value) in
    let e = rowless-end _ c.in_err-table.field-0.0 _ c.in_err-table.ensures.result_value k p.2 in
    rw p.1 (record { result_value = e.0; table_found = e.1 })

pub draw_edges-requires-clause-rows_given : goal.draw_edges-requires-clause-rows_given
draw_edges-requires-clause-rows_given c =
    let p = place-found _ {r = c.in_ok-table.field-0} c.in_ok-table.ensures.result_value c.in_ok-table.ensures.table_best in
    rw (c.deref.ensures.0, c.deref-2.ensures.0) (table-given _ p)

pub draw_edges-requires-clause-turned_len : goal.draw_edges-requires-clause-turned_len
draw_edges-requires-clause-turned_len c =
    let p = place-found _ {r = c.in_ok-table.field-0} c.in_ok-table.ensures.result_value c.in_ok-table.ensures.table_best in
    rw (c.deref.ensures.0, c.deref-2.ensures.0) (flags-long _ p)

pub returns-in-Ok : goal.returns-in-Ok
returns-in-Ok c =
    let p = place-found _ {r = c.in_ok-table.field-0} c.in_ok-table.ensures.result_value c.in_ok-table.ensures.table_best in
    let k = table-drawn _ p {c = Ok c.in-Ok.chart} (rw (c.deref.ensures.0, c.deref-2.ensures.0) at c.in-Ok.ensures) in
    record { result_value = drawn-end _ p k; table_found = k }

pub returns-in-Err : goal.returns-in-Err
returns-in-Err c =
    let p = place-found _ {r = c.in_ok-table.field-0} c.in_ok-table.ensures.result_value c.in_ok-table.ensures.table_best in
    let k = table-drawn _ p {c = Err c.in-Err.refusal} (rw (c.deref.ensures.0, c.deref-2.ensures.0) at c.in-Err.ensures) in
    record { result_value = many-end _ p k; table_found = k }
