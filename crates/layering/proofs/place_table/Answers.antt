-- The reader's refusal, rows, or a loop beside the table.
use Rattle.std.proofs.lemmas.Result.{err_from_is_err_and}
use Rattle.table.proofs.AnswerLaws.{read-refused, read-accepted}
use Rattle.layering.proofs.CallLaws.{read-orientable, unread-end, looped-end, found-end, ranked-found}
use Rattle.layering.proofs.place_table.Goals as goal

pub returns-in_err-table : goal.returns-in_err-table
returns-in_err-table c =
    let p = err_from_is_err_and c.from_residual.result c.from_residual.ensures.1 in
    let e = unread-end _ (read-refused _ c.in_err-table.ensures) in
    rw (p.1, p.2) (record { result_value = e.0; table_best = e.1 })

pub rank_edges-requires : goal.rank_edges-requires
rank_edges-requires c =
    rw (c.len.ensures.value, c.deref.ensures.0) (read-orientable _ (read-accepted _ c.in_ok-table.ensures))

pub returns-in-Ok : goal.returns-in-Ok
returns-in-Ok c =
    let t = read-accepted _ {t = c.in_ok-table.table} c.in_ok-table.ensures in
    let e = found-end _ (ranked-found _ {t = c.in_ok-table.table} t (rw (c.len.ensures.value, c.deref.ensures.0) at c.in-Ok.ensures)) in
    record { result_value = e.0; table_best = e.1 }

pub returns-in-Err : goal.returns-in-Err
returns-in-Err c =
    let t = read-accepted _ {t = c.in_ok-table.table} c.in_ok-table.ensures in
    let e = looped-end _ {t = c.in_ok-table.table} t (rw (c.len.ensures.value, c.deref.ensures.0) at c.in-Err.ensures) in
    record { result_value = e.0; table_best = e.1 }
