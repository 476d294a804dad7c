-- A refused table leaves the buffer, as does a loop; the rows of any other are handed out.
use Rattle.std.proofs.lemmas.Result.{err_from_is_err_and}
use Rattle.table.proofs.AnswerLaws.{read-refused, read-accepted}
use Rattle.layering.proofs.CallLaws.{read-orientable, table-refused, ranked-refused, ranked-found, table-call, refused-call}
use Rattle.layering.proofs.find_rows.Goals as goal

pub returns-in_err-table : goal.returns-in_err-table
returns-in_err-table c =
    let p = err_from_is_err_and c.from_residual.result c.from_residual.ensures.1 in
    let call = refused-call _ c.args.rows.now (table-refused _ (read-refused _ c.in_err-table.ensures)) in
    rw (p.1, p.2) (record { result_value = call.0; rows_after = call.1.0; table_best = call.1.1 })

pub rank_edges-requires : goal.rank_edges-requires
rank_edges-requires c =
    rw (c.len.ensures.value, c.deref.ensures.0) (read-orientable _ (read-accepted _ c.in_ok-table.ensures))

pub returns-in_err-ranked : goal.returns-in_err-ranked
returns-in_err-ranked c =
    let p = err_from_is_err_and c.from_residual-in_err-ranked.result c.from_residual-in_err-ranked.ensures.1 in
    let t = read-accepted _ {t = c.in_ok-table.table} c.in_ok-table.ensures in
    let call = refused-call _ c.args.rows.now (ranked-refused _ {t = c.in_ok-table.table} t (rw (c.len.ensures.value, c.deref.ensures.0) at c.in_err-ranked.ensures)) in
    rw (p.1, p.2) (record { result_value = call.0; rows_after = call.1.0; table_best = call.1.1 })

pub returns : goal.returns
returns c =
    let t = read-accepted _ {t = c.in_ok-table.table} c.in_ok-table.ensures in
    let call = table-call _ (ranked-found _ {t = c.in_ok-table.table} t {x = c.in_ok-ranked.ranked} (rw (c.len.ensures.value, c.deref.ensures.0) at c.in_ok-ranked.ensures)) c.hand_out.ensures in
    record { result_value = call.0; rows_after = call.1.0; table_best = call.1.1 }
