-- What was found is handed out, and that is what the call is to make of the bytes.
use mathlib.Core.Path.{refl}
use Rattle.std.specs.Prelude.{Ok, Err}
use Rattle.std.proofs.lemmas.Result.{err_from_is_err_and}
use Rattle.ordering.proofs.CallLaws.{chart-call}
use Rattle.ordering.proofs.HandLaws.{handed-refused}
use Rattle.ordering.proofs.draw_chart.Goals as goal

pub returns-in_err-charted : goal.returns-in_err-charted
returns-in_err-charted c =
    let p = err_from_is_err_and c.from_residual.result c.from_residual.ensures.1 in
    let k = chart-call _ {f = Err c.in_err-charted.field-0.0.refusal} {r = Err c.in_err-charted.field-0.0.refusal} c.in_err-charted.ensures.table_found
    (handed-refused _ _ (Err c.in_err-charted.field-0.0.refusal) refl) in
    rw (p.1, p.2) (record { result_value = k.0; rows_after = k.1.0; order_after = k.1.1.0; chart_best = k.1.1.1 })

pub returns : goal.returns
returns c =
    let k = chart-call _ {f = Ok c.in_ok-charted.charted.chart} c.in_ok-charted.ensures.table_found c.hand_out_chart.ensures in
    record { result_value = k.0; rows_after = k.1.0; order_after = k.1.1.0; chart_best = k.1.1.1 }
