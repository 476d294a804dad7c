-- Either answer makes its word: 0, or a refusal, whose step is low.
use native.Mathlib.Omega.{arith}
use Rattle.layering.proofs.StepLaws.{rows-call-step}
use Rattle.words.proofs.WordLaws.{done_refused, done-told, same-told}
use Rattle.host.proofs.yuvatondro_rows.Goals as goal

pub returns-in-Ok-clause-result_value : goal.returns-in-Ok-clause-result_value
returns-in-Ok-clause-result_value c = (done-told c.in-Ok.ensures.result_value).0

pub refusal_word-requires : goal.refusal_word-requires
refusal_word-requires c = omega (arith, rows-call-step _ _ c.in-Err.f c.in-Err.ensures.result_value)

pub returns-in-Err-clause-result_value : goal.returns-in-Err-clause-result_value
returns-in-Err-clause-result_value c =
    (done_refused c.in-Err.f (omega (arith, rows-call-step _ _ c.in-Err.f c.in-Err.ensures.result_value)) c.refusal_word.ensures c.in-Err.ensures.result_value).0

pub returns-in-Err-clause-table_best : goal.returns-in-Err-clause-table_best
returns-in-Err-clause-table_best c =
    let word = done_refused c.in-Err.f (omega (arith, rows-call-step _ _ c.in-Err.f c.in-Err.ensures.result_value)) c.refusal_word.ensures c.in-Err.ensures.result_value in
    same-told c.in-Err.ensures.result_value word.0 c.in-Err.ensures.table_best
