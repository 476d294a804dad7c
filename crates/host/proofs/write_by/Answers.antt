-- Either answer of `write_table_by` makes its word: the count is small, and no step comes with a refusal.
use mathlib.Core.Path.{refl}
use native.Mathlib.Omega.{arith}
use Prim.Native.Nat.{◌<◌}
use Rattle.outcome.specs.Refusal.{step_of}
use Rattle.writing.proofs.CallLaws.{write_alone, write_low}
use Rattle.words.specs.Words.{second}
use Rattle.words.proofs.WordLaws.{written-refused, written-told}
use Rattle.host.proofs.write_by.Goals as goal

pub written_word-requires : goal.written_word-requires
written_word-requires c = omega (arith, write_low _ _ _ c.in-Ok.ensures.result_value refl)

pub returns-in-Ok-clause-result_value : goal.returns-in-Ok-clause-result_value
returns-in-Ok-clause-result_value c = (written-told _ c.written_word.ensures c.in-Ok.ensures.result_value).0

pub refusal_word-requires : goal.refusal_word-requires
refusal_word-requires c = omega (arith, write_alone _ _ _ c.in-Err.ensures.result_value refl)

pub returns-in-Err-clause-result_value : goal.returns-in-Err-clause-result_value
returns-in-Err-clause-result_value c =
    let low : step_of c.in-Err.f < second = omega (arith, write_alone _ _ _ c.in-Err.ensures.result_value refl) in
    (written-refused c.in-Err.f low c.refusal_word.ensures c.in-Err.ensures.result_value).0
