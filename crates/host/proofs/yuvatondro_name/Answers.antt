-- Either answer of `find_name` makes its word: a name is short, and no refusal of the call has a step.
use native.Mathlib.Omega.{arith}
use Rattle.queries.proofs.NameLaws.{answer-found, answer-refused, name-alone, name-low}
use Rattle.words.proofs.WordLaws.{name-refused, name-told}
use Rattle.host.proofs.yuvatondro_name.Goals as goal

pub name_word-requires : goal.name_word-requires
name_word-requires c = let low = name-low _ _ (answer-found _ _ c.in-Ok.ensures) in (omega (arith, low), omega (arith, low))

pub returns-in-Ok-clause-result_value : goal.returns-in-Ok-clause-result_value
returns-in-Ok-clause-result_value c = (name-told _ _ (omega (arith, name-low _ _ (answer-found _ _ c.in-Ok.ensures))) c.name_word.ensures c.in-Ok.ensures).0

pub refusal_word-requires : goal.refusal_word-requires
refusal_word-requires c = omega (arith, name-alone _ _ c.in-Err.f (answer-refused _ _ c.in-Err.ensures))

pub returns-in-Err-clause-result_value : goal.returns-in-Err-clause-result_value
returns-in-Err-clause-result_value c =
    let step = name-alone _ _ c.in-Err.f (answer-refused _ _ c.in-Err.ensures) in
    (name-refused c.in-Err.f (omega (arith, step)) c.refusal_word.ensures c.in-Err.ensures step).0

pub returns-in-Err-clause-value : goal.returns-in-Err-clause-value
returns-in-Err-clause-value c =
    let step = name-alone _ _ c.in-Err.f (answer-refused _ _ c.in-Err.ensures) in
    (name-refused c.in-Err.f (omega (arith, step)) c.refusal_word.ensures c.in-Err.ensures step).1
