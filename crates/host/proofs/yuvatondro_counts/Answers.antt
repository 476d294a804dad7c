-- Either answer of `count_table` makes its word: the counts are small, and a refusal of the reader has no step.
use native.Mathlib.Omega.{arith}
use Prim.Native.Nat.{◌<◌}
use Rattle.outcome.specs.Refusal.{step_of}
use Rattle.words.specs.Words.{second}
use Rattle.table.proofs.RangeLaws.{read-alone}
use Rattle.queries.proofs.CountLaws.{counts-not, counts-low}
use Rattle.words.proofs.WordLaws.{counts-refused, counts-told}
use Rattle.host.proofs.yuvatondro_counts.Goals as goal

pub counts_word-requires : goal.counts_word-requires
counts_word-requires c = let low = counts-low _ c.in-Ok.ensures in (omega (arith, low), omega (arith, low))

pub returns-in-Ok-clause-result_value : goal.returns-in-Ok-clause-result_value
returns-in-Ok-clause-result_value c = (counts-told _ _ (omega (arith, counts-low _ c.in-Ok.ensures)) c.counts_word.ensures c.in-Ok.ensures).0

pub refusal_word-requires : goal.refusal_word-requires
refusal_word-requires c = omega (arith, read-alone _ (counts-not _ c.in-Err.ensures))

pub returns-in-Err-clause-result_value : goal.returns-in-Err-clause-result_value
returns-in-Err-clause-result_value c =
    let low : step_of c.in-Err.f < second = omega (arith, read-alone _ (counts-not _ c.in-Err.ensures)) in
    (counts-refused c.in-Err.f low c.refusal_word.ensures c.in-Err.ensures).0
