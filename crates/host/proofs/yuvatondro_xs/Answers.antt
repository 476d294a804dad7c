-- Either answer of `find_xs` makes its word: the points are few enough for it, and so is the step of a refusal.
use native.Mathlib.Omega.{arith}
use mathlib.Core.Path.{◌≡◌, sym, subst, ◌∙◌}
use mathlib.Core.List.{List}
use Prim.Native.Nat.{ℕ}
use Rattle.coordinates.specs.Calls.{XsBest}
use Rattle.coordinates.proofs.CallLaws.{told-few}
use Rattle.coordinates.proofs.StepLaws.{xs-call-step}
use Rattle.words.proofs.WordLaws.{points-refused, points-told}
use Rattle.host.proofs.yuvatondro_xs.Goals as goal

xs-same : (bytes xs : List ℕ) {told read : List ℕ} → told ≡ read → XsBest bytes told xs → XsBest bytes read xs
xs-same bytes xs e b = subst (λ l. XsBest bytes l xs) e b

pub written_word-requires : goal.written_word-requires
written_word-requires c = omega (arith, told-few _ _ c.in-Ok.points c.in-Ok.ensures.result_value)

pub returns-in-Ok-clause-result_value : goal.returns-in-Ok-clause-result_value
returns-in-Ok-clause-result_value c =
    (points-told _ (omega (arith, told-few _ _ c.in-Ok.points c.in-Ok.ensures.result_value)) c.written_word.ensures c.in-Ok.ensures.result_value).0

pub refusal_word-requires : goal.refusal_word-requires
refusal_word-requires c = omega (arith, xs-call-step _ _ c.in-Err.f c.in-Err.ensures.result_value)

pub returns-in-Err-clause-result_value : goal.returns-in-Err-clause-result_value
returns-in-Err-clause-result_value c =
    (points-refused c.in-Err.f (omega (arith, xs-call-step _ _ c.in-Err.f c.in-Err.ensures.result_value)) c.refusal_word.ensures c.in-Err.ensures.result_value).0

pub returns-in-Err-clause-xs_best : goal.returns-in-Err-clause-xs_best
returns-in-Err-clause-xs_best c =
    let word = points-refused c.in-Err.f (omega (arith, xs-call-step _ _ c.in-Err.f c.in-Err.ensures.result_value)) c.refusal_word.ensures c.in-Err.ensures.result_value in
    xs-same _ _ (c.in-Err.ensures.result_value ∙ sym word.0) c.in-Err.ensures.xs_best
