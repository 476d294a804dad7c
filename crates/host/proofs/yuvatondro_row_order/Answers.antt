-- Either answer of `find_order` makes its word: the figures are small enough for it, and so is the step of a refusal.
use native.Mathlib.Omega.{arith}
use mathlib.Core.Path.{◌≡◌, sym, subst, ◌∙◌}
use mathlib.Core.List.{List}
use Prim.Native.Nat.{ℕ}
use Rattle.rearranging.specs.Calls.{OrderShown}
use Rattle.rearranging.proofs.FigureLaws.{row_small}
use Rattle.rearranging.proofs.StepLaws.{order-call-step}
use Rattle.words.proofs.WordLaws.{order-refused, order-told}
use Rattle.host.proofs.yuvatondro_row_order.Goals as goal

order_same : (bytes : List ℕ) (r tries : ℕ) (order : List ℕ) {told read : List ℕ} → told ≡ read → OrderShown bytes r tries told order → OrderShown bytes r tries read order
order_same bytes r tries order e s = subst (λ l. OrderShown bytes r tries l order) e s

pub order_word-requires : goal.order_word-requires
order_word-requires c =
    let small = row_small _ _ _ _ c.in-Ok.figures c.in-Ok.ensures.result_value c.in-Ok.ensures.order_shown in
    (omega (arith, small.few_points), omega (arith, small.few_crossings), omega (arith, small.few_crossings, small.low_floor))

pub returns-in-Ok-clause-result_value : goal.returns-in-Ok-clause-result_value
returns-in-Ok-clause-result_value c =
    let small = row_small _ _ _ _ c.in-Ok.figures c.in-Ok.ensures.result_value c.in-Ok.ensures.order_shown in
    (order-told _ _ _ (omega (arith, small.few_points)) (omega (arith, small.few_crossings, small.low_floor)) c.order_word.ensures c.in-Ok.ensures.result_value).0

pub returns-in-Ok-clause-order_shown : goal.returns-in-Ok-clause-order_shown
returns-in-Ok-clause-order_shown c =
    let small = row_small _ _ _ _ c.in-Ok.figures c.in-Ok.ensures.result_value c.in-Ok.ensures.order_shown in
    let word = order-told _ _ _ (omega (arith, small.few_points)) (omega (arith, small.few_crossings, small.low_floor)) c.order_word.ensures c.in-Ok.ensures.result_value in
    order_same _ _ _ _ (c.in-Ok.ensures.result_value ∙ sym word.0) c.in-Ok.ensures.order_shown

pub refusal_word-requires : goal.refusal_word-requires
refusal_word-requires c = omega (arith, order-call-step _ _ _ _ c.in-Err.f c.in-Err.ensures.result_value)

pub returns-in-Err-clause-result_value : goal.returns-in-Err-clause-result_value
returns-in-Err-clause-result_value c =
    (order-refused c.in-Err.f (omega (arith, order-call-step _ _ _ _ c.in-Err.f c.in-Err.ensures.result_value)) c.refusal_word.ensures c.in-Err.ensures.result_value).0

pub returns-in-Err-clause-order_shown : goal.returns-in-Err-clause-order_shown
returns-in-Err-clause-order_shown c =
    let word = order-refused c.in-Err.f (omega (arith, order-call-step _ _ _ _ c.in-Err.f c.in-Err.ensures.result_value)) c.refusal_word.ensures c.in-Err.ensures.result_value in
    order_same _ _ _ _ (c.in-Err.ensures.result_value ∙ sym word.0) c.in-Err.ensures.order_shown
