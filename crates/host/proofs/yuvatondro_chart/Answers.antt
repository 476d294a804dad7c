-- Either answer of `draw_chart` makes its word: the figures are small enough for it, and so is the step of a refusal.
use native.Mathlib.Omega.{arith}
use mathlib.Core.Path.{◌≡◌, sym, subst, ◌∙◌}
use mathlib.Core.List.{List}
use Prim.Native.Nat.{ℕ}
use Rattle.ordering.specs.Calls.{ChartBest}
use Rattle.ordering.proofs.FigureLaws.{figures-small}
use Rattle.ordering.proofs.StepLaws.{chart-call-step}
use Rattle.words.proofs.WordLaws.{chart-refused, chart-told}
use Rattle.host.proofs.yuvatondro_chart.Goals as goal

chart-same : (bytes rows : List ℕ) {told read : List ℕ} → told ≡ read → ChartBest bytes told rows → ChartBest bytes read rows
chart-same bytes rows e b = subst (λ l. ChartBest bytes l rows) e b

pub chart_word-requires : goal.chart_word-requires
chart_word-requires c =
    let small = figures-small _ _ _ c.in-Ok.figures _ (sym c.in-Ok.ensures.result_value) c.in-Ok.ensures.chart_best in
    (omega (arith, small.few_points), omega (arith, small.low_total), omega (arith, small.few_crossings))

pub returns-in-Ok-clause-result_value : goal.returns-in-Ok-clause-result_value
returns-in-Ok-clause-result_value c =
    let small = figures-small _ _ _ c.in-Ok.figures _ (sym c.in-Ok.ensures.result_value) c.in-Ok.ensures.chart_best in
    (chart-told _ _ _ (omega (arith, small.few_points)) (omega (arith, small.low_total)) c.chart_word.ensures c.in-Ok.ensures.result_value).0

pub returns-in-Ok-clause-chart_best : goal.returns-in-Ok-clause-chart_best
returns-in-Ok-clause-chart_best c =
    let small = figures-small _ _ _ c.in-Ok.figures _ (sym c.in-Ok.ensures.result_value) c.in-Ok.ensures.chart_best in
    let word = chart-told _ _ _ (omega (arith, small.few_points)) (omega (arith, small.low_total)) c.chart_word.ensures c.in-Ok.ensures.result_value in
    chart-same _ _ (c.in-Ok.ensures.result_value ∙ sym word.0) c.in-Ok.ensures.chart_best

pub refusal_word-requires : goal.refusal_word-requires
refusal_word-requires c = omega (arith, chart-call-step _ _ _ c.in-Err.f c.in-Err.ensures.result_value)

pub returns-in-Err-clause-result_value : goal.returns-in-Err-clause-result_value
returns-in-Err-clause-result_value c =
    (chart-refused c.in-Err.f (omega (arith, chart-call-step _ _ _ c.in-Err.f c.in-Err.ensures.result_value)) c.refusal_word.ensures c.in-Err.ensures.result_value).0

pub returns-in-Err-clause-chart_best : goal.returns-in-Err-clause-chart_best
returns-in-Err-clause-chart_best c =
    let word = chart-refused c.in-Err.f (omega (arith, chart-call-step _ _ _ c.in-Err.f c.in-Err.ensures.result_value)) c.refusal_word.ensures c.in-Err.ensures.result_value in
    chart-same _ _ (c.in-Err.ensures.result_value ∙ sym word.0) c.in-Err.ensures.chart_best
