-- The answer of `find_stroke` in plain numbers: what is read out of them is what it tells.
use mathlib.Core.Path.{◌≡◌, sym, ap, subst, ◌∙◌}
use mathlib.Core.List.{List}
use Prim.Native.Nat.{ℕ}
use Rattle.std.specs.Prelude.{Option, Result}
use Rattle.outcome.specs.declared.Refusal.{Refusal}
use Rattle.corners.specs.declared.Stroke.{Stroke}
use Rattle.strokes.specs.Calls.{stroke_call, AnswerExact}
use Rattle.words.specs.Words.{stroke_read}
use Rattle.plain.specs.declared.PlainStroke.{PlainStroke}
use Rattle.plain.specs.Plain.{stroke_numbers, plain_answer, PlainExact}
use Rattle.plain.proofs.PlainLaws.{step_fits, stroke-read, plain-exact}
use Rattle.host.proofs.yuvatondro_stroke_at.Goals as goal

handed : (bytes : List ℕ) (i : ℕ) (a : Result (Option Stroke) Refusal) (p : PlainStroke) → a ≡ stroke_call bytes i → AnswerExact bytes i a → p ≡ plain_answer a
    → (stroke_read p.answer ≡ stroke_numbers (stroke_call bytes i)) × ((p ≡ plain_answer (stroke_call bytes i)) × PlainExact bytes i p)
handed bytes i a p is exact e =
    let fits = step_fits bytes i a is in (
      ap (λ (p : PlainStroke). stroke_read p.answer) e ∙ stroke-read a fits ∙ ap stroke_numbers is,
      (e ∙ ap plain_answer is, subst (PlainExact bytes i) (sym e) (plain-exact bytes i a fits exact)),
    )

pub plain_answer-requires : goal.plain_answer-requires
plain_answer-requires c = step_fits _ _ _ c.find_stroke.ensures.value

pub returns : goal.returns
returns c =
    let h = handed _ _ _ _ c.find_stroke.ensures.value c.find_stroke.ensures.answer_exact c.plain_answer.ensures in
    record { answer_value = h.0; value = h.1.0; plain_exact = h.1.1 }
