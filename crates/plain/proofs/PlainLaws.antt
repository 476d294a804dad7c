-- What C reads out of an answer is what the answer tells, and a stroke that is read is exact.
use mathlib.Core.Path.{◌≡◌, refl, sym, ap, ◌∙◌}
use mathlib.Core.List.{List}
use Prim.Native.Nat.{ℕ}
use native.Mathlib.Omega.{arith}
use lib.ListN.{get_or}
use Rattle.std.specs.Prelude.{Option, Some, None, Result, Ok, Err}
use Rattle.outcome.specs.declared.Refusal.{Refusal}
use Rattle.outcome.specs.Refusal.{refusal_in}
use Rattle.outcome.proofs.ToldLaws.{number-some}
use Rattle.corners.specs.declared.Stroke.{Stroke}
use Rattle.corners.specs.declared.Stroke.TheVariants.{Move, Line}
use Rattle.strokes.specs.Calls.{stroke_call, AnswerExact}
use Rattle.strokes.proofs.StepLaws.{stroke-call-step}
use Rattle.words.specs.Words.{stroke_read}
use Rattle.words.proofs.WordLaws.{stroke-refused, stroke-unpacks}
use Rattle.plain.specs.Plain.{stroke_numbers, plain_answer, StepFits, PlainExact}

-- the step of a refusal fits, whatever the table
pub step_fits : (bytes : List ℕ) (i : ℕ) (a : Result (Option Stroke) Refusal) → a ≡ stroke_call bytes i → StepFits a
step_fits bytes i (Ok (Some s)) e = tt
step_fits bytes i (Ok None) e = tt
step_fits bytes i (Err r) e = omega (arith, stroke-call-step bytes i r (sym e))

pub stroke-read : (a : Result (Option Stroke) Refusal) → StepFits a → stroke_read (plain_answer a).answer ≡ stroke_numbers a
stroke-read (Ok (Some (Move c))) h = stroke-unpacks 1 refl (omega arith)
stroke-read (Ok (Some (Line c))) h = stroke-unpacks 2 refl (omega arith)
stroke-read (Ok None) h = stroke-unpacks 0 refl (omega arith)
stroke-read (Err r) h = stroke-refused r h refl refl

-- without a stroke no case is told
pub plain-exact : (bytes : List ℕ) (i : ℕ) (a : Result (Option Stroke) Refusal) → StepFits a → AnswerExact bytes i a → PlainExact bytes i (plain_answer a)
plain-exact bytes i (Ok (Some s)) h e k told = e
plain-exact bytes i (Ok None) h e k told = absurd (omega (arith, ap (λ (l : List ℕ). get_or l 1 0) (sym (stroke-read (Ok None) h) ∙ told)))
plain-exact bytes i (Err r) h e k told = absurd (omega (arith, ap refusal_in (sym (stroke-read (Err r) h) ∙ told), number-some r))
