-- Strokes for C: what the word of an answer tells, the floats beside it, and that they are exact.
use Rattle.std.specs.Prelude.{◌≡◌, false, List, [], ◌∷◌, ℕ, suc, ◌<◌, pos, Float, Option, Some, None, Result, Ok, Err}
use Rattle.std.specs.Float.{fin}
use Rattle.outcome.specs.declared.Refusal.{Refusal}
use Rattle.outcome.specs.Refusal.{numbers_of, step_of}
use Rattle.table.specs.Table.{contents_of, read}
use Rattle.coordinates.specs.Calls.{rows_held}
use Rattle.corners.specs.declared.Corner.{Corner}
use Rattle.corners.specs.declared.Stroke.{Stroke}
use Rattle.corners.specs.declared.Stroke.TheVariants.{Move, Line}
use Rattle.corners.specs.Strokes.{end_of}
use Rattle.strokes.specs.Calls.{CornerExact}
use Rattle.words.specs.Words.{second, stroke_read, done_word}
use Rattle.plain.specs.declared.PlainStroke.{PlainStroke}

-- the case of a stroke: 1 a move, 2 a line
abbrev pub case_of : Stroke → ℕ
case_of (Move c) = 1
case_of (Line c) = 2

-- All that an answer tells in numbers: 0 and the case, which is 0 where there is none, or a refusal.
abbrev pub stroke_numbers : Result (Option Stroke) Refusal → List ℕ
stroke_numbers (Ok (Some s)) = 0 ∷ case_of s ∷ []
stroke_numbers (Ok None) = 0 ∷ 0 ∷ []
stroke_numbers (Err r) = numbers_of r

abbrev pub zero32 : Float
zero32 = fin false 0 (pos 0)

-- a word with both floats 0, and with a corner
abbrev pub bare_word : ℕ → PlainStroke
bare_word w = record { answer = w; x = zero32; y = zero32 }

abbrev pub plain_stroke : Stroke → PlainStroke
plain_stroke s = record { answer = done_word (0 ∷ case_of s ∷ []); x = (end_of s).x; y = (end_of s).y }

abbrev pub plain_refusal : Refusal → PlainStroke
plain_refusal r = bare_word (done_word (numbers_of r))

-- an answer in plain numbers: where there is no stroke both floats are 0
abbrev pub plain_answer : Result (Option Stroke) Refusal → PlainStroke
plain_answer (Ok (Some s)) = plain_stroke s
plain_answer (Ok None) = bare_word 0
plain_answer (Err r) = plain_refusal r

-- the step that comes with a loop fits its byte
abbrev pub StepFits : Result (Option Stroke) Refusal → Type 0
StepFits (Ok (Some s)) = Unit {0}
StepFits (Ok None) = Unit {0}
StepFits (Err r) = step_of r < second

-- the two floats as a corner
abbrev pub corner_in : PlainStroke → Corner
corner_in p = record { x = p.x; y = p.y }

-- Where a stroke is read out of the word, so that the case is not 0, the two floats are exactly the corner of the stroke at the index, for
-- the table that bytes write down.
abbrev pub PlainExact : List ℕ → ℕ → PlainStroke → Type 0
PlainExact bytes i p = (k : ℕ) → stroke_read p.answer ≡ 0 ∷ suc k ∷ [] → CornerExact (rows_held bytes) (contents_of (read bytes)) i (corner_in p)
