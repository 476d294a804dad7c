-- The refusals of documents 01 and 02 and their numbers, and the outcome of a call.
use Rattle.std.specs.Prelude.{Bool, true, false, List, [], ◌∷◌, ℕ, get_or, map, Result, Ok, Err}
use Rattle.std.specs.List.{join_with_byte}
use Rattle.std.specs.Fmt.{decimal}
use Rattle.outcome.specs.declared.Refusal.{Refusal}
use Rattle.outcome.specs.declared.Refusal.TheVariants.{Cut, Overlong, BadEdition, ManySteps, BadKind, OutOfRange, BadNameByte, ManyEdges, BadEnd, Spare, Loop, ManyPoints, ShortBuffer, NoStep, BadFirmness, LargeChart, BadRow, ManyTries}

-- All that a refusal tells: the number that document 01, or 02 from 15 on, gives the reason, and for a loop the step too.
abbrev pub numbers_of : Refusal → List ℕ
numbers_of Cut = 1 ∷ []
numbers_of Overlong = 2 ∷ []
numbers_of BadEdition = 3 ∷ []
numbers_of ManySteps = 4 ∷ []
numbers_of BadKind = 5 ∷ []
numbers_of OutOfRange = 6 ∷ []
numbers_of BadNameByte = 7 ∷ []
numbers_of ManyEdges = 8 ∷ []
numbers_of BadEnd = 9 ∷ []
numbers_of Spare = 10 ∷ []
numbers_of (Loop s) = 11 ∷ s ∷ []
numbers_of ManyPoints = 12 ∷ []
numbers_of ShortBuffer = 13 ∷ []
numbers_of NoStep = 14 ∷ []
numbers_of BadFirmness = 15 ∷ []
numbers_of LargeChart = 16 ∷ []
numbers_of BadRow = 17 ∷ []
numbers_of ManyTries = 18 ∷ []

abbrev pub number_of : Refusal → ℕ
number_of r = get_or (numbers_of r) 0 0

-- the step that comes with a loop; 0 with any other refusal
abbrev pub step_of : Refusal → ℕ
step_of r = get_or (numbers_of r) 1 0

-- what is printed of a refusal: its numbers in decimal, with a blank between two
abbrev pub shown : Refusal → List ℕ
shown r = join_with_byte 0x20 (map decimal (numbers_of r))

-- what a call makes of its input: an answer or a refusal
pub data Outcome (A : Type 0) : Type 0 where
  done : A → Outcome A
  refused : Refusal → Outcome A

-- what comes next, unless refused already
abbrev pub then_do : {A B : Type 0} → Outcome A → (A → Outcome B) → Outcome B
then_do (done a) f = f a
then_do (refused r) f = refused r

-- All that a call tells of its outcome in numbers: 0 and the values that come with it, or the refusal's number and what comes with that.
abbrev pub told : {A : Type 0} → (A → List ℕ) → Outcome A → List ℕ
told values (done a) = 0 ∷ values a
told values (refused r) = numbers_of r

-- what an answer of the code stands for
abbrev pub outcome_of : {A : Type 0} → Result A Refusal → Outcome A
outcome_of (Ok a) = done a
outcome_of (Err r) = refused r

-- all that an answer tells in numbers: 0 and its values, or the refusal's number and what comes with that
abbrev pub answered : {A : Type 0} → (A → List ℕ) → Result A Refusal → List ℕ
answered values (Ok a) = 0 ∷ values a
answered values (Err r) = numbers_of r

-- no values come with it
abbrev pub bare : {A : Type 0} → A → List ℕ
bare a = []

-- 0, or the refusal's number, of the numbers that a call tells
abbrev pub refusal_in : List ℕ → ℕ
refusal_in numbers = get_or numbers 0 0

-- go on where the test holds
abbrev pub demand : {A : Type 0} → Bool → Refusal → Outcome A → Outcome A
demand true r next = next
demand false r next = refused r
