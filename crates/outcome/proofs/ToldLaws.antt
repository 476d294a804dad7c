-- Numbers tell the outcome: no refusal has the number 0, and no two refusals have the same numbers.
use mathlib.Core.Path.{◌≡◌, refl, sym, ap, ◌∙◌}
use mathlib.Core.List.{List, [], ◌∷◌}
use Prim.Native.Nat.{ℕ, ◌≤◌}
use native.Mathlib.Omega.{arith}
use lib.ListN.{get_or}
use Rattle.outcome.specs.declared.Refusal.{Refusal}
use Rattle.outcome.specs.declared.Refusal.TheVariants.{Cut, Overlong, BadEdition, ManySteps, BadKind, OutOfRange, BadNameByte, ManyEdges, BadEnd, Spare, Loop, ManyPoints, ShortBuffer, NoStep, BadFirmness, LargeChart, BadRow, ManyTries}
use Rattle.std.specs.Prelude.{Result, Ok, Err}
use Rattle.outcome.specs.Refusal.{Outcome, done, refused, numbers_of, number_of, step_of, told, outcome_of, answered, refusal_in}

-- ---- refusals

-- the refusals by number, from 0 on; s comes with a loop
abbrev named : ℕ → List Refusal
named s =
    Cut ∷ Cut ∷ Overlong ∷ BadEdition ∷ ManySteps ∷ BadKind ∷ OutOfRange ∷ BadNameByte ∷ ManyEdges ∷ BadEnd ∷ Spare ∷ Loop s ∷ ManyPoints
    ∷ ShortBuffer ∷ NoStep ∷ BadFirmness ∷ LargeChart ∷ BadRow ∷ ManyTries ∷ []

-- the refusal that tells these numbers
abbrev refusal_by : List ℕ → Refusal
refusal_by numbers = get_or (named (get_or numbers 1 0)) (refusal_in numbers) Cut

back : (f : Refusal) → refusal_by (numbers_of f) ≡ f
back Cut = refl
back Overlong = refl
back BadEdition = refl
back ManySteps = refl
back BadKind = refl
back OutOfRange = refl
back BadNameByte = refl
back ManyEdges = refl
back BadEnd = refl
back Spare = refl
back (Loop s) = refl
back ManyPoints = refl
back ShortBuffer = refl
back NoStep = refl
back BadFirmness = refl
back LargeChart = refl
back BadRow = refl
back ManyTries = refl

-- refusals that tell the same numbers are the same
pub numbers-same : (f g : Refusal) → numbers_of f ≡ numbers_of g → f ≡ g
numbers-same f g e = sym (back f) ∙ ap refusal_by e ∙ back g

-- a refusal's number is not 0
pub number-some : (f : Refusal) → 1 ≤ number_of f
number-some Cut = omega arith
number-some Overlong = omega arith
number-some BadEdition = omega arith
number-some ManySteps = omega arith
number-some BadKind = omega arith
number-some OutOfRange = omega arith
number-some BadNameByte = omega arith
number-some ManyEdges = omega arith
number-some BadEnd = omega arith
number-some Spare = omega arith
number-some (Loop s) = omega arith
number-some ManyPoints = omega arith
number-some ShortBuffer = omega arith
number-some NoStep = omega arith
number-some BadFirmness = omega arith
number-some LargeChart = omega arith
number-some BadRow = omega arith
number-some ManyTries = omega arith

-- no refusal has a number above 18
pub number-low : (f : Refusal) → number_of f ≤ 18
number-low Cut = omega arith
number-low Overlong = omega arith
number-low BadEdition = omega arith
number-low ManySteps = omega arith
number-low BadKind = omega arith
number-low OutOfRange = omega arith
number-low BadNameByte = omega arith
number-low ManyEdges = omega arith
number-low BadEnd = omega arith
number-low Spare = omega arith
number-low (Loop s) = omega arith
number-low ManyPoints = omega arith
number-low ShortBuffer = omega arith
number-low NoStep = omega arith
number-low BadFirmness = omega arith
number-low LargeChart = omega arith
number-low BadRow = omega arith
number-low ManyTries = omega arith

-- a loop alone tells a second number
pub alone : (f : Refusal) → (number_of f ≡ 11 → ⊥) → step_of f ≡ 0
alone Cut h = refl
alone Overlong h = refl
alone BadEdition h = refl
alone ManySteps h = refl
alone BadKind h = refl
alone OutOfRange h = refl
alone BadNameByte h = refl
alone ManyEdges h = refl
alone BadEnd h = refl
alone Spare h = refl
alone (Loop s) h = absurd (h refl)
alone ManyPoints h = refl
alone ShortBuffer h = refl
alone NoStep h = refl
alone BadFirmness h = refl
alone LargeChart h = refl
alone BadRow h = refl
alone ManyTries h = refl

-- ---- outcomes

-- the numbers of a refusal are told of that refusal only
pub told-refused : {A : Type 0} (values : A → List ℕ) (o : Outcome A) {f : Refusal} → numbers_of f ≡ told values o → o ≡ refused f
told-refused values (done a) {f} e = absurd (omega (arith, number-some f, ap refusal_in e))
told-refused values (refused r) {f} e = ap refused (numbers-same r f (sym e))

-- 0 and values are told of an outcome that has these values
pub record Values {A : Type 0} (values : A → List ℕ) (o : Outcome A) (vs : List ℕ) : Type 0 where
  pub value : A
  pub outcome : o ≡ done value
  pub says : vs ≡ values value

pub told-done : {A : Type 0} (values : A → List ℕ) (o : Outcome A) {vs : List ℕ} → 0 ∷ vs ≡ told values o → Values values o vs
told-done values (done a) e = record { value = a; outcome = refl; says = cc }
told-done values (refused r) e = absurd (omega (arith, number-some r, ap refusal_in e))

-- ---- answers of the code

-- the numbers of an answer are those of the outcome that it stands for
pub answered-told : {A : Type 0} (values : A → List ℕ) (r : Result A Refusal) → answered values r ≡ told values (outcome_of r)
answered-told values (Ok a) = refl
answered-told values (Err f) = refl

-- 0 is told of an answer with values
pub record Gives {A : Type 0} (r : Result A Refusal) : Type 0 where
  pub value : A
  pub is : r ≡ Ok value

pub answered-accepted : {A : Type 0} (values : A → List ℕ) (r : Result A Refusal) → refusal_in (answered values r) ≡ 0 → Gives r
answered-accepted values (Ok a) e = record { value = a; is = refl }
answered-accepted values (Err f) e = absurd (omega (arith, number-some f))

pub answered-refused : {A : Type 0} (values : A → List ℕ) (r : Result A Refusal) {f : Refusal} → answered values r ≡ numbers_of f → r ≡ Err f
answered-refused values (Ok a) {f} e = absurd (omega (arith, number-some f, ap refusal_in e))
answered-refused values (Err g) {f} e = ap Err (numbers-same g f e)

-- ---- from an answer that tells an outcome to that outcome

module _ {A B : Type 0} (shown : A → List ℕ) (values : B → List ℕ) (o : Outcome B) where
  pub answer-refused : {f : Refusal} → answered shown (Err f) ≡ told values o → o ≡ refused f
  answer-refused e = told-refused values o e

  pub answer-done : {a : A} → answered shown (Ok a) ≡ told values o → Values values o (shown a)
  answer-done e = told-done values o e
