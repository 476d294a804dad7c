-- The calls: what each answers.
use Rattle.std.specs.Prelude.{◌≡◌, List, [], ◌∷◌, ℕ, ◌+◌, ltb, length, get_or, take, drop, Result}
use Rattle.std.specs.Borrow.{Bor}
use Rattle.table.specs.declared.types.Step.{Step}
use Rattle.queries.specs.declared.types.Counts.{Counts}
use Rattle.queries.specs.declared.types.Name.{Name}
use Rattle.outcome.specs.declared.Refusal.{Refusal}
use Rattle.outcome.specs.declared.Refusal.TheVariants.{NoStep}
use Rattle.outcome.specs.Refusal.{Outcome, done, refused, then_do, demand, told, answered}
use Rattle.table.specs.Table.{Contents, read}
use Rattle.table.specs.Calls.{no_step}

-- ---- counts

-- how many steps and edges a table has
abbrev pub counts_of : Contents → List ℕ
counts_of t = length t.steps ∷ length t.edges ∷ []

-- 0 and the two counts, or the refusal's number
unfoldable pub counts_call : List ℕ → List ℕ
counts_call bytes = told counts_of (read bytes)

-- what the code answers, in numbers
abbrev pub counts_numbers : Result Counts Refusal → List ℕ
counts_numbers r = answered (λ (c : Counts). c.steps ∷ c.edges ∷ []) r

-- ---- the name of a step

-- a stretch of the table
pub record Stretch : Type 0 where
  pub start : ℕ
  pub len : ℕ

abbrev pub name_of : Step → Stretch
name_of s = record { start = s.start; len = s.len }

-- where the name of step i stands: refused as the table is, and then where it has no such step
unfoldable pub name_found : List ℕ → ℕ → Outcome Stretch
name_found bytes i =
    then_do (read bytes) λ t. demand (ltb i (length t.steps)) NoStep (done (name_of (get_or t.steps i no_step)))

abbrev pub stretch_numbers : Stretch → List ℕ
stretch_numbers s = s.start ∷ s.len ∷ []

-- 0 with the start and the length, or the refusal's number
unfoldable pub name_call : List ℕ → ℕ → List ℕ
name_call bytes i = told stretch_numbers (name_found bytes i)

-- what the code answers, in numbers
abbrev pub name_numbers : Result Name Refusal → List ℕ
name_numbers r = answered (λ (n : Name). n.start ∷ n.len ∷ []) r

-- to a caller in the language a refusal is the empty stretch at the table's start: no name is empty
abbrev pub stretch_of : Outcome Stretch → Stretch
stretch_of (done s) = s
stretch_of (refused r) = record { start = 0; len = 0 }

-- the slice is that stretch of the other one: it lies in the same block of memory, so many bytes on, and has its bytes
pub record PartOf (whole : Bor (List ℕ)) (s : Stretch) (part : Bor (List ℕ)) : Type 0 where
  pub block : part.ref_ptr.0 ≡ whole.ref_ptr.0
  pub place : part.ref_ptr.1 ≡ whole.ref_ptr.1 + s.start
  pub bytes : part.now ≡ take s.len (drop s.start whole.now)
