-- The call of the writer: what it answers, and what the lent buffer holds at its end.
use Rattle.std.specs.Prelude.{List, [], ◌∷◌, ◌++◌, ℕ, leb, length, drop, Result}
use Rattle.outcome.specs.declared.Refusal.{Refusal}
use Rattle.outcome.specs.declared.Refusal.TheVariants.{ShortBuffer}
use Rattle.outcome.specs.Refusal.{Outcome, done, refused, then_do, demand, told, answered}
use Rattle.table.specs.declared.rule.Rule.{Rule}
use Rattle.table.specs.declared.rule.Rule.TheVariants.{Shortest}
use Rattle.table.specs.Table.{read_by}
use Rattle.encoding.specs.Said.{said}
use Rattle.encoding.specs.Shortest.{shortest}

-- the shortest table that says what the bytes say by a rule, or the reader's refusal; loops are not looked for
unfoldable pub shortened_by : Rule → List ℕ → Outcome (List ℕ)
shortened_by rule bytes = then_do (read_by rule bytes) λ c. done (shortest (said bytes c))

abbrev pub shortened : List ℕ → Outcome (List ℕ)
shortened bytes = shortened_by Shortest bytes

-- the bytes of an outcome, of which a refusal has none
abbrev pub text_of : Outcome (List ℕ) → List ℕ
text_of (done text) = text
text_of (refused r) = []

-- what is written, to a buffer that is lent: one with fewer bytes is refused (13), after every other fault
unfoldable pub fitted : Outcome (List ℕ) → List ℕ → Outcome (List ℕ)
fitted what old = then_do what λ text. demand (leb (length text) (length old)) ShortBuffer (done text)

-- it is the first bytes of the buffer, and the others stay; a refusal leaves all as it was
abbrev pub put_out : Outcome (List ℕ) → List ℕ → List ℕ
put_out (done text) old = text ++ drop (length text) old
put_out (refused r) old = old

-- how many bytes were written
abbrev pub count_of : List ℕ → List ℕ
count_of text = length text ∷ []

-- the call's answer in numbers, 0 and the count or the refusal's number, and the buffer at its end
pub record WriteEnd : Type 0 where
  pub numbers : List ℕ
  pub out : List ℕ

abbrev pub write_end : Outcome (List ℕ) → List ℕ → WriteEnd
write_end what old = record { numbers = told count_of (fitted what old); out = put_out (fitted what old) old }

unfoldable pub write_call_by : Rule → List ℕ → List ℕ → WriteEnd
write_call_by rule bytes old = write_end (shortened_by rule bytes) old

abbrev pub write_call : List ℕ → List ℕ → WriteEnd
write_call bytes old = write_call_by Shortest bytes old

-- what the code answers, in numbers
abbrev pub write_numbers : Result ℕ Refusal → List ℕ
write_numbers r = answered (λ len. len ∷ []) r
