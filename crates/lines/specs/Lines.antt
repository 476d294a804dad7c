-- What a line of a listing is, and the line of a refusal.
use Rattle.std.specs.Prelude.{List, [], ◌∷◌, ◌++◌, map, ℕ, ◌+◌}
use Rattle.outcome.specs.declared.Refusal.{Refusal}
use Rattle.outcome.specs.Refusal.{numbers_of}
use Rattle.labels.specs.Text.{text, newline, decimal, blanked}

-- a line: its first field, the others, and the byte that ends it
abbrev pub line : List ℕ → List (List ℕ) → List ℕ
line first rest = first ++ blanked rest ++ newline ∷ []

-- its number, and for a loop the step
abbrev pub refusal_text : Refusal → List ℕ
refusal_text r = line (text "refused") (map decimal (numbers_of r))

-- bytes in it, at most: the word, and behind a blank each the number and a step of at most two digits; and its end
abbrev pub refusal_bytes : ℕ
refusal_bytes = 7 + (1 + 2) + (1 + 2) + 1
