-- Arrays of which only the first entries are in use.
use Rattle.std.specs.Prelude.{List, ◌++◌, ℕ, ◌-◌, length, replicate}

-- a list in an array of k entries, of which the others are blank
unfoldable pub padded : {A : Type 0} → ℕ → A → List A → List A
padded k blank l = l ++ replicate (k - length l) blank
