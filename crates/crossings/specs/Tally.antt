-- How many segments end at each position of a row, and how many in each block of positions.
use Rattle.std.specs.Prelude.{◌≡◌, List, [], ◌∷◌, ℕ, zero, suc, ◌+◌, ◌*◌, ◌-◌, ◌≤◌, ◌<◌, length, set}
use Rattle.graph.specs.Rows.{at}

-- n entries from a on, added up
unfoldable pub range : List ℕ → ℕ → ℕ → ℕ
range s a zero = 0
range s a (suc n) = at s a + range s (suc a) n

-- how many end at any position
abbrev pub all_counted : List ℕ → ℕ
all_counted counts = range counts 0 (length counts)

-- how many end right of position l
unfoldable pub right_of : List ℕ → ℕ → ℕ
right_of counts l = range counts (suc l) (length counts - suc l)

-- the same for each of a list of positions, added up
unfoldable pub right_of_all : List ℕ → List ℕ → ℕ
right_of_all counts [] = 0
right_of_all counts (l ∷ ls) = right_of counts l + right_of_all counts ls

-- the counts with one more at each of a list of positions
unfoldable pub raised : List ℕ → List ℕ → List ℕ
raised [] counts = counts
raised (l ∷ ls) counts = raised ls (set counts l (at counts l + 1))

-- Nothing is counted behind position `last`, which is one of the positions, or 0 where there is none.
pub record NoneBehind (counts : List ℕ) (last : ℕ) : Type 0 where
  pub within : last ≤ length counts - 1
  pub none : (i : ℕ) → last < i → at counts i ≡ 0

-- positions in a block
abbrev pub block_size : ℕ
block_size = 32

-- The count of a block is that of its positions, added up. The last block may reach past the positions, where nothing is counted.
pub record Blocked (counts blocks : List ℕ) : Type 0 where
  pub long : length counts ≤ block_size * length blocks
  pub each : (b : ℕ) → b < length blocks → at blocks b ≡ range counts (block_size * b) block_size
