-- The input: words of 8 bytes, low byte first. The step count, how many entries of a buffer to lend, then four words a record.
use Rattle.std.specs.Prelude.{cond, List, [], ◌∷◌, ◌++◌, ℕ, zero, suc, ◌+◌, ◌-◌, ◌*◌, ◌/◌, min, leb, length, get_or}
use Rattle.graph.specs.declared.Edge.{Edge}
use Rattle.table.specs.Limits.{max_edges}

-- more than the row finder takes, so that it is seen to refuse a list that is too long
abbrev pub max_lent : ℕ
max_lent = max_edges + 8

-- four bytes
unfoldable pub half_at : List ℕ → ℕ → ℕ
half_at s at = get_or s at 0 + get_or s (at + 1) 0 * 256 + (get_or s (at + 2) 0 + get_or s (at + 3) 0 * 256) * 65536

-- the word with the number i; 0 where it is not there whole
unfoldable pub word_at : List ℕ → ℕ → ℕ
word_at s i = cond (leb (length s / 8) i) 0 (half_at s (i * 8) + half_at s (i * 8 + 4) * 4294967296)

unfoldable pub lent_at : List ℕ → ℕ → Edge
lent_at s i = record {
  from = word_at s (2 + i * 4);
  to = word_at s (2 + i * 4 + 1);
  gap = word_at s (2 + i * 4 + 2);
  weight = word_at s (2 + i * 4 + 3);
}

-- the first edges
unfoldable pub first_edges : List ℕ → ℕ → List Edge
first_edges s zero = []
first_edges s (suc m) = first_edges s m ++ (lent_at s m ∷ [])

-- whole records only, and no more than are lent
abbrev pub count_of : ℕ → ℕ
count_of bytes = min ((bytes / 8 - 2) / 4) max_lent

-- the step count, and the edges that are lent
abbrev pub steps_in : List ℕ → ℕ
steps_in s = word_at s 0

abbrev pub edges_in : List ℕ → List Edge
edges_in s = first_edges s (count_of (length s))
