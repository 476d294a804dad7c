-- What a loop that stores numbers leaves in a lent slice.
use Rattle.std.specs.Prelude.{◌≡◌, List, [], ◌∷◌, ℕ, suc, ◌+◌, length, set}

-- a word holds the numbers below 2^64
abbrev pub word_limit : ℕ
word_limit = 18446744073709551616

-- a buffer with the numbers of a list stored in it one behind the other, from entry i on
unfoldable pub written : List ℕ → ℕ → List ℕ → List ℕ
written old i [] = old
written old i (v ∷ vs) = written (set old i v) (suc i) vs

-- a list stored from entry i on leaves this buffer and this next entry; no other entry has changed
pub record Stored (old : List ℕ) (i : ℕ) (vs : List ℕ) (buffer : List ℕ) (next : ℕ) : Type 0 where
  pub holds : buffer ≡ written old i vs
  pub counts : next ≡ i + length vs
