-- Edges as flat slices, one slice a field: what the ends and the gaps must be.
use Rattle.std.specs.Prelude.{◌≡◌, List, ℕ, ◌<◌, length}
use Rattle.graph.specs.Rows.{at}

-- two slices of one length, whose entries are nodes, of which there are n
pub record NodeEnds (n : ℕ) (from to : List ℕ) : Type 0 where
  pub to_long : length to ≡ length from
  pub from_in : (i : ℕ) → i < length from → at from i < n
  pub to_in : (i : ℕ) → i < length from → at to i < n

-- a gap for each of m edges, none of them 0
pub record Gaps (m : ℕ) (gap : List ℕ) : Type 0 where
  pub long : length gap ≡ m
  pub positive : (i : ℕ) → i < m → 0 < at gap i
