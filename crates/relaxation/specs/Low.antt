-- Rows that stand low, and rows brought low again.
use Rattle.std.specs.Prelude.{◌≡◌, List, ℕ, ◌≤◌, ◌<◌, length, drop}
use Rattle.graph.specs.Rows.{at}
use Rattle.relaxation.specs.Limits.{calm_limit}
use Rattle.relaxation.specs.Certificate.{Held}

-- no row is above b
pub record RowsLow (n b : ℕ) (y : List ℕ) : Type 0 where
  pub low : (v : ℕ) → v < n → at y v ≤ b

-- y after it was lowered where it had come to stand high
pub record Lowered (from to gap flow : List ℕ) (n : ℕ) (old y : List ℕ) : Type 0 where
  pub held : Held from to gap flow (at y)
  pub low : RowsLow n calm_limit y
  pub long : length y ≡ length old
  pub rest : drop n y ≡ drop n old
