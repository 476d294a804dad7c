-- How high a row can be.
use Rattle.std.specs.Prelude.{List, ℕ, ◌*◌, ◌-◌, ◌≤◌}
use Rattle.graph.specs.Rows.{at}
use Rattle.table.specs.Limits.{max_steps, old_size, max_gap}

-- no row of an answer is higher, at the limits of steps and gaps
abbrev pub top_row : ℕ
top_row = (max_steps - 1) * max_gap

-- the same at the limit of steps that there was before tables grew, when each row fitted a byte
abbrev pub old_top_row : ℕ
old_top_row = (old_size.steps - 1) * max_gap

-- rows of which none is above the bound
pub record RowsLow (rows : List ℕ) : Type 0 where
  pub each : (v : ℕ) → at rows v ≤ top_row
