-- What the start of the solver gives.
use Rattle.std.specs.Prelude.{◌≡◌, List, [], ℕ, length, drop}
use Rattle.relaxation.specs.Limits.{calm_limit}
use Rattle.relaxation.specs.Low.{RowsLow, Lowered}
use Rattle.relaxation.specs.Relax.{Heights}
use Rattle.transport.specs.Flow.{Flows}

-- rows to start with, and the lowest rows beside them
pub record RowsReady (from to gap flow : List ℕ) (n : ℕ) (old y lowest : List ℕ) : Type 0 where
  pub lowered : Lowered from to gap flow n old y
  pub heights : Heights from to gap [] n lowest
  pub lowest_long : length lowest ≡ n

-- all edges are taken in, at low rows; the lowest ones are kept
pub record Started (from to gap weight : List ℕ) (n : ℕ) (old y flow supply demand lowest : List ℕ) : Type 0 where
  pub flows : Flows from to gap weight n y flow supply demand
  pub low : RowsLow n calm_limit y
  pub long : length y ≡ length old
  pub rest : drop n y ≡ drop n old
  pub heights : Heights from to gap [] n lowest
  pub lowest_long : length lowest ≡ n
