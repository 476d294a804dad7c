-- What becomes of the best so far when another is held against it.
use Rattle.std.specs.Prelude.{◌≡◌, List, ℕ, ◌≤◌, ◌<◌}

-- A list with its cost against the best so far: where it costs as much or more the best stays, and where it costs less it takes the place
-- of the best.
pub data Keeping {A : Type 0} (order : List A) (cost : ℕ) (saved : List A) (fewest : ℕ) (saved' : List A) (fewest' : ℕ) : Type 0 where
  kept : fewest ≤ cost → fewest' ≡ fewest → saved' ≡ saved → Keeping order cost saved fewest saved' fewest'
  replaced : cost < fewest → fewest' ≡ cost → saved' ≡ order → Keeping order cost saved fewest saved' fewest'
