-- Flat lists, one list a field.
use Rattle.std.specs.Prelude.{◌≡◌, List, ℕ, length}

-- flat lists of one length
pub record Even (from to gap weight : List ℕ) : Type 0 where
  pub to_long : length to ≡ length from
  pub gap_long : length gap ≡ length from
  pub weight_long : length weight ≡ length from
