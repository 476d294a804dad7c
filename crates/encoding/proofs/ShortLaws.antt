-- A number of a table in its fewest bytes: what they are, and how many.
use mathlib.Core.Path.{◌≡◌, ap}
use mathlib.Core.Bool.{Bool, true, false, cond}
use mathlib.Core.List.{[], ◌∷◌}
use Prim.Native.Nat.{ℕ, ◌+◌, ◌/◌, ◌%◌, ◌≤◌, ◌<◌}
use native.Mathlib.Decide.{dec_lt}
use native.Mathlib.Omega.{arith}
use borrow.Author.Tests.{lt-ltb, le-ltb}
use lib.ListN.{length}
use Rattle.table.specs.Limits.{softness}
use Rattle.encoding.specs.Limits.{number_limit}
use Rattle.encoding.specs.Shortest.{groups, short_number}

pub short_one : (v : ℕ) → v < 0x80 → short_number v ≡ v ∷ []
unfolding short_number groups
short_one v h = simp (lt-ltb v 0x80 h)

pub short_two : (v : ℕ) → 0x80 ≤ v → v < number_limit → short_number v ≡ (v % 0x80 + 0x80) ∷ v / 0x80 ∷ []
unfolding short_number groups
short_two v h k = simp (le-ltb v 0x80 h, lt-ltb (v / 0x80) 0x80 (omega arith))

pub bytes_one : (v : ℕ) → v < 0x80 → length (short_number v) ≡ 1
bytes_one v h = ap length (short_one v h)

pub bytes-two : (v : ℕ) → v < number_limit → length (short_number v) ≤ 2
bytes-two v h = go (dec_lt v 0x80)
  where
    go : Dec (v < 0x80) → length (short_number v) ≤ 2
    go (yes l) = omega (arith, bytes_one v l)
    go (no l) = omega (arith, ap length (short_two v (omega arith) h))

-- the number of a firmness has one byte
pub soft-byte : (soft : Bool) → length (short_number (cond soft softness 0)) ≡ 1
soft-byte true = bytes_one 1 (omega arith)
soft-byte false = bytes_one 0 (omega arith)
