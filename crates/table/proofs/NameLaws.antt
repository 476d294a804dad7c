-- The bytes of a name: what `name_byte_at` is in each of its cases.
use mathlib.Core.Path.{◌≡◌}
use mathlib.Core.List.{List}
use Prim.Native.Nat.{ℕ, ◌+◌, ◌≤◌, ◌<◌}
use borrow.Author.Tests.{le-ltb, lt-ltb, le-leb, lt-leb}
use lib.ListN.{length, get_or}
use Rattle.outcome.specs.declared.Refusal.TheVariants.{Cut, BadNameByte}
use Rattle.table.specs.Limits.{min_name_byte, max_name_byte}
use Rattle.table.specs.Number.{got, fault, byte_at}
use Rattle.table.specs.Table.{name_byte_at}

module _ (s : List ℕ) (at : ℕ) where
  pub byte-none : length s ≤ at → name_byte_at s at ≡ fault Cut
  unfolding name_byte_at byte_at
  byte-none h = simp (le-ltb at (length s) h)

  module _ (h : at < length s) where
    pub byte_low : get_or s at 0 < min_name_byte → name_byte_at s at ≡ fault BadNameByte
    unfolding name_byte_at byte_at
    byte_low l = simp (lt-ltb at (length s) h, lt-leb min_name_byte (get_or s at 0) l)

    module _ (l : min_name_byte ≤ get_or s at 0) where
      pub byte_high : max_name_byte < get_or s at 0 → name_byte_at s at ≡ fault BadNameByte
      unfolding name_byte_at byte_at
      byte_high k = simp (lt-ltb at (length s) h, le-leb min_name_byte (get_or s at 0) l, lt-leb (get_or s at 0) max_name_byte k)

      pub byte-good : get_or s at 0 ≤ max_name_byte → name_byte_at s at ≡ got (get_or s at 0) (at + 1)
      unfolding name_byte_at byte_at
      byte-good k = simp (lt-ltb at (length s) h, le-leb min_name_byte (get_or s at 0) l, le-leb (get_or s at 0) max_name_byte k)
