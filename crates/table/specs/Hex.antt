-- Bytes as they are written on paper: two hexadecimal digits each, with a blank between two.
use Rattle.std.specs.Prelude.{cond, List, ℕ, ◌+◌, ◌-◌, ◌*◌, ltb}
use Prim.Native.Char.{Char, code}
use Prim.Native.String.{String, [], ◌∷◌}

-- 0 to 9 and A to F
abbrev pub hex_digit : Char → ℕ
hex_digit c = cond (ltb (code c) 0x41) (code c - 0x30) (code c - 0x37)

abbrev pub hex : String → List ℕ
hex [] = List.[]
hex (a ∷ []) = List.[]
hex (a ∷ b ∷ []) = List.◌∷◌ (16 * hex_digit a + hex_digit b) List.[]
hex (a ∷ b ∷ c ∷ s) = List.◌∷◌ (16 * hex_digit a + hex_digit b) (hex s)
