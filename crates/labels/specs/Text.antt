-- Words as bytes, and numbers in decimal digits.
use Rattle.std.specs.Prelude.{cond, List, ◌++◌, ℕ, zero, suc, ◌+◌, ◌/◌, ◌%◌, ltb}
use Prim.Native.Char.{code}
use Prim.Native.String.{String, [], ◌∷◌}

-- the bytes of a text in ASCII
abbrev pub text : String → List ℕ
text [] = List.[]
text (c ∷ s) = List.◌∷◌ (code c) (text s)

abbrev pub blank : ℕ
blank = 0x20

abbrev pub newline : ℕ
newline = 0x0A

-- the byte of a digit
abbrev pub digit : ℕ → ℕ
digit d = 0x30 + d

-- A number in decimal, with no zero in front: the digits of its tens, and behind them its ones. A number has fewer digits than it
-- counts, or one, so that it can bound their number itself.
unfoldable pub digits : ℕ → ℕ → List ℕ
digits zero n = List.◌∷◌ (digit n) List.[]
digits (suc k) n =
    let more = digits k (n / 10) ++ List.◌∷◌ (digit (n % 10)) List.[] in
    cond (ltb n 10) (List.◌∷◌ (digit n) List.[]) more

abbrev pub decimal : ℕ → List ℕ
decimal n = digits n n

-- each field behind a blank
unfoldable pub blanked : List (List ℕ) → List ℕ
blanked List.[] = List.[]
blanked (List.◌∷◌ f fields) = List.◌∷◌ blank (f ++ blanked fields)
