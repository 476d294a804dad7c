-- Corners in millimetres (document 02, request 8), as numbers and as floats of 32 bits. A float `fin s m e` is the number m * 2 ^ e, below
-- zero where s is true; 2 ^ e is the fraction up e / down e.
use Rattle.std.specs.Prelude.{◌≡◌, false, ℕ, ◌*◌, Float}
use Rattle.std.specs.Float.{nan, inf, fin, binary32}
use Rattle.std.specs.Float.Ieee.{up, down, round}
use Rattle.corners.specs.declared.Corner.{Corner}

-- A float is exactly the fraction num / den: a number, not below zero, and den times it is num.
abbrev pub Exactly : Float → ℕ → ℕ → Type 0
Exactly nan num den = ⊥
Exactly (inf s) num den = ⊥
Exactly (fin s m e) num den = (s ≡ false) × (m * up e * den ≡ num * down e)

-- 12.5 mm for each x are 25 halves, and 7.25 mm for each row are 29 quarters
abbrev pub x_halves : ℕ
x_halves = 25

abbrev pub row_quarters : ℕ
row_quarters = 29

-- A corner stands where the point of an x and a row belongs.
pub record Stands (c : Corner) (x row : ℕ) : Type 0 where
  pub across : Exactly c.x (x_halves * x) 2
  pub down_page : Exactly c.y (row_quarters * row) 4

-- what an x and a row stay below: numbers of 16 bits
abbrev pub max_place : ℕ
max_place = 65536

-- the float of 32 bits that is nearest to num / den
abbrev pub nearest32 : ℕ → ℕ → Float
nearest32 num den = round binary32 false num den

-- The corner of a point. That no float is merely near is `corner-stands` of proofs/CornerLaws.antt.
unfoldable pub corner_of : ℕ → ℕ → Corner
corner_of x row = record { x = nearest32 (x_halves * x) 2; y = nearest32 (row_quarters * row) 4 }
