-- Products of a whole number and a fraction of few binary digits are exact.
use mathlib.Core.Path.{◌≡◌, refl, sym, ap, ◌∙◌}
use mathlib.Core.Bool.{Bool, true, false, cond, true≢false}
use Prim.Native.Nat.{ℕ, ◌+◌, ◌-◌, ◌*◌, ◌/◌, ◌^◌, ◌≤◌, ◌<◌}
use native.Mathlib.Nat.{mul-pos, mul-mul-mul_comm, mul_comm, one-mul, mul_assoc, mul_right_comm, eq_of_mul-eq-mul_right, lt_of_lt_of_le, zero-lt-suc}
use native.Mathlib.Omega.{arith}
use lib.Pow.{pow_pos, pow-add, pow_mono, shl_lt}
use lib.Ieee.{Float, nan, inf, fin, binary32, up, down, prec, hid, top, size, mul, round, of_int, in_float, fits, to_bits, of_bits}
use lib.Dec.{T, le→leb}
use lib.IntN.{ℤ, pos}
use lib.Ieee.Exact.{HasValue, round_exact}
use lib.Ieee.Back.{round_whole}
use lib.Ieee.Scale.{round_same}
use lib.Ieee.Fits.{down_pos}
use lib.Ieee.Digits.{back}
use lib.Ieee.Bits.{of_bits-to_bits}
use lib.Ieee.Nearest.{div_same}
use Rattle.corners.specs.declared.Corner.{Corner}
use Rattle.corners.specs.Corners.{Exactly, x_halves, row_quarters, Stands, max_place, nearest32, corner_of}

-- The library's word for an exact value is the same statement.
exact-of : (x : Float) (num den : ℕ) → HasValue x false num den → Exactly x num den
exact-of nan num den h = h
exact-of (inf s) num den h = h
exact-of (fin s m e) num den h = h

value_of : (x : Float) (num den : ℕ) → Exactly x num den → HasValue x false num den
value_of nan num den h = h
value_of (inf s) num den h = h
value_of (fin s m e) num den h = h

-- A product is the exact product of the two numbers, rounded once. Zero is among them.
pub mul-value : (x y : Float) (a c b d : ℕ) → 0 < c → 0 < d → HasValue x false a c → HasValue y false b d → mul binary32 x y ≡ round binary32 false (a * b) (c * d)
unfolding mul
mul-value nan y a c b d C D h k = absurd h
mul-value (inf s) y a c b d C D h k = absurd h
mul-value (fin true m e) y a c b d C D h k = absurd (true≢false h.0)
mul-value (fin false m e) nan a c b d C D h k = absurd k
mul-value (fin false m e) (inf t) a c b d C D h k = absurd k
mul-value (fin false m e) (fin true n g) a c b d C D h k = absurd (true≢false k.0)
mul-value (fin false m e) (fin false n g) a c b d C D h k =
    round_same binary32 false (m * up e * (n * up g)) (down e * down g) (a * b) (c * d) (mul-pos (down_pos e) (down_pos g)) (mul-pos C D)
    (mul-mul-mul_comm (m * up e) (n * up g) c d ∙ ap (λ (z : ℕ). z * (n * up g * d)) h.1 ∙ ap (λ (z : ℕ). a * down e * z) k.1 ∙ mul-mul-mul_comm a (down e) b (down g))

-- A fraction num / 2 ^ k is a float of 32 bits, and rounding leaves it, where num has at most 24 binary digits and k is at most 149:
-- in units of the smallest float, 2 ^ -149, it is num * 2 ^ (149 - k), a whole number of 24 digits with zeros behind.
pub few-digits : (num k : ℕ) → k ≤ 149 → num < 2 ^ 24 → Exactly (nearest32 num (2 ^ k)) num (2 ^ k)
few-digits num k h n =
    exact-of (nearest32 num (2 ^ k)) num (2 ^ k)
    (round_exact binary32 false num (2 ^ k) num (149 - k) (pow_pos k) n
    (lt_of_lt_of_le (shl_lt 24 (149 - k) n) (pow_mono (room k)))
    (sym (mul_assoc num (2 ^ (149 - k)) (2 ^ k) ∙ ap (λ (z : ℕ). num * z) (sym (pow-add 2 (149 - k) k) ∙ ap (λ (z : ℕ). 2 ^ z) (back 149 k h)))))
  where
    room : (k : ℕ) → 24 + (149 - k) ≤ 149 + 128
    room k = omega arith

-- A whole number n times a float that is a / 2 ^ k is the float nearest to a * n / 2 ^ k, which few-digits says is that fraction.
pub product : (n a k : ℕ) (y : Float) → n ≤ 2 ^ 24 → Exactly y a (2 ^ k) → mul binary32 (of_int binary32 (pos n)) y ≡ nearest32 (a * n) (2 ^ k)
unfolding of_int
product n a k y h v =
    mul-value (round binary32 false n 1) y n 1 a (2 ^ k) (zero-lt-suc 0) (pow_pos k) (round_whole binary32 false n h) (value_of y a (2 ^ k) v)
    ∙ ap (λ (z : ℕ). round binary32 false z (1 * 2 ^ k)) (mul_comm n a) ∙ ap (λ (z : ℕ). round binary32 false (a * n) z) (one-mul (2 ^ k))

-- floats of one sign and one size have the same bits
same-fields : (s t : Bool) (m n : ℕ) (e d : ℤ) → s ≡ t → m * up e * down d ≡ n * up d * down e → to_bits binary32 (fin s m e) ≡ to_bits binary32 (fin t n d)
unfolding to_bits
same-fields s t m n e d p q =
    ap (λ (b : Bool). written b (m * up e * 2 ^ 149 / down e)) p
    ∙ ap (written t) (div_same (m * up e * 2 ^ 149) (down e) (n * up d * 2 ^ 149) (down d) (down_pos e) (down_pos d)
    (mul_right_comm (m * up e) (2 ^ 149) (down d) ∙ ap (λ (z : ℕ). z * 2 ^ 149) q ∙ mul_right_comm (n * up d) (down e) (2 ^ 149)))
  where
    written : Bool → ℕ → ℕ
    written b n = cond b (top binary32) 0 + (size n - prec binary32) * hid binary32 + n / 2 ^ (size n - prec binary32)

-- A fraction is one float of 32 bits at most. The bits of a float come from its size in units of 2 ^ -149 alone, and equal fractions have
-- equal sizes; so the bits of the two are equal, and a float is read back from its bits.
pub exactly-one : (x y : Float) (num den : ℕ) → 0 < den → T (fits binary32 x) → T (fits binary32 y) → Exactly x num den → Exactly y num den → x ≡ y
exactly-one x y num den D f g h k = sym (of_bits-to_bits binary32 x f) ∙ ap (of_bits binary32) (same_bits x y h k) ∙ of_bits-to_bits binary32 y g
  where
    same_bits : (x y : Float) → Exactly x num den → Exactly y num den → to_bits binary32 x ≡ to_bits binary32 y
    same_bits nan y h k = absurd h
    same_bits (inf s) y h k = absurd h
    same_bits (fin s m e) nan h k = absurd k
    same_bits (fin s m e) (inf t) h k = absurd k
    same_bits (fin s m e) (fin t n d) h k = same-fields s t m n e d (h.0 ∙ sym k.0) (eq_of_mul-eq-mul_right den D (m * up e * down d) (n * up d * down e)
        (mul_right_comm (m * up e) (down d) den ∙ ap (λ (z : ℕ). z * down d) h.1 ∙ mul_right_comm num (down e) (down d)
        ∙ ap (λ (z : ℕ). z * down e) (sym k.1) ∙ mul_right_comm (n * up d) den (down e)))

-- such a whole number is cast without loss
pub whole-cast : (n : ℕ) → n ≤ 2 ^ 24 → T (in_float binary32 (pos n))
unfolding in_float
whole-cast n h = le→leb n (2 ^ 24) h

-- ---- corners

-- 12.5 and 7.25, as the code has them
twelve-and-half : Exactly (of_bits binary32 0x4148_0000) 25 2
unfolding of_bits
twelve-and-half = (refl, refl)

seven-and-quarter : Exactly (of_bits binary32 0x40e8_0000) 29 4
unfolding of_bits
seven-and-quarter = (refl, refl)

module _ (x row : ℕ) (h : x < max_place) (k : row < max_place) where
  -- the code's two products make the corner of the definition
  pub corner-made : ◌≡◌ {A = Corner} (record { x = mul binary32 (of_int binary32 (pos x)) (of_bits binary32 0x4148_0000); y = mul binary32 (of_int binary32 (pos row)) (of_bits binary32 0x40e8_0000) }) (corner_of x row)
  unfolding corner_of
  corner-made =
      ap (λ (z : Float). record { x = z; y = mul binary32 (of_int binary32 (pos row)) (of_bits binary32 0x40e8_0000) }) (product x 25 1 (of_bits binary32 0x4148_0000) (omega arith) twelve-and-half)
      ∙ ap (λ (z : Float). record { x = nearest32 (x_halves * x) 2; y = z }) (product row 29 2 (of_bits binary32 0x40e8_0000) (omega arith) seven-and-quarter)

  -- 25 and 29 times a number of 16 bits have fewer than 24 binary digits
  pub corner-stands : Stands (corner_of x row) x row
  unfolding corner_of
  corner-stands = record { across = few-digits (x_halves * x) 1 (omega arith) (omega arith); down_page = few-digits (row_quarters * row) 2 (omega arith) (omega arith) }
