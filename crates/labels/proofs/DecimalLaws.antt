-- Numbers in decimal: the text that std has of one, and how many digits there are.
use mathlib.Core.Path.{◌≡◌, refl, sym, ◌∙◌}
use mathlib.Core.List.{[], ◌∷◌}
use Prim.Native.Nat.{ℕ, zero, suc, ◌*◌, ◌/◌, ◌%◌, ◌^◌, ◌≤◌, ◌<◌}
use native.Mathlib.Decide.{dec_lt}
use native.Mathlib.Omega.{arith}
use borrow.Author.Tests.{lt-ltb, le-ltb}
use lib.ListN.{length, length-append}
use Rattle.std.specs.Fmt.{decimal as text_of}
use Rattle.std.proofs.lemmas.Fmt.{AppendsLastDigit, decimal_from_appends, length-decimal-le_succ}
use Rattle.labels.specs.Text.{digit, digits, decimal}

-- ---- which digits

-- a number's digits are the same for any bound that it does not exceed
digits_same : (a b n : ℕ) → n ≤ a → n ≤ b → digits a n ≡ digits b n
unfolding digits
digits_same zero zero n h g = refl
digits_same zero (suc b) n h g = simp (lt-ltb n 10 (omega arith))
digits_same (suc a) zero n h g = simp (lt-ltb n 10 (omega arith))
digits_same (suc a) (suc b) n h g = rw (digits_same a b (n / 10) (omega arith) (omega arith))

-- std's text of a number is the same
digits-append : AppendsLastDigit digits
unfolding digits
digits-append = record { one = λ k n l. rw (lt-ltb n 10 l); more = λ k n l. rw (le-ltb n 10 l) }

pub decimal-text : (x : ℕ) → x < 2 ^ 64 → text_of x ≡ decimal x
decimal-text x h =
    sym (decimal_from_appends digits digits-append (suc x) x h (omega (arith, length-decimal-le_succ x h)))
    ∙ digits_same (suc x) x x (omega arith) (omega arith)

-- ---- how many

-- the powers of ten
abbrev pub tens : ℕ → ℕ
tens zero = 1
tens (suc k) = 10 * tens k

digits-short : (fuel k n : ℕ) → n < tens (suc k) → length (digits fuel n) ≤ suc k
unfolding digits
digits-short zero k n h = omega arith
digits-short (suc fuel) k n h = go k h (dec_lt n 10) (digits-short fuel)
  where
    go : (k : ℕ) → n < tens (suc k) → Dec (n < 10) → ((k n : ℕ) → n < tens (suc k) → length (digits fuel n) ≤ suc k)
        → length (digits (suc fuel) n) ≤ suc k
    go k h (yes l) ih = rw (lt-ltb n 10 l) (omega arith)
    go zero h (no l) ih = absurd (omega arith)
    go (suc k) h (no l) ih =
        rw (le-ltb n 10 (omega arith), length-append (digits fuel (n / 10)) (digit (n % 10) ∷ []))
        (omega (arith, ih k (n / 10) (omega arith)))

-- below the power k + 1 of ten there are at most k + 1 digits
pub decimal-short : (k n : ℕ) → n < tens (suc k) → length (decimal n) ≤ suc k
decimal-short k n h = digits-short n k n h
