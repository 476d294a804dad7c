-- A word that is there, as its eight bytes say.
use mathlib.Core.Path.{◌≡◌, refl, ap, ◌∙◌}
use mathlib.Core.List.{List}
use Prim.Native.Nat.{ℕ, zero, suc, ◌+◌, ◌*◌, ◌/◌, ◌≤◌, ◌<◌}
use native.Mathlib.Nat.{not-suc-le-zero, le_of_suc-le-suc}
use native.Mathlib.Omega.{arith}
use borrow.Author.Tests.{le-leb, lt-leb}
use lib.ListN.{length, get_or, take, drop}
use lib.Seq.{get_or-take, get_or-drop, drop-drop}
use Rattle.std.specs.Int.{w64, from_le_bytes}
use Rattle.std.specs.Simd.{first_chunks}
use Rattle.records.specs.Input.{half_at, word_at}

-- words one behind the other
word-is : (k i : ℕ) (s none : List ℕ) → i < k → get_or (first_chunks 8 k s) i none ≡ take 8 (drop (i * 8) s)
word-is zero i s none h = absurd (not-suc-le-zero h)
word-is (suc k) zero s none h = refl
word-is (suc k) (suc i) s none h =
    let place : 8 + i * 8 ≡ suc i * 8 = omega arith in
    word-is k i (drop 8 s) none (le_of_suc-le-suc h) ∙ ap (take 8) (drop-drop (i * 8) 8 s ∙ ap (λ d. drop d s) place)

module _ (s w : List ℕ) (at : ℕ) (is : w ≡ take 8 (drop at s)) where
  byte : (j t : ℕ) → j < 8 → at + j ≡ t → get_or w j 0 ≡ get_or s t 0
  byte j t h e = ap (λ l. get_or l j 0) is ∙ get_or-take 8 (drop at s) j 0 h ∙ get_or-drop at s j 0 ∙ ap (λ i. get_or s i 0) e

  word-value : from_le_bytes w64 w ≡ half_at s at + half_at s (at + 4) * 4294967296
  unfolding half_at
  word-value =
      omega (
        arith,
        byte 0 at (omega arith) (omega arith),
        byte 1 (at + 1) (omega arith) (omega arith),
        byte 2 (at + 2) (omega arith) (omega arith),
        byte 3 (at + 3) (omega arith) (omega arith),
        byte 4 (at + 4) (omega arith) (omega arith),
        byte 5 (at + 4 + 1) (omega arith) (omega arith),
        byte 6 (at + 4 + 2) (omega arith) (omega arith),
        byte 7 (at + 4 + 3) (omega arith) (omega arith),
      )

module _ (s : List ℕ) (i : ℕ) (chunks : List (List ℕ)) (are : chunks ≡ first_chunks 8 (length s / 8) s) (count : length chunks ≡ length s / 8) where
  pub word_some : (w : List ℕ) → i < length chunks → w ≡ get_or chunks i w → from_le_bytes w64 w ≡ word_at s i
  unfolding word_at
  word_some w h e =
      rw (lt-leb (length s / 8) i (omega (arith, count)))
      (word-value s w (i * 8) (e ∙ ap (λ l. get_or l i w) are ∙ word-is (length s / 8) i s w (omega (arith, count))))

  pub word_none : length chunks ≤ i → 0 ≡ word_at s i
  unfolding word_at
  word_none h = rw (le-leb (length s / 8) i (omega (arith, count)))
