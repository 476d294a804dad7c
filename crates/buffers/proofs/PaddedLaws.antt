-- A list in the first entries of an array whose others are blank.
use mathlib.Core.Path.{◌≡◌, ap, ◌∙◌}
use mathlib.Core.List.{List, ◌++◌}
use Prim.Native.Nat.{ℕ, zero, suc, ◌-◌, ◌≤◌}
use native.Mathlib.Numerals.{unary_clauses}
use native.Mathlib.Omega.{arith}
use lib.ListN.{length, take, drop, replicate, length-append, length-replicate, take-append-drop}
use lib.Seq.{take-append_seam, length-take-le}
use Rattle.buffers.specs.Padded.{padded}

module _ {A : Type 0} (k : ℕ) (d : A) where
  pub padded-long : (l : List A) → length l ≤ k → length (padded k d l) ≡ k
  unfolding padded
  padded-long l h = length-append l _ ∙ rw (length-replicate (k - length l) d) (omega arith)

  -- the list is the front of the array
  pub padded-front : (l : List A) → take (length l) (padded k d l) ≡ l
  unfolding padded
  padded-front l = take-append_seam l _

  -- an array that is blank from entry n on has its first n entries in it and nothing else
  pub padded-same : (n : ℕ) (array : List A) → n ≤ length array → drop n array ≡ replicate (k - n) d → padded k d (take n array) ≡ array
  unfolding padded
  padded-same n array h e = rw (length-take-le n array h, ← e) (take-append-drop n array)

-- what is left of an array of zeros
pub drop-zeros : (n k : ℕ) → drop n (replicate {A = ℕ} k 0) ≡ replicate (k - n) 0
drop-zeros zero k = simp unary_clauses
drop-zeros (suc n) zero = let e : 0 ≡ 0 - suc n = omega arith in ap (λ x. replicate {A = ℕ} x 0) e
drop-zeros (suc n) (suc k) = simp unary_clauses (drop-zeros n k)

-- numbers pasted over the front of an array of zeros
pub padded-paste : (k n : ℕ) (l : List ℕ) → n ≤ length l → take n l ++ drop n (replicate k 0) ≡ padded k 0 (take n l)
unfolding padded
padded-paste k n l h = rw (length-take-le n l h, drop-zeros n k)
