-- Rows one behind the other in one list, with a rest behind them: a row is a part of it, and another row put there moves no start.
use mathlib.Core.Path.{◌≡◌, refl, ap}
use mathlib.Core.List.{List, [], ◌∷◌, ◌++◌, flatten, append_assoc}
use Prim.Native.Nat.{ℕ, zero, suc, ◌+◌, ◌≤◌, ◌<◌}
use native.Mathlib.Nat.{not-suc-le-zero, le_of_suc-le-suc}
use native.Mathlib.Omega.{arith}
use lib.ListN.{length, get_or, take, drop, set, length-append}
use lib.Seq.{take-append-add, drop-append-add, drop-append_seam, take-append_seam}
use Rattle.passes.specs.Starts.{start}

-- the next row starts behind a row
pub start-suc : (o : List (List ℕ)) (r : ℕ) → start o (suc r) ≡ start o r + length (get_or o r [])
unfolding start
start-suc [] r = refl
start-suc (row ∷ []) zero = omega arith
start-suc (row ∷ next ∷ o) zero = omega arith
start-suc (row ∷ o) (suc r) = omega (arith, start-suc o r)

-- the last row ends where all end
pub start-end : (o : List (List ℕ)) → start o (length o) ≡ length (flatten o)
unfolding start flatten
start-end [] = refl
start-end (row ∷ o) = omega (arith, start-end o, length-append row (flatten o))

-- a row of the same length in the place of one moves no start
pub start-set : (o : List (List ℕ)) (r k : ℕ) (now : List ℕ) → length now ≡ length (get_or o r []) → start (set o r now) k ≡ start o k
unfolding start
start-set [] r k now e = refl
start-set (row ∷ o) zero zero now e = refl
start-set (row ∷ o) zero (suc k) now e = omega arith
start-set (row ∷ o) (suc r) zero now e = refl
start-set (row ∷ o) (suc r) (suc k) now e = omega (arith, start-set o r k now e)

-- The part from the start of row r on, of its length, is row r: what stands before are the rows before it.
pub flat-row : (o : List (List ℕ)) (rest : List ℕ) (r : ℕ) → r < length o
    → take (length (get_or o r [])) (drop (start o r) (flatten o ++ rest)) ≡ get_or o r []
unfolding start flatten
flat-row [] rest r h = absurd (not-suc-le-zero h)
flat-row (row ∷ o) rest zero h = rw (append_assoc row (flatten o) rest) (take-append_seam row (flatten o ++ rest))
flat-row (row ∷ o) rest (suc r) h =
    rw (append_assoc row (flatten o) rest, drop-append-add row (flatten o ++ rest) (start o r)) (flat-row o rest r (le_of_suc-le-suc h))

-- Another row put there gives the order with that row: the rows before it and those behind it stay.
pub flat-set : (o : List (List ℕ)) (rest : List ℕ) (r : ℕ) (now : List ℕ) → r < length o
    → take (start o r) (flatten o ++ rest) ++ (now ++ drop (length (get_or o r [])) (drop (start o r) (flatten o ++ rest))) ≡ flatten (set o r now) ++ rest
unfolding start flatten
flat-set [] rest r now h = absurd (not-suc-le-zero h)
flat-set (row ∷ o) rest zero now h =
    rw (append_assoc row (flatten o) rest, drop-append_seam row (flatten o ++ rest), append_assoc now (flatten o) rest)
flat-set (row ∷ o) rest (suc r) now h =
    rw (
      append_assoc row (flatten o) rest,
      take-append-add row (flatten o ++ rest) (start o r),
      drop-append-add row (flatten o ++ rest) (start o r),
      append_assoc row (take (start o r) (flatten o ++ rest)) (now ++ drop (length (get_or o r [])) (drop (start o r) (flatten o ++ rest))),
      append_assoc row (flatten (set o r now)) rest,
    )
    (ap (λ l. row ++ l) (flat-set o rest r now (le_of_suc-le-suc h)))

-- no start is past the end
pub start-below : (o : List (List ℕ)) (r : ℕ) → start o r ≤ length (flatten o)
unfolding start flatten
start-below [] r = omega arith
start-below (row ∷ o) zero = omega arith
start-below (row ∷ o) (suc r) = omega (arith, start-below o r, length-append row (flatten o))
