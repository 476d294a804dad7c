-- The number of rows, as a loop over the nodes finds it.
use mathlib.Core.Path.{◌≡◌}
use mathlib.Core.List.{List, [], ◌∷◌}
use Prim.Native.Nat.{ℕ, zero, suc, ◌+◌, max, ◌≤◌, ◌<◌}
use native.Mathlib.Omega.{arith}
use lib.ListN.{length, drop, drop_of_length-le}
use Rattle.graph.specs.Rows.{at}
use Rattle.points.specs.Points.{row_count}
use Rattle.buffers.proofs.WriteLaws.{drop-turn}

pub count_turn : (ys : List ℕ) (i count : ℕ) → i < length ys
    → max (row_count (drop i ys)) count ≡ max (row_count (drop (i + 1) ys)) (max count (at ys i + 1))
unfolding row_count
count_turn ys i count h = rw (drop-turn ys i h) (omega arith)

pub count-end : (ys : List ℕ) (i count : ℕ) → length ys ≤ i → max (row_count (drop i ys)) count ≡ count
unfolding row_count
count-end ys i count h = rw (drop_of_length-le ys h) (omega arith)

-- rows that are numbered up to t are at most t + 1
pub count_low : (t : ℕ) (ys : List ℕ) → ((v : ℕ) → at ys v ≤ t) → row_count ys ≤ suc t
unfolding row_count
count_low t [] h = omega arith
count_low t (y ∷ ys) h = omega (arith, h zero, count_low t ys (λ v. h (suc v)))
