-- Places of a matrix of n rows: every row is inside, and a place tells its row.
use mathlib.Core.Path.{◌≡◌}
use mathlib.Core.Bool.{Bool}
use mathlib.Core.List.{List}
use Prim.Native.Nat.{ℕ, ◌+◌, ◌*◌, ◌≤◌, ◌<◌}
use native.Mathlib.Nat.{mul-le-mul_right, suc-mul}
use native.Mathlib.Decide.{dec_lt}
use native.Mathlib.Omega.{arith}
use lib.ListN.{length}
use Rattle.closure.specs.Closure.{MatrixRoom}

-- a row ends where the next begins, and the rows below it end before it
row_below : (n u w : ℕ) → u < w → u * n + n ≤ w * n
row_below n u w h = omega (arith, mul-le-mul_right n h, suc-mul u n)

-- so every row is inside the matrix
pub row_room : (n u : ℕ) → u < n → (reach : List Bool) → MatrixRoom n reach → u * n + n ≤ length reach
row_room n u row reach room = omega (arith, row_below n u n row, room.room)

-- a place before a row or behind it
pub data Apart (n u place : ℕ) : Type 0 where
  before : place < u * n → Apart n u place
  behind : u * n + n ≤ place → Apart n u place

-- so a place tells its row
pub cell_apart : (n u w v : ℕ) → v < n → (w ≡ u → ⊥) → Apart n u (w * n + v)
cell_apart n u w v h ne = go (dec_lt w u) (dec_lt u w)
  where
    go : Dec (w < u) → Dec (u < w) → Apart n u (w * n + v)
    go (yes l) d = before (omega (arith, row_below n w u l))
    go (no l) (yes k) = behind (omega (arith, row_below n u w k))
    go (no l) (no k) = absurd (ne (omega arith))
