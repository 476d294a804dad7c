-- Where a point stands. An order is a list of rows from row 0 down, each a list of points from left to right.
use Rattle.std.specs.Prelude.{cond, List, [], ◌∷◌, ℕ, suc, ◌+◌, ◌-◌, eqb, get_or, take, drop}
use Rattle.graph.specs.Rows.{at}

-- where a point stands in a row, from 0
unfoldable pub position : ℕ → List ℕ → ℕ
position p [] = 0
position p (q ∷ row) = let rest = suc (position p row) in cond (eqb p q) 0 rest

-- where a point stands in its own row of an order; ys has the row of each point
unfoldable pub place : List ℕ → List (List ℕ) → ℕ → ℕ
place ys order p = position p (get_or order (at ys p) [])

-- row r of an order kept flat, its rows one behind the other: `first` has where each row starts and, behind the last, where it ends
abbrev pub row_at : List ℕ → List ℕ → ℕ → List ℕ
row_at first order r = take (at first (r + 1) - at first r) (drop (at first r) order)
