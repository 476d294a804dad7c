-- What an order of one row costs, and what no order goes below. An order is the list of the row's points from left to right, and `cost i j`
-- is how often segments of i and j cross where i stands left of j.
use Rattle.std.specs.Prelude.{List, [], ◌∷◌, ℕ, ◌+◌, min}

-- what a point costs with those on its right
unfoldable pub cost_with : (ℕ → ℕ → ℕ) → ℕ → List ℕ → ℕ
cost_with cost i [] = 0
cost_with cost i (j ∷ js) = cost i j + cost_with cost i js

-- each pair once, the left one first
unfoldable pub cost_of : (ℕ → ℕ → ℕ) → List ℕ → ℕ
cost_of cost [] = 0
cost_of cost (i ∷ is) = cost_with cost i is + cost_of cost is

-- a pair in the cheaper of its two orders
abbrev pub cheaper : (ℕ → ℕ → ℕ) → ℕ → ℕ → ℕ
cheaper cost i j = min (cost i j) (cost j i)

-- the floor: every pair of the row in the cheaper of its two orders
unfoldable pub floor_of : (ℕ → ℕ → ℕ) → List ℕ → ℕ
floor_of cost row = cost_of (cheaper cost) row
