-- Where the rows of an order start in its flat list.
use Rattle.std.specs.Prelude.{List, [], ◌∷◌, map, ℕ, zero, suc, ◌+◌, length}
use Rattle.graph.specs.Search.{run}

-- where row r starts
unfoldable pub start : List (List ℕ) → ℕ → ℕ
start [] r = 0
start (row ∷ order) zero = 0
start (row ∷ order) (suc r) = length row + start order r

-- where each row starts, and behind the last the number of points
unfoldable pub starts : List (List ℕ) → List ℕ
starts order = map (start order) (run 0 (suc (length order)))
