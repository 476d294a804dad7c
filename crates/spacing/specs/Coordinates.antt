-- x of points (document 02, request 7): which are spaced, what they total, and which are best. The order is fixed: a list of rows, each a
-- list of points from left to right. x is a function from a point to its x; a list of x, one a point, is the function `at` of it.
use Rattle.std.specs.Prelude.{◌≡◌, List, [], ◌∷◌, ℕ, suc, ◌+◌, ◌*◌, ◌-◌, ◌≤◌, ◌<◌, length, get_or}
use Rattle.graph.specs.Rows.{at}

-- a segment (document 01: a piece) with what each unit of its horizontal distance costs: the weight of its line times its factor
pub record Costed : Type 0 where
  pub upper : ℕ
  pub lower : ℕ
  pub cost : ℕ

-- what stands past the end of a list of them
abbrev pub no_costed : Costed
no_costed = record { upper = 0; lower = 0; cost = 0 }

-- a whole row of an order
abbrev pub row_in : List (List ℕ) → ℕ → List ℕ
row_in order r = get_or order r []

-- each point stands at least 1 to the right of its left neighbour
pub record Spaced (order : List (List ℕ)) (x : ℕ → ℕ) : Type 0 where
  pub apart : (r i : ℕ) → r < length order → suc i < length (row_in order r) → x (at (row_in order r) i) + 1 ≤ x (at (row_in order r) (suc i))

-- how far two x are apart: one of the two differences is 0
abbrev pub distance : ℕ → ℕ → ℕ
distance a b = (a - b) + (b - a)

-- cost times horizontal distance, summed over the segments
unfoldable pub x_total : List Costed → (ℕ → ℕ) → ℕ
x_total [] x = 0
x_total (s ∷ costed) x = s.cost * distance (x s.upper) (x s.lower) + x_total costed x

-- What request 7 asks of the x of n points, as `Best` asks it of rows. The other x, zs, are any list of n whole numbers, however large,
-- that is spaced: none has a smaller total, and none of the same total has a smaller x anywhere.
pub record BestX (n : ℕ) (order : List (List ℕ)) (costed : List Costed) (xs : List ℕ) : Type 0 where
  pub one_a_point : length xs ≡ n
  pub spaced : Spaced order (at xs)
  pub least : (zs : List ℕ) → length zs ≡ n → Spaced order (at zs) → x_total costed (at xs) ≤ x_total costed (at zs)
  pub lowest : (zs : List ℕ) → length zs ≡ n → Spaced order (at zs) → x_total costed (at zs) ≡ x_total costed (at xs)
      → (p : ℕ) → p < n → at xs p ≤ at zs p

-- rows and segments speak of the points below n only
pub record Among (n : ℕ) (order : List (List ℕ)) (costed : List Costed) : Type 0 where
  pub points_in : (r i : ℕ) → r < length order → i < length (row_in order r) → at (row_in order r) i < n
  pub ends_in : (k : ℕ) → k < length costed → ((get_or costed k no_costed).upper < n) × ((get_or costed k no_costed).lower < n)
