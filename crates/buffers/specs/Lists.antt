-- What is said of the numbers of a list: how large they are, what they add up to, how often one stands there.
use Rattle.std.specs.Prelude.{cond, List, [], ◌∷◌, ℕ, ◌+◌, ◌<◌, eqb, length}
use Rattle.graph.specs.Rows.{at}

-- every number of a list is below n
pub record Below (n : ℕ) (l : List ℕ) : Type 0 where
  pub below : (i : ℕ) → i < length l → at l i < n

-- what they add up to
unfoldable pub sum : List ℕ → ℕ
sum [] = 0
sum (x ∷ xs) = x + sum xs

-- how often a number stands in a list
unfoldable pub occurs : ℕ → List ℕ → ℕ
occurs p [] = 0
occurs p (q ∷ l) = cond (eqb p q) 1 0 + occurs p l
