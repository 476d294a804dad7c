-- All orders of some points, from the one in which they stand now.
use Rattle.std.specs.Prelude.{◌≡◌, ℕ, zero, suc, ◌*◌, length}
use mathlib.Core.List.{List, [], ◌∷◌, map, flatten}
use Rattle.buffers.specs.Lists.{occurs}

-- one of some points, and the others as they stand
pub record Pick : Type 0 where
  pub point : ℕ
  pub others : List ℕ

-- the same where x stands in front of the others
abbrev pub behind : ℕ → Pick → Pick
behind x p = record { point = p.point; others = x ∷ p.others }

-- each of them in turn, from left to right
unfoldable pub picks : List ℕ → List Pick
picks [] = []
picks (x ∷ row) = record { point = x; others = row } ∷ map (behind x) (picks row)

-- the orders that begin with a point
abbrev pub beginning : ℕ → List (List ℕ) → List (List ℕ)
beginning x orders = map (λ (p : List ℕ). x ∷ p) orders

-- n points in every order: first the orders that begin with the leftmost, then those that begin with the next, and so on, and among
-- these the others in every order by the same rule
unfoldable pub arranged_in : ℕ → List ℕ → List (List ℕ)
arranged_in zero row = [] ∷ []
arranged_in (suc n) row = flatten (map (λ (p : Pick). beginning p.point (arranged_in n p.others)) (picks row))

-- All orders of a row in the dictionary order of present positions (document 02, request 9): were each written down as the positions that
-- its points have now, they would stand as in a dictionary. The first is the row as it is.
abbrev pub arrangements : List ℕ → List (List ℕ)
arrangements row = arranged_in (length row) row

-- how many orders n points have
unfoldable pub factorial : ℕ → ℕ
factorial zero = 1
factorial (suc n) = suc n * factorial n

-- one order has the points of another, each as often
pub record Permutation (a b : List ℕ) : Type 0 where
  pub points : (p : ℕ) → occurs p a ≡ occurs p b
