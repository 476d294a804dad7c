-- The next order in the dictionary, where the points are numbers: from one order to all after it.
use Rattle.std.specs.Prelude.{◌≡◌, cond, ◌⊎◌, List, [], ◌∷◌, reverse, ℕ, zero, suc, ◌<◌, ltb, get_or, set}

-- an order that comes next, or none where the order is the last
pub data Next : Type 0 where
  last : Next
  to : List ℕ → Next

-- how many points from the left on are larger than x
unfoldable pub above : ℕ → List ℕ → ℕ
above x [] = 0
above x (y ∷ ys) = let more = suc (above x ys) in cond (ltb x y) more 0

-- x in front of points of which no later order exists, the first k of them larger than x: the k-th, the smallest of these, changes
-- places with x, and the points behind it are turned round
unfoldable pub exchanged : ℕ → List ℕ → ℕ → Next
exchanged x xs zero = last
exchanged x xs (suc j) = to (get_or xs j 0 ∷ reverse (set xs j x))

-- one point more in front: it stays as long as those behind it have a next order
unfoldable pub next_with : ℕ → List ℕ → Next → Next
next_with x xs (to ys) = to (x ∷ ys)
next_with x xs last = exchanged x xs (above x xs)

-- the next order of the same points in dictionary order
unfoldable pub next_order : List ℕ → Next
next_order [] = last
next_order (x ∷ xs) = next_with x xs (next_order xs)

-- at most so many orders from the next one on
unfoldable pub following : ℕ → Next → List (List ℕ)
following zero next = []
following (suc tries) last = []
following (suc tries) (to p) = p ∷ following tries (next_order p)

-- the orders that are looked at: the present one, and then as many as there are tries, or all there are
unfoldable pub orders : ℕ → List ℕ → List (List ℕ)
orders tries row = row ∷ following tries (next_order row)

-- dictionary order: at the first place where two orders differ the earlier one has the smaller point
unfoldable pub Before : List ℕ → List ℕ → Type 0
Before [] q = ⊥
Before (a ∷ p) [] = ⊥
Before (a ∷ p) (b ∷ q) = (a < b) ⊎ ((a ≡ b) × Before p q)
