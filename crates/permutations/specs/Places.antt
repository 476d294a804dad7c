-- What the steps from an order to the next one find and leave, by places in it.
use Rattle.std.specs.Prelude.{◌≡◌, List, ℕ, suc, ◌-◌, ◌≤◌, ◌<◌, length, get_or, take, drop, Option, Some, None}
use Rattle.permutations.specs.Next.{last, to, above, next_order}

-- The points from place r on have no next order, and the one before them is smaller than the first of them.
pub record Pivot (p : List ℕ) (r : ℕ) : Type 0 where
  pub behind : 0 < r
  pub inside : r < length p
  pub last_rest : next_order (drop r p) ≡ last
  pub rises : get_or p (r - 1) 0 < get_or p r 0

-- the place behind the point that is to change, or none where the order is the last
abbrev pub PivotIs : List ℕ → Option ℕ → Type 0
PivotIs p None = next_order p ≡ last
PivotIs p (Some r) = Pivot p r

-- j is the last of the places from r on, one after the other, whose points are larger than x
pub record RunIs (p : List ℕ) (r x j : ℕ) : Type 0 where
  pub after : r ≤ j
  pub inside : j < length p
  pub run : above x (drop r p) ≡ suc (j - r)

-- the next order, which begins as this one does up to the point before place r
pub record Advanced (p : List ℕ) (r : ℕ) (q : List ℕ) : Type 0 where
  pub next : next_order p ≡ to q
  pub begins : take (r - 1) q ≡ take (r - 1) p
