-- When rows are the lowest that keep the edges: each is 0 or held up by a tight edge.
use Rattle.std.specs.Prelude.{◌≡◌, Bool, true, cond, List, [], ℕ, ◌+◌, ◌<◌, max, length, set}
use Rattle.graph.specs.Rows.{at}
use Rattle.relaxation.specs.Relax.{EdgesKept, Heights}

-- r is told only where gap g, which is above 0, is all that lies between rows lo and hi
pub record PropIs (lo g hi : ℕ) (r : Bool) : Type 0 where
  pub holds : r ≡ true → (0 < g) × (hi ≡ lo + g)

-- the mark of the head of edge a may rise by what the edge tells, and no other mark changes
pub record Props (from to gap y : List ℕ) (a : ℕ) (old mark : List ℕ) : Type 0 where
  pub told : Bool
  pub prop : PropIs (at y (at from a)) (at gap a) (at y (at to a)) told
  pub now_mark : mark ≡ set old (at to a) (max (at old (at to a)) (cond told 1 0))

-- an edge that holds node v up
pub record Prop (from to gap y : List ℕ) (v : ℕ) : Type 0 where
  pub edge : ℕ
  pub inside : edge < length from
  pub head : at to edge ≡ v
  pub prop : (0 < at gap edge) × (at y v ≡ at y (at from edge) + at gap edge)

-- each node that is marked is held up
pub record Propped (from to gap : List ℕ) (n : ℕ) (y mark : List ℕ) : Type 0 where
  pub long : length mark ≡ n
  pub each : (v : ℕ) → 0 < at mark v → Prop from to gap y v

-- the rows keep the edges, and each is the height of a walk
pub record RowsLowest (from to gap : List ℕ) (n : ℕ) (y : List ℕ) : Type 0 where
  pub kept : EdgesKept from to gap y
  pub heights : Heights from to gap [] n y
