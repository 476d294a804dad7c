-- Which nodes walks lead to, as a matrix of marks for n nodes: mark u * n + v is set where a walk leads from u to v.
use Rattle.std.specs.Prelude.{◌≡◌, ◌⊎◌, Bool, true, false, ◌||◌, List, ◌∷◌, ℕ, ◌+◌, ◌*◌, ◌≤◌, ◌<◌, length, get_or}
use Rattle.graph.specs.declared.Edge.{Edge}
use Rattle.graph.specs.Rows.{Within}
use Rattle.table.specs.Limits.{max_steps}
use Rattle.acyclic.specs.Loops.{Walk}

-- mark i is set
abbrev pub Marked : List Bool → ℕ → Type 0
Marked marks i = get_or marks i false ≡ true

-- row u marks the nodes that a walk leads to from u, and no others
pub record ClosureRow (n : ℕ) (stand : List Edge) (u : ℕ) (reach : List Bool) : Type 0 where
  pub sound : (v : ℕ) → v < n → Marked reach (u * n + v) → Walk stand u v
  pub full : (v : ℕ) → v < n → Walk stand u v → Marked reach (u * n + v)

-- every row does
pub record Closure (n : ℕ) (stand : List Edge) (reach : List Bool) : Type 0 where
  pub row : (u : ℕ) → u < n → ClosureRow n stand u reach
  pub within : Within n stand

-- room for the matrix
pub record MatrixRoom (n : ℕ) (reach : List Bool) : Type 0 where
  pub room : n * n ≤ length reach

-- marks of one row: b, and what row b marks
pub record Fresh (n b : ℕ) (reach fresh : List Bool) : Type 0 where
  pub long : length fresh ≡ max_steps
  pub own : Marked fresh b
  pub other : (v : ℕ) → v < n → (v ≡ b → ⊥) → get_or fresh v false ≡ get_or reach (b * n + v) false

-- those are b and the nodes that a walk leads to from b
pub record OnwardMarks (n : ℕ) (stand : List Edge) (b : ℕ) (fresh : List Bool) : Type 0 where
  pub sound : (v : ℕ) → v < n → Marked fresh v → (b ≡ v) ⊎ Walk stand b v
  pub full : (v : ℕ) → v < n → (b ≡ v) ⊎ Walk stand b v → Marked fresh v

-- the marks of a row are set where those of fresh are, and the others stay
pub record RowMarked (fresh old new : List Bool) : Type 0 where
  pub long : length new ≡ length old
  pub inside : (v : ℕ) → v < length old → get_or new v false ≡ get_or old v false || get_or fresh v false

-- row u is right with one edge more, from a to b, where fresh is what is onward from b; the other rows stay
pub record RowExtended (n a b u : ℕ) (fresh old new : List Bool) : Type 0 where
  pub long : length new ≡ length old
  pub others : (w v : ℕ) → w < n → v < n → (w ≡ u → ⊥) → get_or new (w * n + v) false ≡ get_or old (w * n + v) false
  pub row : (stand : List Edge) (e : Edge) → e.from ≡ a → e.to ≡ b → OnwardMarks n stand b fresh → ClosureRow n stand u old → ClosureRow n (e ∷ stand) u new

-- and so are the first k rows
pub record Extended (n a b k : ℕ) (fresh old new : List Bool) : Type 0 where
  pub long : length new ≡ length old
  pub rest : (w v : ℕ) → k ≤ w → w < n → v < n → get_or new (w * n + v) false ≡ get_or old (w * n + v) false
  pub rows : (stand : List Edge) (e : Edge) → e.from ≡ a → e.to ≡ b → OnwardMarks n stand b fresh
      → (u : ℕ) → u < k → u < n → ClosureRow n stand u old → ClosureRow n (e ∷ stand) u new

-- the matrix is right with one edge more, from a to b
pub record Added (n a b : ℕ) (old new : List Bool) : Type 0 where
  pub long : length new ≡ length old
  pub closure : (stand : List Edge) (e : Edge) → e.from ≡ a → e.to ≡ b → Closure n stand old → Closure n (e ∷ stand) new
