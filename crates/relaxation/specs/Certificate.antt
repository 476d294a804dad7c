-- What the solver answers: rows y, and a flow that shows that they are the best.
use Rattle.std.specs.Prelude.{◌≡◌, cond, ℕ, ◌+◌, ◌*◌, ◌-◌, ◌≤◌, ◌<◌, eqb, length, take, drop}
use mathlib.Core.List.{List, [], ◌∷◌, tail}
use Rattle.graph.specs.Rows.{at, Best}
use Rattle.graph.specs.Search.{widest}
use Rattle.relaxation.specs.Network.{edges_of}

-- Σ f(a)·z(end of a), over the edges
unfoldable pub flux : List ℕ → List ℕ → (ℕ → ℕ) → ℕ
flux [] ends z = 0
flux (x ∷ f) ends z = x * z (at ends 0) + flux f (tail ends) z

-- The flow f carries, into each node less out of it, what g carries. It is tested by every z; with the function that is 1 at
-- one node and 0 elsewhere it says so of that node.
pub record Balance (from to f g : List ℕ) : Type 0 where
  pub test : (z : ℕ → ℕ) → flux f to z + flux g from z ≡ flux f from z + flux g to z

-- what f carries over the edges that end at node v, where ends are the edges' tails or their heads
unfoldable pub flow_at : List ℕ → List ℕ → ℕ → ℕ
flow_at [] ends v = 0
flow_at (x ∷ f) ends v = cond (eqb (at ends 0) v) x 0 + flow_at f (tail ends) v

-- f is balanced with g at node v: into v less out of v, they carry the same
abbrev pub NodeBalance : List ℕ → List ℕ → List ℕ → List ℕ → ℕ → Type 0
NodeBalance from to f g v = flow_at f to v + flow_at g from v ≡ flow_at f from v + flow_at g to v

-- the rows z keep each edge, and an edge that the flow uses is tight
pub record Held (from to gap flow : List ℕ) (z : ℕ → ℕ) : Type 0 where
  pub kept : (a : ℕ) → a < length from → z (at from a) + at gap a ≤ z (at to a)
  pub tight : (a : ℕ) → a < length from → 0 < at flow a → z (at to a) ≤ z (at from a) + at gap a

-- a residual walk from height 0, up any edge and down a used edge by its gap, comes to node v at height h
pub data Height (from to gap flow : List ℕ) : ℕ → ℕ → Type 0 where
  ground : {v : ℕ} → Height from to gap flow v 0
  over : {h : ℕ} (a : ℕ) → a < length from → Height from to gap flow (at from a) h → Height from to gap flow (at to a) (h + at gap a)
  under : {h : ℕ} (a : ℕ) → a < length from → 0 < at flow a → Height from to gap flow (at to a) h
      → Height from to gap flow (at from a) (h - at gap a)

-- rows y that are held, each entry a height, in a buffer that was old and keeps the rest
pub record Relaxed (from to gap flow : List ℕ) (n : ℕ) (old y : List ℕ) : Type 0 where
  pub long : length y ≡ length old
  pub held : Held from to gap flow (at y)
  pub heights : (v : ℕ) → v < n → Height from to gap flow v (at y v)
  pub rest : drop n y ≡ drop n old

-- The answer: rows y that keep every edge; a flow, balanced with the weights, that is above 0 on tight edges only; each row the height
-- of a residual walk; entries of the buffer past the nodes as they were. So the rows are the best (demand 3 of rows), and no row is above
-- (n − 1) times the largest gap.
pub record Certified (from to gap weight : List ℕ) (n : ℕ) (old y flow : List ℕ) : Type 0 where
  pub relaxed : Relaxed from to gap flow n old y
  pub balance : Balance from to flow weight
  pub flow_long : length flow ≡ length from
  pub best : Best n (edges_of from to gap weight) (take n y)
  pub bounded : (v : ℕ) → v < n → at y v ≤ (n - 1) * widest (edges_of from to gap weight)
