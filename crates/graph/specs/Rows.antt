-- Rows of nodes: which are feasible, what they total, and which are best.
-- Rows are a function from a node to its row; a list of rows, one a node, is the function `at` of it.
use Rattle.std.specs.Prelude.{◌≡◌, List, [], ◌∷◌, ℕ, ◌+◌, ◌*◌, ◌-◌, ◌≤◌, ◌<◌, length, get_or}
use Rattle.graph.specs.declared.Edge.{Edge}

-- what stands past the end of a list of edges
abbrev pub no_edge : Edge
no_edge = record { from = 0; to = 0; gap = 0; weight = 0 }

-- the row that a list gives a node
abbrev pub at : List ℕ → ℕ → ℕ
at ys i = get_or ys i 0

-- how many rows an edge's head stands below its tail (document 01: the length of an arrow)
abbrev pub span : (ℕ → ℕ) → Edge → ℕ
span y e = y e.to - y e.from

-- weight times length, summed over the edges
unfoldable pub total : List Edge → (ℕ → ℕ) → ℕ
total [] y = 0
total (e ∷ edges) y = e.weight * span y e + total edges y

-- an edge is kept where its length is no less than its gap
abbrev pub Kept : (ℕ → ℕ) → Edge → Type 0
Kept y e = y e.from + e.gap ≤ y e.to

-- and tight where its length is its gap
abbrev pub Tight : (ℕ → ℕ) → Edge → Type 0
Tight y e = y e.to ≡ y e.from + e.gap

-- rows are feasible where they keep every edge
abbrev pub Feasible : List Edge → (ℕ → ℕ) → Type 0
Feasible edges y = (i : ℕ) → i < length edges → Kept y (get_or edges i no_edge)

-- Demand 3 of rows ys for n nodes. The other rows, zs, are any list of n whole numbers, however large, that is feasible:
-- none has a smaller total, and none of the same total has a smaller number anywhere.
pub record Best (n : ℕ) (edges : List Edge) (ys : List ℕ) : Type 0 where
  pub one_a_node : length ys ≡ n
  pub feasible : Feasible edges (at ys)
  pub least : (zs : List ℕ) → length zs ≡ n → Feasible edges (at zs) → total edges (at ys) ≤ total edges (at zs)
  pub lowest : (zs : List ℕ) → length zs ≡ n → Feasible edges (at zs) → total edges (at zs) ≡ total edges (at ys)
      → (i : ℕ) → i < n → at ys i ≤ at zs i

-- both ends of every edge are nodes, of which there are n
abbrev pub Within : ℕ → List Edge → Type 0
Within n edges = (i : ℕ) → i < length edges → ((get_or edges i no_edge).from < n) × ((get_or edges i no_edge).to < n)
