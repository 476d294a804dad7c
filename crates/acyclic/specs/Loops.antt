-- Loops of edges (document 01, refusal 11): what is meant by walks, and the same as a definition that computes.
use Rattle.std.specs.Prelude.{◌≡◌, Bool, ◌||◌, cond, Option, Some, None, List, [], ◌∷◌, ℕ, zero, suc, ◌-◌, ◌*◌, ◌≤◌, ◌<◌, ltb, eqb, length, get_or, set, replicate}
use Rattle.graph.specs.declared.Edge.{Edge}
use Rattle.graph.specs.Rows.{at, no_edge, Kept}
use Rattle.graph.specs.Search.{widest}

-- a walk of one or more edges from s
pub data Walk (edges : List Edge) (s : ℕ) : ℕ → Type 0 where
  one : (i : ℕ) → i < length edges → (get_or edges i no_edge).from ≡ s → Walk edges s (get_or edges i no_edge).to
  more : (i : ℕ) → i < length edges → Walk edges s (get_or edges i no_edge).from → Walk edges s (get_or edges i no_edge).to

-- a node lies on a loop where a walk leads from it back to it; s is the lowest of n nodes that does
pub record Lowest (n : ℕ) (edges : List Edge) (s : ℕ) : Type 0 where
  pub inside : s < n
  pub closed : Walk edges s s
  pub lowest : (k : ℕ) → k < s → Walk edges k k → ⊥

-- no node lies on a loop
pub record LoopFree (edges : List Edge) : Type 0 where
  pub free : (k : ℕ) → Walk edges k k → ⊥

-- what it means that an answer gives the lowest node on a loop
abbrev pub LoopIs : ℕ → List Edge → Option ℕ → Type 0
LoopIs n edges (Some s) = Lowest n edges s
LoopIs n edges None = LoopFree edges

-- Marks, one a node, are above 0 where a walk from s was found to lead: an edge from s or from a marked node marks its head.
unfoldable pub mark : ℕ → List ℕ → Edge → List ℕ
mark s m e = cond (eqb e.from s || ltb 0 (at m e.from)) (set m e.to 1) m

unfoldable pub sweep : ℕ → List Edge → List ℕ → List ℕ
sweep s [] m = m
sweep s (e ∷ edges) m = sweep s edges (mark s m e)

unfoldable pub sweeps : ℕ → ℕ → List Edge → List ℕ → List ℕ
sweeps zero s edges m = m
sweeps (suc k) s edges m = sweeps k s edges (sweep s edges m)

-- the nodes that walks lead to from s: n sweeps are enough for n nodes
unfoldable pub reached : ℕ → List Edge → ℕ → List ℕ
reached n edges s = sweeps n s edges (replicate n 0)

unfoldable pub on_loop : ℕ → List Edge → ℕ → Bool
on_loop n edges s = ltb 0 (at (reached n edges s) s)

-- the first of k numbers from a on that passes a test
unfoldable pub first_from : (ℕ → Bool) → ℕ → ℕ → Option ℕ
first_from test a zero = None
first_from test a (suc k) = let rest = first_from test (suc a) k in cond (test a) (Some a) rest

-- the lowest of n nodes that lies on a loop (document 01: the step that comes with refusal 11)
unfoldable pub lowest_on_loop : ℕ → List Edge → Option ℕ
lowest_on_loop n edges = first_from (on_loop n edges) 0 n

-- some rows keep every edge and give none of n nodes a row above top
pub record LowRows (n : ℕ) (edges : List Edge) (top : ℕ) : Type 0 where
  pub rows : ℕ → ℕ
  pub kept : (i : ℕ) → i < length edges → Kept rows (get_or edges i no_edge)
  pub low : (v : ℕ) → v < n → rows v ≤ top

-- a search for a loop answers the lowest node on one, or that there is none; then rows are at hand that are as low as any need be
abbrev pub FoundIs : ℕ → List Edge → Option ℕ → Type 0
FoundIs n edges (Some s) = Lowest n edges s
FoundIs n edges None = LoopFree edges × LowRows n edges ((n - 1) * widest edges)
