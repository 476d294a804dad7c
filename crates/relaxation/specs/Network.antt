-- A network in flat lists: edge a goes from node `at from a` to node `at to a`, asks for `at gap a` rows between them, and each row of
-- its length costs `at weight a`.
use Rattle.std.specs.Prelude.{◌≡◌, ℕ, ◌+◌, ◌≤◌, ◌<◌, length}
use mathlib.Core.List.{List, [], ◌∷◌, tail}
use Rattle.graph.specs.declared.Edge.{Edge}
use Rattle.graph.specs.Rows.{at}
use Rattle.buffers.specs.Lists.{sum}
use Rattle.relaxation.specs.Limits.{node_limit, gap_limit, weight_limit}

-- the same edges as a list of records
unfoldable pub edges_of : List ℕ → List ℕ → List ℕ → List ℕ → List Edge
edges_of [] to gap weight = []
edges_of (f ∷ from) to gap weight =
    record { from = f; to = at to 0; gap = at gap 0; weight = at weight 0 } ∷ edges_of from (tail to) (tail gap) (tail weight)

-- the lists have one length, and each end of an edge is a node below n
pub record Shaped (from to gap : List ℕ) (n : ℕ) : Type 0 where
  pub to_long : length to ≡ length from
  pub gap_long : length gap ≡ length from
  pub from_in : (a : ℕ) → a < length from → at from a < n
  pub to_in : (a : ℕ) → a < length from → at to a < n

-- few nodes and small gaps
pub record Narrow (gap : List ℕ) (n : ℕ) : Type 0 where
  pub few : n ≤ node_limit
  pub gaps : (a : ℕ) → at gap a < gap_limit

-- what the solver asks of a network: a shape, and sums that fit a word
pub record Network (from to gap weight : List ℕ) (n : ℕ) : Type 0 where
  pub shape : Shaped from to gap n
  pub weight_long : length weight ≡ length from
  pub weights : sum weight < weight_limit
  pub narrow : Narrow gap n

-- some rows are feasible and at most top
pub record Bounded (from to gap : List ℕ) (n top : ℕ) : Type 0 where
  pub rows : ℕ → ℕ
  pub kept : (a : ℕ) → a < length from → rows (at from a) + at gap a ≤ rows (at to a)
  pub low : (v : ℕ) → v < n → rows v ≤ top

-- the rows' buffer holds n nodes, and each scratch buffer has n entries
pub record Lengths (n : ℕ) (y rank parent capacity : List ℕ) : Type 0 where
  pub y_long : n ≤ length y
  pub rank_long : length rank ≡ n
  pub parent_long : length parent ≡ n
  pub capacity_long : length capacity ≡ n

-- What the solver asks of its buffers, for m edges and n nodes: room for the rows, and one entry an edge or a node in the others. The lists
-- of edges and the queue may have any length; shorter ones only make it slower.
pub record Buffers (m n : ℕ) (y flow rank parent capacity supply demand lowest : List ℕ) : Type 0 where
  pub lengths : Lengths n y rank parent capacity
  pub flow_long : length flow ≡ m
  pub supply_long : length supply ≡ n
  pub demand_long : length demand ≡ n
  pub lowest_long : length lowest ≡ n
