-- The search tree from a node s that has something to send: which nodes are marked, and how far the rows may rise.
-- A node's rank is 0 where it is not marked; s has rank 1; its parent edge led to any other; its capacity is how much can come to it.
use Rattle.std.specs.Prelude.{◌≡◌, Option, Some, None, List, ℕ, ◌+◌, ◌*◌, ◌≤◌, ◌<◌, min, length, set, drop}
use Rattle.graph.specs.Rows.{at}
use Rattle.buffers.specs.Written.{word_limit}
use Rattle.relaxation.specs.Limits.{gap_limit, no_slack}
use Rattle.relaxation.specs.Network.{Lengths}
use Rattle.relaxation.specs.Certificate.{Held}

-- Of an edge between a tail of rank rf in row lo and a head of rank rt in row hi, with gap g and flow f: it leaves the marked set with
-- slack r, and where r is 0 it is a residual arc out of it.
pub data Leaves (rf rt lo g hi f r : ℕ) : Type 0 where
  fwd : 0 < rf → rt ≡ 0 → hi ≡ lo + g + r → Leaves rf rt lo g hi f r
  bwd : rf ≡ 0 → 0 < rt → 0 < f → r ≡ 0 → Leaves rf rt lo g hi f r

-- it has at least slack r where it leaves
pub record Slack (rf rt lo g hi f r : ℕ) : Type 0 where
  pub leaves : 0 < rf → rt ≡ 0 → lo + g + r ≤ hi
  pub enters : rf ≡ 0 → 0 < rt → 0 < f → r ≡ 0

pub record SlackIs (rf rt lo g hi f r : ℕ) : Type 0 where
  pub slack : Slack rf rt lo g hi f r
  pub kind : r < no_slack → Leaves rf rt lo g hi f r

abbrev pub LeavesAt : List ℕ → List ℕ → List ℕ → List ℕ → List ℕ → List ℕ → ℕ → ℕ → Type 0
LeavesAt from to gap flow y rank a r =
    Leaves (at rank (at from a)) (at rank (at to a)) (at y (at from a)) (at gap a) (at y (at to a)) (at flow a) r

abbrev pub SlackAt : List ℕ → List ℕ → List ℕ → List ℕ → List ℕ → List ℕ → ℕ → ℕ → Type 0
SlackAt from to gap flow y rank r a =
    Slack (at rank (at from a)) (at rank (at to a)) (at y (at from a)) (at gap a) (at y (at to a)) (at flow a) r

abbrev pub SlackIsAt : List ℕ → List ℕ → List ℕ → List ℕ → List ℕ → List ℕ → ℕ → ℕ → Type 0
SlackIsAt from to gap flow y rank i r =
    SlackIs (at rank (at from i)) (at rank (at to i)) (at y (at from i)) (at gap i) (at y (at to i)) (at flow i) r

-- r is the least slack of the edges that leave the marked set, and edge a has it
pub record LeastIs (from to gap flow y rank : List ℕ) (a r : ℕ) : Type 0 where
  pub fits : r < word_limit
  pub slack : (i : ℕ) → i < length from → SlackAt from to gap flow y rank r i
  pub kind : r < no_slack → (a < length from) × LeavesAt from to gap flow y rank a r

-- an edge that is found leaves the marked set with no slack, which is the least
abbrev pub OpenIs : List ℕ → List ℕ → List ℕ → List ℕ → List ℕ → List ℕ → Option ℕ → Type 0
OpenIs from to gap flow y rank None = Unit {0}
OpenIs from to gap flow y rank (Some a) = LeastIs from to gap flow y rank a 0

-- how v was marked: over edge i from p, which was marked before
pub data Link (from to gap flow y rank parent capacity : List ℕ) (v : ℕ) : Type 0 where
  fwd : (i p : ℕ) → at parent v ≡ i → i < length from → at to i ≡ v → at from i ≡ p → at y v ≡ at y p + at gap i
      → 0 < at rank p → at rank p < at rank v → at capacity v ≤ at capacity p → Link from to gap flow y rank parent capacity v
  bwd : (i p : ℕ) → at parent v ≡ i → i < length from → at from i ≡ v → at to i ≡ p → at capacity v ≤ at flow i
      → 0 < at rank p → at rank p < at rank v → at capacity v ≤ at capacity p → Link from to gap flow y rank parent capacity v

-- the marked nodes: rank 1 is s, any other has a link
pub record Tree (from to gap flow : List ℕ) (n s amount : ℕ) (y rank parent capacity : List ℕ) (count : ℕ) : Type 0 where
  pub root : at rank s ≡ 1
  pub only : (v : ℕ) → v < n → at rank v ≡ 1 → v ≡ s
  pub link : (v : ℕ) → v < n → 1 < at rank v → Link from to gap flow y rank parent capacity v
  pub some : (v : ℕ) → v < n → 0 < at rank v → (0 < at capacity v) × (at capacity v ≤ amount)
  pub ranks : (v : ℕ) → v < n → at rank v < count

-- what marking the far end of edge a asks for
pub record Fits (from to flow rank parent capacity : List ℕ) (a : ℕ) : Type 0 where
  pub from_long : a < length from
  pub to_long : a < length to
  pub flow_long : a < length flow
  pub from_in : at from a < length rank
  pub to_in : at to a < length rank
  pub parent_long : length rank ≤ length parent
  pub capacity_long : length rank ≤ length capacity

-- the far end of edge a, v, is marked
pub data Marks (from to flow rank parent capacity : List ℕ) (a count : ℕ) (rank' parent' capacity' : List ℕ) (v : ℕ) : Type 0 where
  fwd : at rank (at to a) ≡ 0 → rank' ≡ set rank (at to a) count → parent' ≡ set parent (at to a) a
      → capacity' ≡ set capacity (at to a) (at capacity (at from a)) → v ≡ at to a
      → Marks from to flow rank parent capacity a count rank' parent' capacity' v
  bwd : 0 < at rank (at to a) → rank' ≡ set rank (at from a) count → parent' ≡ set parent (at from a) a
      → capacity' ≡ set capacity (at from a) (min (at capacity (at to a)) (at flow a)) → v ≡ at from a
      → Marks from to flow rank parent capacity a count rank' parent' capacity' v

-- y is old with the marked ones of the first n entries raised by d
pub record Raised (n : ℕ) (rank : List ℕ) (d : ℕ) (old y : List ℕ) : Type 0 where
  pub long : length y ≡ length old
  pub marked : (v : ℕ) → v < n → 0 < at rank v → at y v ≡ at old v + d
  pub other : (v : ℕ) → v < n → at rank v ≡ 0 → at y v ≡ at old v
  pub rest : drop n y ≡ drop n old

-- Rows are at most b + y(s), and at most b where no mark is; the row of s exceeds that of a marked node by at most the node's rank times
-- gap_limit.
pub record Near (n s b : ℕ) (y rank : List ℕ) (count : ℕ) : Type 0 where
  pub all : (v : ℕ) → v < n → at y v ≤ b + at y s
  pub flat : (v : ℕ) → v < n → at rank v ≡ 0 → at y v ≤ b
  pub close : (v : ℕ) → v < n → 0 < at rank v → at y s ≤ at y v + at rank v * gap_limit
  pub top : at y s ≤ b + count * gap_limit

-- s alone is marked, with all of its amount to send
pub record Planted (n s amount : ℕ) (rank capacity : List ℕ) : Type 0 where
  pub root : at rank s ≡ 1
  pub others : (v : ℕ) → v < n → (v ≡ s → ⊥) → at rank v ≡ 0
  pub whole : at capacity s ≡ amount
  pub rank_long : length rank ≡ n
  pub capacity_long : length capacity ≡ n

-- the tree has grown until t, which has a demand, is in it
pub record Grown (from to gap flow : List ℕ) (n s amount top : ℕ) (demand old y rank parent capacity : List ℕ) (t : ℕ) : Type 0 where
  pub count : ℕ
  pub tree : Tree from to gap flow n s amount y rank parent capacity count
  pub inside : t < n
  pub there : 0 < at rank t
  pub wants : 0 < at demand t
  pub held : Held from to gap flow (at y)
  pub low : (v : ℕ) → v < n → at y v ≤ top
  pub long : length y ≡ length old
  pub rest : drop n y ≡ drop n old
  pub lengths : Lengths n y rank parent capacity
