-- Pushing an amount over the parent edges of the search tree, from a node with demand back to the one with supply.
use Rattle.std.specs.Prelude.{◌≡◌, List, ℕ, ◌+◌, ◌*◌, ◌-◌, ◌≤◌, ◌<◌, length, set}
use Rattle.graph.specs.Rows.{at}
use Rattle.buffers.specs.Written.{word_limit}
use Rattle.relaxation.specs.Certificate.{flux, Held}
use Rattle.augment.specs.Search.{Tree}

-- f carries what old carries, and d more on its way from cur to start
pub record OnWay (from to old f : List ℕ) (d start cur : ℕ) : Type 0 where
  pub test : (z : ℕ → ℕ) → flux f to z + flux old from z + d * z cur ≡ flux f from z + flux old to z + d * z start

-- a step of d over the parent edge of cur, back to r
pub data Steps (from to flow parent : List ℕ) (cur d : ℕ) (flow' : List ℕ) (r : ℕ) : Type 0 where
  fwd : at to (at parent cur) ≡ cur → flow' ≡ set flow (at parent cur) (at flow (at parent cur) + d) → r ≡ at from (at parent cur)
      → Steps from to flow parent cur d flow' r
  bwd : (at to (at parent cur) ≡ cur → ⊥) → flow' ≡ set flow (at parent cur) (at flow (at parent cur) - d) → r ≡ at to (at parent cur)
      → Steps from to flow parent cur d flow' r

-- what a push of d from start back to s asks for
pub record Pushable (from to gap flow : List ℕ) (n : ℕ) (y rank parent capacity : List ℕ) (s start d : ℕ) : Type 0 where
  pub amount : ℕ
  pub count : ℕ
  pub tree : Tree from to gap flow n s amount y rank parent capacity count
  pub flow_long : length flow ≡ length from
  pub rank_long : n ≤ length rank
  pub parent_long : n ≤ length parent
  pub inside : start < n
  pub marked : 0 < at rank start
  pub capped : d ≤ at capacity start
  pub held : Held from to gap flow (at y)
  pub fits : (i : ℕ) → at flow i + d < word_limit

-- and what it gives
pub record Pushed (from to gap y : List ℕ) (d start s : ℕ) (old flow : List ℕ) : Type 0 where
  pub long : length flow ≡ length old
  pub way : OnWay from to old flow d start s
  pub grows : (i : ℕ) → at flow i ≤ at old i + d
  pub held : Held from to gap flow (at y)
