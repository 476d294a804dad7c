-- How supply and demand are brought to nothing.
use Rattle.std.specs.Prelude.{◌≡◌, Option, Some, None, List, ℕ, ◌≤◌, ◌<◌, length, set, drop}
use Rattle.graph.specs.Rows.{at}
use Rattle.relaxation.specs.Limits.{calm_limit, peak_limit}
use Rattle.relaxation.specs.Low.{RowsLow}
use Rattle.relaxation.specs.Network.{Lengths}
use Rattle.relaxation.specs.Certificate.{Held, Balance}
use Rattle.transport.specs.Flow.{Flows}
use Rattle.augment.specs.Search.{Tree}

-- Sending from s to t asks for a tree from s, grown with all that s has to send, that has t in it, which has a demand.
pub record Sendable (from to gap g : List ℕ) (n s t : ℕ) (y flow rank parent capacity supply demand : List ℕ) : Type 0 where
  pub flows : Flows from to gap g n y flow supply demand
  pub lengths : Lengths n y rank parent capacity
  pub low : RowsLow n peak_limit y
  pub amount : ℕ
  pub whole : amount ≡ at supply s
  pub count : ℕ
  pub tree : Tree from to gap flow n s amount y rank parent capacity count
  pub inside : t < n
  pub there : 0 < at rank t
  pub wants : 0 < at demand t

-- s has less to send, left, and no other node's supply has changed
pub record Sent (from to gap g : List ℕ) (n s : ℕ) (old supply₀ y flow supply demand : List ℕ) (left : ℕ) : Type 0 where
  pub flows : Flows from to gap g n y flow supply demand
  pub low : RowsLow n calm_limit y
  pub long : length y ≡ length old
  pub rest : drop n y ≡ drop n old
  pub only : supply ≡ set supply₀ s left
  pub left_is : left ≡ at supply s
  pub less : at supply s < at supply₀ s

-- all that node s had to send is sent
pub record Drained (from to gap g : List ℕ) (n s : ℕ) (old supply₀ y flow supply demand rank parent capacity : List ℕ) : Type 0 where
  pub flows : Flows from to gap g n y flow supply demand
  pub empty : supply ≡ set supply₀ s 0
  pub low : RowsLow n calm_limit y
  pub lengths : Lengths n y rank parent capacity
  pub long : length y ≡ length old
  pub rest : drop n y ≡ drop n old

-- all that any node had to send is sent: the flow is balanced with the weights
pub record DrainedAll (from to gap weight : List ℕ) (n : ℕ) (old y flow supply demand : List ℕ) : Type 0 where
  pub supply_long : length supply ≡ n
  pub demand_long : length demand ≡ n
  pub flow_long : length flow ≡ length from
  pub held : Held from to gap flow (at y)
  pub balance : Balance from to flow weight
  pub low : RowsLow n calm_limit y
  pub long : length y ≡ length old
  pub rest : drop n y ≡ drop n old
  pub y_long : n ≤ length y

-- some of what nodes had to send is sent, and the next search may begin
pub record Calm (from to gap g : List ℕ) (n : ℕ) (old y flow supply demand rank parent capacity : List ℕ) : Type 0 where
  pub flows : Flows from to gap g n y flow supply demand
  pub low : RowsLow n calm_limit y
  pub lengths : Lengths n y rank parent capacity
  pub long : length y ≡ length old
  pub rest : drop n y ≡ drop n old

-- of a node found so far, best, and a node v with an amount to send, one that has something to send
pub data Picks (best : Option ℕ) (v amount : ℕ) (r : Option ℕ) : Type 0 where
  same : r ≡ best → (best ≡ None → amount ≡ 0) → Picks best v amount r
  other : r ≡ Some v → 0 < amount → Picks best v amount r

-- of the first k nodes the one found has something to send; where none is found none of them has
pub record NextSupply (k : ℕ) (supply : List ℕ) (r : Option ℕ) : Type 0 where
  pub none : r ≡ None → (v : ℕ) → v < k → at supply v ≡ 0
  pub some : (s : ℕ) → r ≡ Some s → (s < k) × (0 < at supply s)
