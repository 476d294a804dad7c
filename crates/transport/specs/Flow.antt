-- Supply and demand of the nodes, beside a flow.
use Rattle.std.specs.Prelude.{◌≡◌, List, [], ◌∷◌, ℕ, suc, ◌+◌, ◌*◌, ◌≤◌, ◌<◌, length}
use Rattle.graph.specs.Rows.{at}
use Rattle.buffers.specs.Written.{word_limit}
use Rattle.buffers.specs.Lists.{sum}
use Rattle.relaxation.specs.Certificate.{flux, Held}

-- Σ l(v)·z(v), over the nodes
unfoldable pub spread : List ℕ → (ℕ → ℕ) → ℕ
spread [] z = 0
spread (x ∷ l) z = x * z 0 + spread l (λ i. z (suc i))

-- f is balanced with g but for what nodes have still to send and to get
pub record Owed (from to f g supply demand : List ℕ) : Type 0 where
  pub test : (z : ℕ → ℕ) → flux f to z + flux g from z + spread demand z ≡ flux f from z + flux g to z + spread supply z

-- The state of the solver: rows that are held, a flow that is balanced with g but for supply and demand. What is to be sent is no more
-- than the weights add up to, and fits a word together with any flow.
pub record Flows (from to gap g : List ℕ) (n : ℕ) (y flow supply demand : List ℕ) : Type 0 where
  pub flow_long : length flow ≡ length from
  pub supply_long : length supply ≡ n
  pub demand_long : length demand ≡ n
  pub held : Held from to gap flow (at y)
  pub owed : Owed from to flow g supply demand
  pub small : (i : ℕ) → at flow i + sum supply < word_limit
  pub few : sum supply ≤ sum g
