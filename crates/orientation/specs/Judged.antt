-- What becomes of the matrix of walks where an edge is judged.
use Rattle.std.specs.Prelude.{◌≡◌, Bool, List, ℕ}
use Rattle.graph.specs.declared.Edge.{Edge}
use Rattle.graph.specs.declared.TableEdge.{TableEdge}
use Rattle.acyclic.specs.Oriented.{turns, stand_after}
use Rattle.closure.specs.Closure.{Closure}

-- whether an edge is turned, and the matrix of the edges that stand after it
pub record TurnJudged (n : ℕ) (e : TableEdge) (old new : List Bool) (turned : Bool) : Type 0 where
  pub says : (stand : List Edge) → Closure n stand old → turned ≡ turns n stand e
  pub stands : (stand : List Edge) → Closure n stand old → Closure n (stand_after turned e stand) new
