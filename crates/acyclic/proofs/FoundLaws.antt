-- What a caller makes of an answer.
use mathlib.Core.Path.{◌≡◌}
use mathlib.Core.List.{List, []}
use Prim.Native.Nat.{ℕ}
use Rattle.std.specs.Prelude.{Option, Some, None}
use Rattle.graph.specs.declared.Edge.{Edge}
use Rattle.graph.specs.Rows.{Within}
use Rattle.relaxation.specs.Network.{edges_of, Shaped}
use Rattle.acyclic.specs.Ends.{NodeEnds}
use Rattle.acyclic.specs.Loops.{LoopIs, FoundIs, lowest_on_loop}
use Rattle.acyclic.proofs.WalkLaws.{ends-within, loop-ends}
use Rattle.acyclic.proofs.LoopLaws.{loop-iff}
use Rattle.acyclic.proofs.BoundLaws.{low_rows}

module _ (n : ℕ) (edges : List Edge) (within : Within n edges) where
  -- no loop comes with low rows
  pub found-is : (r : Option ℕ) → LoopIs n edges r → FoundIs n edges r
  found-is (Some s) l = l
  found-is None l = (l, low_rows n edges within l)

  -- the answer is what the definition computes
  pub found-computes : (r : Option ℕ) → FoundIs n edges r → lowest_on_loop n edges ≡ r
  found-computes (Some s) f = (loop-iff n edges within (Some s)).0 f
  found-computes None f = (loop-iff n edges within None).0 f.0

-- an answer from the ends alone holds with any gaps and weights
pub found-ends : (n : ℕ) (from to gap weight gap' weight' : List ℕ) (r : Option ℕ) → NodeEnds n from to
    → LoopIs n (edges_of from to gap weight) r → FoundIs n (edges_of from to gap' weight') r
found-ends n from to gap weight gap' weight' r ends l =
    found-is n (edges_of from to gap' weight') (ends-within from to gap' weight' ends) r (loop-ends from to gap weight gap' weight' n r l)

pub found-loop : (n : ℕ) (edges : List Edge) (r : Option ℕ) → FoundIs n edges r → LoopIs n edges r
found-loop n edges (Some s) f = f
found-loop n edges None f = f.0

-- an answer without weights holds with any
pub found-weighted : (n : ℕ) (from to gap weight : List ℕ) (r : Option ℕ) → NodeEnds n from to
    → FoundIs n (edges_of from to gap []) r → FoundIs n (edges_of from to gap weight) r
found-weighted n from to gap weight r ends f = found-ends n from to gap [] gap weight r ends (found-loop n (edges_of from to gap []) r f)

-- both ends of each edge of a network are nodes
pub shaped-ends : {n : ℕ} {from to gap : List ℕ} → Shaped from to gap n → NodeEnds n from to
shaped-ends s = record { to_long = s.to_long; from_in = s.from_in; to_in = s.to_in }
