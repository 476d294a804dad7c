-- Walks along edges of flat slices. Gaps and weights play no part in them.
use mathlib.Core.Path.{◌≡◌}
use Rattle.std.specs.Prelude.{Option, Some, None}
use mathlib.Core.List.{List}
use Prim.Native.Nat.{ℕ, ◌<◌}
use native.Mathlib.Omega.{arith}
use lib.ListN.{length, get_or}
use Rattle.graph.specs.Rows.{at, no_edge, Within}
use Rattle.relaxation.specs.Network.{edges_of}
use Rattle.acyclic.specs.Ends.{NodeEnds}
use Rattle.acyclic.specs.Loops.{Walk, LoopIs}
use Rattle.acyclic.specs.Loops as loops
use Rattle.relaxation.proofs.EdgesLaws.{length-edges_of, edge_at}

module _ (from to gap weight : List ℕ) where
  pub edge-inside : {i : ℕ} → i < length from → i < length (edges_of from to gap weight)
  edge-inside h = omega (arith, length-edges_of from to gap weight)

  pub edge-listed : {i : ℕ} → i < length (edges_of from to gap weight) → i < length from
  edge-listed h = omega (arith, length-edges_of from to gap weight)

  pub ends-within : {n : ℕ} → NodeEnds n from to → Within n (edges_of from to gap weight)
  ends-within ends i h =
      let l = edge-listed h in
      rw (edge_at from to gap weight i l) (ends.from_in i l, ends.to_in i l)

  -- a walk by the entries of the slices
  pub walk-one : {s : ℕ} (i : ℕ) → i < length from → at from i ≡ s → Walk (edges_of from to gap weight) s (at to i)
  walk-one {s} i h e =
      let w : Walk (edges_of from to gap weight) s (get_or (edges_of from to gap weight) i no_edge).to
      = loops.one i (edge-inside h) (rw (edge_at from to gap weight i h) e)
      in
      rw (edge_at from to gap weight i h) at w

  pub walk_more : {s : ℕ} (i : ℕ) → i < length from → Walk (edges_of from to gap weight) s (at from i) → Walk (edges_of from to gap weight) s (at to i)
  walk_more {s} i h w =
      let longer : Walk (edges_of from to gap weight) s (get_or (edges_of from to gap weight) i no_edge).to
      = loops.more i (edge-inside h) (rw (edge_at from to gap weight i h) w)
      in
      rw (edge_at from to gap weight i h) at longer

  -- whatever goes along the entries of the slices goes along a walk
  pub walk-along : (P : ℕ → Type 0) {s v : ℕ} → ((i : ℕ) → i < length from → at from i ≡ s → P (at to i))
      → ((i : ℕ) → i < length from → P (at from i) → P (at to i)) → Walk (edges_of from to gap weight) s v → P v
  walk-along P start on (loops.one i h e) =
      let l = edge-listed h in
      rw (edge_at from to gap weight i l) (start i l (rw (edge_at from to gap weight i l) at e))
  walk-along P start on (loops.more i h w) =
      let l = edge-listed h in
      rw (edge_at from to gap weight i l) (on i l (rw (edge_at from to gap weight i l) at (walk-along P start on w)))

module _ (from to gap weight gap' weight' : List ℕ) where
  pub walk_ends : {s v : ℕ} → Walk (edges_of from to gap weight) s v → Walk (edges_of from to gap' weight') s v
  walk_ends {s} w =
      walk-along from to gap weight (Walk (edges_of from to gap' weight') s) (walk-one from to gap' weight') (walk_more from to gap' weight') w

-- loops are a matter of the ends alone
module _ (from to gap weight gap' weight' : List ℕ) where
  pub loop-ends : (n : ℕ) (r : Option ℕ) → LoopIs n (edges_of from to gap weight) r → LoopIs n (edges_of from to gap' weight') r
  loop-ends n (Some s) l =
      record {
        inside = l.inside;
        closed = walk_ends from to gap weight gap' weight' l.closed;
        lowest = λ k h w. l.lowest k h (walk_ends from to gap' weight' gap weight w);
      }
  loop-ends n None l = record { free = λ k w. l.free k (walk_ends from to gap' weight' gap weight w) }
