-- Relaxation: rows stay at most the cap, and rows at rest keep every edge.
use mathlib.Core.Path.{◌≡◌, ap}
use mathlib.Core.List.{List}
use Prim.Native.Nat.{ℕ, ◌+◌, ◌≤◌, ◌<◌}
use native.Mathlib.Decide.{dec_lt}
use native.Mathlib.Omega.{arith}
use lib.ListN.{length, get_or, set, replicate}
use Rattle.graph.specs.Rows.{at, no_edge, Feasible}
use Rattle.relaxation.specs.Network.{edges_of}
use Rattle.acyclic.specs.Ends.{Gaps}
use Rattle.acyclic.specs.Loops.{LoopFree}
use Rattle.acyclic.specs.Scan.{Rests}
use Rattle.relaxation.proofs.EdgesLaws.{edge_at}
use Rattle.acyclic.proofs.WalkLaws.{edge-listed}
use Rattle.acyclic.proofs.LoopLaws.{feasible-free}
use Rattle.buffers.proofs.ListLaws.{set_cases, zero-at}

pub record Capped (cap : ℕ) (y : List ℕ) : Type 0 where
  pub capped : (v : ℕ) → at y v ≤ cap

pub capped-zeros : (cap n : ℕ) (y : List ℕ) → y ≡ replicate n 0 → Capped cap y
capped-zeros cap n y e = record { capped = λ v. omega (arith, ap (λ l. at l v) e, zero-at n v) }

pub capped-set : {cap : ℕ} {y : List ℕ} (t x : ℕ) → t < length y → x ≤ cap → Capped cap y → Capped cap (set y t x)
capped-set {cap} {y} t x h le c =
    record { capped = λ v. set_cases (λ (k : ℕ). k ≤ cap) y t x v h (λ e. le) (λ d. c.capped v) }

module _ (from to gap weight : List ℕ) (cap : ℕ) (y : List ℕ) (rests : Rests from to gap cap y) where
  kept : (i : ℕ) → i < length from → at y (at from i) + at gap i ≤ at y (at to i)
  kept i h = go (dec_lt (at y (at to i)) (at y (at from i) + at gap i))
    where
      go : Dec (at y (at to i) < at y (at from i) + at gap i) → at y (at from i) + at gap i ≤ at y (at to i)
      go (yes l) = absurd (rests.kept i h (record { short = l }))
      go (no l) = omega arith

  pub rests-feasible : Feasible (edges_of from to gap weight) (at y)
  rests-feasible i h =
      let l = edge-listed from to gap weight h in
      rw (edge_at from to gap weight i l) (kept i l)

  -- rows at rest leave no loop
  pub rests-free : Gaps (length from) gap → LoopFree (edges_of from to gap weight)
  rests-free gaps = feasible-free (edges_of from to gap weight) (at y) rests-feasible positive
    where
      positive : (i : ℕ) → i < length (edges_of from to gap weight) → 0 < (get_or (edges_of from to gap weight) i no_edge).gap
      positive i h =
          let l = edge-listed from to gap weight h in
          rw (edge_at from to gap weight i l) (gaps.positive i l)
