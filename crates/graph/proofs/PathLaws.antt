-- The bound of best rows is reached, for any number of nodes and any gap: along a path each node stands one gap below the one before it.
use mathlib.Core.Path.{◌≡◌, refl, sym, ap, subst, ◌∙◌}
use mathlib.Core.List.{List, [], ◌∷◌}
use Prim.Native.Nat.{ℕ, zero, suc, ◌+◌, ◌*◌, ◌<◌}
use native.Mathlib.Nat.{not-suc-le-zero, le_of_suc-le-suc}
use native.Mathlib.Omega.{arith}
use lib.ListN.{length, get_or}
use Rattle.graph.specs.declared.Edge.{Edge}
use Rattle.graph.specs.Rows.{no_edge, at, Tight, Feasible, Best, Within}
use Rattle.graph.specs.Search.{rows_of}
use Rattle.graph.proofs.FlowLaws.{weights}
use Rattle.graph.proofs.DualityLaws.{Climb, ground, over, best-of-climbs}
use Rattle.graph.proofs.BoundLaws.{best-is-rows_of}

-- an edge from a node to the next
abbrev pub link : ℕ → ℕ → Edge
link gap a = record { from = a; to = suc a; gap = gap; weight = 1 }

-- k of them, one behind the other, from node a on
unfoldable pub path : ℕ → ℕ → ℕ → List Edge
path gap a zero = []
path gap a (suc k) = link gap a ∷ path gap (suc a) k

-- k rows, each a gap below the one before, from row r on
unfoldable pub ladder : ℕ → ℕ → ℕ → List ℕ
ladder gap r zero = []
ladder gap r (suc k) = r ∷ ladder gap (r + gap) k

pub path-length : (gap a k : ℕ) → length (path gap a k) ≡ k
unfolding path
path-length gap a zero = refl
path-length gap a (suc k) = ap suc (path-length gap (suc a) k)

pub path-get : (gap a k i : ℕ) → i < k → get_or (path gap a k) i no_edge ≡ link gap (a + i)
unfolding path
path-get gap a zero i h = absurd (not-suc-le-zero h)
path-get gap a (suc k) zero h = let e : a ≡ a + 0 = omega arith in ap (link gap) e
path-get gap a (suc k) (suc i) h =
    let e : suc a + i ≡ a + suc i = omega arith in
    path-get gap (suc a) k i (le_of_suc-le-suc h) ∙ ap (link gap) e

ladder-length : (gap r k : ℕ) → length (ladder gap r k) ≡ k
unfolding ladder
ladder-length gap r zero = refl
ladder-length gap r (suc k) = ap suc (ladder-length gap (r + gap) k)

ladder-at : (gap r k i : ℕ) → i < k → at (ladder gap r k) i ≡ r + i * gap
unfolding ladder
ladder-at gap r zero i h = absurd (not-suc-le-zero h)
ladder-at gap r (suc k) zero h = omega arith
ladder-at gap r (suc k) (suc i) h = omega (arith, ladder-at gap (r + gap) k i (le_of_suc-le-suc h))

module _ (gap k : ℕ) where
  abbrev edges : List Edge
  edges = path gap 0 k

  abbrev rows : List ℕ
  rows = ladder gap 0 (suc k)

  edge-is : (i : ℕ) → i < length edges → get_or edges i no_edge ≡ link gap i
  edge-is i b = let e : 0 + i ≡ i = omega arith in path-get gap 0 k i (omega (arith, path-length gap 0 k)) ∙ ap (link gap) e

  -- each edge is as long as its gap
  tight : (i : ℕ) → i < length edges → Tight (at rows) (get_or edges i no_edge)
  tight i b =
      let l = path-length gap 0 k in
      subst (Tight (at rows)) (sym (edge-is i b)) (omega (arith, ladder-at gap 0 (suc k) i (omega arith), ladder-at gap 0 (suc k) (suc i) (omega arith)))

  feasible : Feasible edges (at rows)
  feasible i b = omega (arith, tight i b)

  -- a walk along it climbs to each row
  climb : (v : ℕ) → v < suc k → Climb edges (weights edges) v (v * gap)
  climb zero h = let e : 0 ≡ 0 * gap = omega arith in subst (Climb edges (weights edges) 0) e ground
  climb (suc v) h =
      let b : v < length edges = omega (arith, path-length gap 0 k) in
      let e = edge-is v b in
      let up = over v b (subst (λ (x : Edge). Climb edges (weights edges) x.from (v * gap)) (sym e) (climb v (omega arith))) in
      let high : v * gap + gap ≡ suc v * gap = omega arith in
      subst (Climb edges (weights edges) (suc v)) high (subst (λ (x : Edge). Climb edges (weights edges) x.to (v * gap + x.gap)) e up)

  height : (v : ℕ) → v < suc k → at rows v ≡ v * gap
  height v h = omega (arith, ladder-at gap 0 (suc k) v h)

  pub path-best : Best (suc k) edges rows
  path-best =
      best-of-climbs (suc k) edges (weights edges) rows (ladder-length gap 0 (suc k)) (λ z. omega arith) feasible (λ i b u. tight i b)
      (λ v h. subst (Climb edges (weights edges) v) (sym (height v h)) (climb v h))

  pub path-within : Within (suc k) edges
  path-within i b = let l = path-length gap 0 k in
      subst (λ (x : Edge). (x.from < suc k) × (x.to < suc k)) (sym (edge-is i b)) (omega arith, omega arith)

  -- so the last row of the answer is as many gaps as there are edges
  pub path-top : at (rows_of (suc k) edges) k ≡ k * gap
  path-top = ap (λ ys. at ys k) (best-is-rows_of (suc k) edges rows path-within path-best) ∙ height k (omega arith)
