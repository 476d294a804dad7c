-- From the certificate in flat lists to the best rows, and the bound that follows.
use mathlib.Core.Path.{◌≡◌, ap, ◌∙◌}
use mathlib.Core.List.{List}
use Prim.Native.Nat.{ℕ, ◌*◌, ◌-◌, ◌≤◌, ◌<◌}
use native.Mathlib.Nat.{mul-le-mul_left}
use native.Mathlib.Omega.{arith}
use lib.ListN.{length, take}
use lib.Seq.{get_or-take, length-take-le}
use Rattle.graph.specs.Rows.{at, Feasible, Best, Within}
use Rattle.graph.specs.Search.{widest}
use Rattle.relaxation.specs.Certificate.{flux, Balance, Held, Height}
use Rattle.relaxation.specs.Low.{RowsLow}
use Rattle.relaxation.specs.Limits.{gap_limit, calm_limit}
use Rattle.relaxation.specs.Network.{edges_of, Shaped, Narrow}
use Rattle.graph.proofs.FlowLaws.{dot, weights, into, outof, Balanced, UsedTight}
use Rattle.graph.proofs.DualityLaws.{best-of-flow}
use Rattle.graph.proofs.BoundLaws.{widest-le, best-bounded}
use Rattle.relaxation.proofs.EdgesLaws.{length-edges_of, edge_at, flux-into, flux-outof, weights-are}
use Rattle.relaxation.proofs.RelaxLaws.{height-le}

module _ (from to gap weight flow : List ℕ) (n : ℕ) (shape : Shaped from to gap n) where
  inside : (i : ℕ) → i < length (edges_of from to gap weight) → i < length from
  inside i b = omega (arith, length-edges_of from to gap weight)

  outside : (i : ℕ) → i < length from → i < length (edges_of from to gap weight)
  outside i b = omega (arith, length-edges_of from to gap weight)

  pub within : Within n (edges_of from to gap weight)
  within i b = rw (edge_at from to gap weight i (inside i b)) (shape.from_in i (inside i b), shape.to_in i (inside i b))

  held_of : (z : ℕ → ℕ) → Feasible (edges_of from to gap weight) z → UsedTight (edges_of from to gap weight) flow z → Held from to gap flow z
  held_of z f t =
      record {
        kept = λ i b. rw (edge_at from to gap weight i b) at (f i (outside i b));
        tight = λ i b u. equal-le _ _ (rw (edge_at from to gap weight i b) at (t i (outside i b) u));
      }
    where
      equal-le : (p q : ℕ) → p ≡ q → p ≤ q
      equal-le p q e = omega arith

  balanced-of : length flow ≡ length from → length weight ≡ length from → Balance from to flow weight
      → Balanced (edges_of from to gap weight) flow
  balanced-of lf lw b z =
      let edges = edges_of from to gap weight in
      let w : weights edges ≡ weight = weights-are from to gap weight lw in
      let wi : into (weights edges) edges z ≡ flux weight to z = ap (λ (l : List ℕ). dot l (λ e. z e.to) edges) w ∙ flux-into weight from to gap weight z lw in
      let wo : outof (weights edges) edges z ≡ flux weight from z = ap (λ (l : List ℕ). dot l (λ e. z e.from) edges) w ∙ flux-outof weight from to gap weight z lw in
      omega (arith, b.test z, wi, wo, flux-into flow from to gap weight z lf, flux-outof flow from to gap weight z lf)

  module _ (y : List ℕ) (fits : n ≤ length y) (held : Held from to gap flow (at y)) where
    taken : (v : ℕ) → v < n → at (take n y) v ≡ at y v
    taken v h = get_or-take n y v 0 h

    feasible-of : Feasible (edges_of from to gap weight) (at (take n y))
    feasible-of i b =
        rw (edge_at from to gap weight i (inside i b))
        (omega (arith, taken (at from i) (shape.from_in i (inside i b)), taken (at to i) (shape.to_in i (inside i b)), held.kept i (inside i b)))

    tight-of : UsedTight (edges_of from to gap weight) flow (at (take n y))
    tight-of i b u =
        rw (edge_at from to gap weight i (inside i b))
        (omega (
          arith,
          taken (at from i) (shape.from_in i (inside i b)),
          taken (at to i) (shape.to_in i (inside i b)),
          held.kept i
              (inside i b),
          held.tight i (inside i b) u,
        ))

    module _ (lf : length flow ≡ length from) (lw : length weight ≡ length from) (balance : Balance from to flow weight)
        (heights : (v : ℕ) → v < n → Height from to gap flow v (at y v)) where
      -- The certificate. The rows keep the edges, the flow is balanced over tight ones, and no residual walk climbs above rows that are
      -- held, so the rows are the lowest of those.
      pub certified-best : Best n (edges_of from to gap weight) (take n y)
      certified-best =
          best-of-flow n (edges_of from to gap weight) flow (take n y) (length-take-le n y fits) (balanced-of lf lw balance) feasible-of tight-of
          (λ z f t i h. omega (arith, taken i h, height-le from to gap flow z (held_of z f t) (heights i h)))

      pub certified-bounded : (v : ℕ) → v < n → at y v ≤ (n - 1) * widest (edges_of from to gap weight)
      certified-bounded v h = omega (arith, best-bounded n (edges_of from to gap weight) within (take n y) certified-best v h, taken v h)

      pub certified-low : Narrow gap n → RowsLow n calm_limit y
      certified-low narrow = record { low = λ v h. omega (arith, certified-bounded v h, mul-le-mul_left (n - 1) wide, narrow.few) }
        where
          wide : widest (edges_of from to gap weight) ≤ gap_limit
          wide =
              widest-le (edges_of from to gap weight) gap_limit (λ i b. rw (edge_at from to gap weight i (inside i b)) (omega (arith, narrow.gaps i)))
