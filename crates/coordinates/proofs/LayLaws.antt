-- The loops that lay costs: segment after segment of a line, and line after line.
use mathlib.Core.Path.{◌≡◌, refl, sym, ap, ◌∙◌, subst}
use mathlib.Core.List.{List, [], ◌∷◌, ◌++◌, append-nil, append_assoc}
use Prim.Native.Nat.{ℕ, suc, ◌+◌, ◌-◌, ◌*◌, ◌≤◌, ◌<◌}
use native.Mathlib.Nat.{zero-add}
use native.Mathlib.Numerals.{add-one}
use native.Mathlib.Omega.{arith}
use lib.ListN.{length, get_or, take, drop, length-map, length-append}
use lib.Seq.{take-suc, take_all}
use Rattle.std.proofs.lemmas.List.{get_or-map, take-append-drop}
use Rattle.flatten.specs.Flat.{Flat}
use Rattle.flatten.specs.Flat.{flat_edges}
use Rattle.relaxation.proofs.EdgesLaws.{length-edges_of, edge_at}
use Rattle.graph.specs.declared.Edge.{Edge}
use Rattle.graph.specs.Rows.{at, no_edge}
use Rattle.graph.specs.Search.{run}
use Rattle.buffers.proofs.RunLaws.{run_length, run_at}
use Rattle.points.specs.Points.{between, segments_from}
use Rattle.points.proofs.PointLaws.{chain_length}
use Rattle.coordinates.specs.Costing.{factor_at, line_costs, costs_from}

-- ---- the segments of a line

module _ (weight k : ℕ) where
  pub line-length : length (line_costs weight k) ≡ k + 1
  unfolding line_costs
  line-length = length-map (run 0 (suc k)) (λ (l : ℕ). weight * factor_at l k) ∙ run_length 0 (suc k) ∙ sym (add-one k)

  line-at : (j : ℕ) → j < k + 1 → get_or (line_costs weight k) j 0 ≡ weight * factor_at j k
  unfolding line_costs
  line-at j h =
      get_or-map (λ (l : ℕ). weight * factor_at l k) (run 0 (suc k)) j 0 0 (omega (arith, run_length 0 (suc k)))
      ∙ ap (λ (l : ℕ). weight * factor_at l k) (run_at 0 (suc k) j 0 (omega arith) ∙ zero-add j)

  -- the costs of the first j segments stand behind those before
  pub line-more : (before : List ℕ) (j : ℕ) {costs new : List ℕ} {c r : ℕ} → costs ≡ before ++ take j (line_costs weight k) → j < k + 1 → r ≡ factor_at j k → c ≡ weight * r
      → new ≡ costs ++ c ∷ [] → new ≡ before ++ take (j + 1) (line_costs weight k)
  line-more before j {costs} {new} {c} {r} so_far h is cost more =
      more ∙ ap (λ (l : List ℕ). l ++ c ∷ []) so_far ∙ append_assoc before (take j (line_costs weight k)) (c ∷ [])
      ∙ ap (λ (l : List ℕ). before ++ l)
      (rw (add-one j, take-suc (line_costs weight k) j 0 (omega (arith, line-length)), line-at j h, cost, is) refl)

-- ---- the lines

costs-join : (ys : List ℕ) (es fs : List Edge) → costs_from ys (es ++ fs) ≡ costs_from ys es ++ costs_from ys fs
unfolding costs_from
costs-join ys [] fs = refl
costs-join ys (e ∷ es) fs =
    ap (λ (l : List ℕ). line_costs e.weight (between ys e) ++ l) (costs-join ys es fs)
    ∙ sym (append_assoc (line_costs e.weight (between ys e)) (costs_from ys es) (costs_from ys fs))

costs-one : (ys : List ℕ) (e : Edge) → costs_from ys (e ∷ []) ≡ line_costs e.weight (between ys e)
unfolding costs_from
costs-one ys e = append-nil (line_costs e.weight (between ys e))

module _ (ys : List ℕ) (edges : List Edge) (i : ℕ) (h : i < length edges) where
  abbrev line : Edge
  line = get_or edges i no_edge

  costs-next : costs_from ys (take (i + 1) edges) ≡ costs_from ys (take i edges) ++ line_costs line.weight (between ys line)
  costs-next =
      rw (add-one i, take-suc edges i no_edge h) (costs-join ys (take i edges) (line ∷ []) ∙ ap (λ (l : List ℕ). costs_from ys (take i edges) ++ l) (costs-one ys line))

  module _ {costs : List ℕ} (so_far : costs ≡ costs_from ys (take i edges)) where
    -- the costs of line i fit behind those before
    pub costs_room : length costs + (between ys line + 1) ≤ length (costs_from ys edges)
    costs_room =
        omega (
          arith,
          ap length so_far,
          ap length costs-next,
          length-append (costs_from ys (take i edges)) (line_costs line.weight (between ys line)),
          line-length line.weight (between ys line),
          ap length (ap (costs_from ys) (sym (take-append-drop (i + 1) edges)) ∙ costs-join ys (take (i + 1) edges) (drop (i + 1) edges)),
          length-append (costs_from ys (take (i + 1) edges)) (costs_from ys (drop (i + 1) edges)),
        )

    pub costs-more : {new : List ℕ} → new ≡ costs ++ line_costs line.weight (between ys line) → new ≡ costs_from ys (take (i + 1) edges)
    costs-more {new} e = e ∙ ap (λ (l : List ℕ). l ++ line_costs line.weight (between ys line)) so_far ∙ sym costs-next

pub costs-all : (ys : List ℕ) (edges : List Edge) {i : ℕ} {costs : List ℕ} → length edges ≤ i → costs ≡ costs_from ys (take i edges) → costs ≡ costs_from ys edges
costs-all ys edges {i} h e = e ∙ ap (costs_from ys) (take_all i edges h)

-- a turn over the ends and weights of lines: what it reads is the line there
module _ (ys : List ℕ) (f : Flat) (i : ℕ) {a b w : ℕ} (h : (i < length f.from.items) × (a ≡ at f.from.items i) × (b ≡ at f.to.items i) × (w ≡ at f.weight.items i)) where
  here : i < length (flat_edges f)
  here = omega (arith, h.0, length-edges_of f.from.items f.to.items f.gap.items f.weight.items)

  line-here : get_or (flat_edges f) i no_edge ≡ record { from = a; to = b; gap = at f.gap.items i; weight = w }
  line-here = edge_at f.from.items f.to.items f.gap.items f.weight.items i h.0 ∙ rw (h.1, h.2, h.3) refl

  pub turn-room : {k : ℕ} → k ≡ at ys b - at ys a - 1 → {costs : List ℕ} → costs ≡ costs_from ys (take i (flat_edges f))
      → length costs + (k + 1) ≤ length (costs_from ys (flat_edges f))
  turn-room {k} e {costs} so_far =
      subst (λ (x : ℕ). length costs + (x + 1) ≤ length (costs_from ys (flat_edges f))) (ap (between ys) line-here ∙ sym e) (costs_room ys (flat_edges f) i here so_far)

  pub turn-more : {k : ℕ} → k ≡ at ys b - at ys a - 1 → {costs new : List ℕ} → costs ≡ costs_from ys (take i (flat_edges f)) → new ≡ costs ++ line_costs w k
      → new ≡ costs_from ys (take (i + 1) (flat_edges f))
  turn-more {k} e {costs} so_far more =
      costs-more ys (flat_edges f) i here so_far (more ∙ ap (λ (l : List ℕ). costs ++ l) (rw (line-here, e) refl))

-- ---- a cost for each segment

pub costs-length : (ys : List ℕ) (d : ℕ) (edges : List Edge) → length (costs_from ys edges) ≡ length (segments_from ys d edges)
unfolding costs_from segments_from
costs-length ys d [] = refl
costs-length ys d (e ∷ edges) =
    simp length-append
    (omega (arith, line-length e.weight (between ys e), chain_length e.from e.to d (between ys e), costs-length ys (d + between ys e) edges))
