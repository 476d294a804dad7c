-- The fields of edges in flat lists.
use mathlib.Core.Path.{◌≡◌, refl, sym, ap, ◌∙◌}
use mathlib.Core.List.{List, [], ◌∷◌, map}
use Prim.Native.Nat.{ℕ}
use native.Mathlib.Omega.{arith}
use lib.ListN.{length}
use Rattle.graph.specs.declared.Edge.{Edge}
use Rattle.relaxation.specs.Network.{edges_of}
use Rattle.flatten.specs.Flat.{Flat}
use Rattle.flatten.specs.Flat.{flat_edges}
use Rattle.points.proofs.PointLaws.{tails, heads}

abbrev pub weights : List Edge → List ℕ
weights edges = map (λ (e : Edge). e.weight) edges

froms : (from to gap weight : List ℕ) → tails (edges_of from to gap weight) ≡ from
unfolding edges_of
froms [] to gap weight = refl
froms (f ∷ from) to gap weight = ap (λ (l : List ℕ). f ∷ l) (froms from _ _ _)

tos : (from to gap weight : List ℕ) → length to ≡ length from → heads (edges_of from to gap weight) ≡ to
unfolding edges_of
tos [] [] gap weight e = refl
tos [] (t ∷ to) gap weight e = absurd (omega arith)
tos (f ∷ from) [] gap weight e = absurd (omega arith)
tos (f ∷ from) (t ∷ to) gap weight e = ap (λ (l : List ℕ). t ∷ l) (tos from to _ _ (omega arith))

costs : (from to gap weight : List ℕ) → length weight ≡ length from → weights (edges_of from to gap weight) ≡ weight
unfolding edges_of
costs [] to gap [] e = refl
costs [] to gap (w ∷ weight) e = absurd (omega arith)
costs (f ∷ from) to gap [] e = absurd (omega arith)
costs (f ∷ from) to gap (w ∷ weight) e = ap (λ (l : List ℕ). w ∷ l) (costs from _ _ weight (omega arith))

module _ (f : Flat) {edges : List Edge} (e : flat_edges f ≡ edges) where
  pub flat-tails : f.from.items ≡ tails edges
  flat-tails = sym (froms f.from.items f.to.items f.gap.items f.weight.items) ∙ ap tails e

  pub flat-heads : f.to.items ≡ heads edges
  flat-heads = sym (tos f.from.items f.to.items f.gap.items f.weight.items f.even.to_long) ∙ ap heads e

  pub flat-weights : f.weight.items ≡ weights edges
  flat-weights = sym (costs f.from.items f.to.items f.gap.items f.weight.items f.even.weight_long) ∙ ap weights e
