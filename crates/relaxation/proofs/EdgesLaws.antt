-- The edges that four flat lists write down: how many, which, and what a flow carries over them.
use mathlib.Core.Path.{◌≡◌, refl, ap}
use mathlib.Core.List.{List, [], ◌∷◌, tail}
use Prim.Native.Nat.{ℕ, zero, suc, ◌+◌, ◌*◌, ◌<◌}
use native.Mathlib.Nat.{not-suc-le-zero, le_of_suc-le-suc}
use native.Mathlib.Omega.{arith}
use lib.ListN.{length, get_or}
use Rattle.graph.specs.Rows.{no_edge, at}
use Rattle.relaxation.specs.Certificate.{flux}
use Rattle.relaxation.specs.Network.{edges_of}
use Rattle.graph.proofs.FlowLaws.{dot, weights}
use Rattle.buffers.proofs.ListLaws.{at_tail}

pub length-edges_of : (from to gap weight : List ℕ) → length (edges_of from to gap weight) ≡ length from
unfolding edges_of
length-edges_of [] to gap weight = refl
length-edges_of (f ∷ from) to gap weight = ap suc (length-edges_of from (tail to) (tail gap) (tail weight))

pub edge_at : (from to gap weight : List ℕ) (i : ℕ) → i < length from
    → get_or (edges_of from to gap weight) i no_edge ≡ record { from = at from i; to = at to i; gap = at gap i; weight = at weight i }
unfolding edges_of
edge_at [] to gap weight i h = absurd (not-suc-le-zero h)
edge_at (f ∷ from) to gap weight zero h = refl
edge_at (f ∷ from) to gap weight (suc i) h =
    rw (edge_at from (tail to) (tail gap) (tail weight) i (le_of_suc-le-suc h)) (simp at_tail)

pub flux-into : (f from to gap weight : List ℕ) (z : ℕ → ℕ) → length f ≡ length from
    → dot f (λ e. z e.to) (edges_of from to gap weight) ≡ flux f to z
unfolding dot edges_of flux
flux-into [] from to gap weight z e = refl
flux-into (x ∷ f) [] to gap weight z e = absurd (omega arith)
flux-into (x ∷ f) (a ∷ from) to gap weight z e =
    ap (λ (k : ℕ). x * z (at to 0) + k) (flux-into f from (tail to) (tail gap) (tail weight) z (omega arith))

pub flux-outof : (f from to gap weight : List ℕ) (z : ℕ → ℕ) → length f ≡ length from
    → dot f (λ e. z e.from) (edges_of from to gap weight) ≡ flux f from z
unfolding dot edges_of flux
flux-outof [] from to gap weight z e = refl
flux-outof (x ∷ f) [] to gap weight z e = absurd (omega arith)
flux-outof (x ∷ f) (a ∷ from) to gap weight z e =
    ap (λ (k : ℕ). x * z a + k) (flux-outof f from (tail to) (tail gap) (tail weight) z (omega arith))

pub weights-are : (from to gap weight : List ℕ) → length weight ≡ length from → weights (edges_of from to gap weight) ≡ weight
unfolding edges_of
weights-are [] to gap [] e = refl
weights-are [] to gap (x ∷ weight) e = absurd (omega arith)
weights-are (a ∷ from) to gap [] e = absurd (omega arith)
weights-are (a ∷ from) to gap (x ∷ weight) e = ap (λ (l : List ℕ). x ∷ l) (weights-are from (tail to) (tail gap) weight (omega arith))
