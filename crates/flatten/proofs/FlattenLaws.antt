-- Flat lists of one length, one edge more at their end, and loops that copy edges to them.
use mathlib.Core.Path.{◌≡◌, refl, sym, ap, ◌∙◌}
use mathlib.Core.Bool.{Bool, true, false}
use mathlib.Core.List.{List, [], ◌∷◌, ◌++◌}
use Prim.Native.Nat.{ℕ, ◌+◌, ◌≤◌, ◌<◌}
use native.Mathlib.Numerals.{add-one}
use native.Mathlib.Omega.{arith}
use borrow.Author.Tests.{le-leb, lt-leb, leb-true}
use lib.Dec.{leb}
use lib.ListN.{length, get_or, take}
use lib.Seq.{take-suc, length-take-le}
use Rattle.std.proofs.Common.{take_all}
use Rattle.graph.specs.declared.Edge.{Edge}
use Rattle.graph.specs.Rows.{no_edge, Within}
use Rattle.relaxation.specs.Network.{edges_of, Shaped}
use Rattle.relaxation.proofs.EdgesLaws.{length-edges_of, edge_at}
use Rattle.table.specs.Limits.{max_edges}
use Rattle.flatten.specs.Even.{Even}
use Rattle.flatten.specs.Records.{copied}

-- four numbers as an edge
abbrev pub edge : ℕ → ℕ → ℕ → ℕ → Edge
edge f t g w = record { from = f; to = t; gap = g; weight = w }

module _ (f t g w : ℕ) where
  pub edges-push : (from to gap weight : List ℕ) → length to ≡ length from → length gap ≡ length from → length weight ≡ length from
      → edges_of (from ++ f ∷ []) (to ++ t ∷ []) (gap ++ g ∷ []) (weight ++ w ∷ []) ≡ edges_of from to gap weight ++ edge f t g w ∷ []
  unfolding edges_of
  edges-push [] [] [] [] a b c = refl
  edges-push [] [] [] (z ∷ weight) a b c = absurd (omega arith)
  edges-push [] [] (y ∷ gap) weight a b c = absurd (omega arith)
  edges-push [] (x ∷ to) gap weight a b c = absurd (omega arith)
  edges-push (v ∷ from) [] gap weight a b c = absurd (omega arith)
  edges-push (v ∷ from) (x ∷ to) [] weight a b c = absurd (omega arith)
  edges-push (v ∷ from) (x ∷ to) (y ∷ gap) [] a b c = absurd (omega arith)
  edges-push (v ∷ from) (x ∷ to) (y ∷ gap) (z ∷ weight) a b c =
      ap (λ (l : List Edge). edge v x y z ∷ l) (edges-push from to gap weight (omega arith) (omega arith) (omega arith))

-- the fields are as long as the edges are many
pub flat-long : (from to gap weight : List ℕ) → length (edges_of from to gap weight) ≡ length from
flat-long from to gap weight = length-edges_of from to gap weight

-- edges that join n nodes are a network for the solver
pub flat-shaped : (from to gap weight : List ℕ) (n : ℕ) → Even from to gap weight → Within n (edges_of from to gap weight) → Shaped from to gap n
flat-shaped from to gap weight n even within =
    record {
      to_long = even.to_long;
      gap_long = even.gap_long;
      from_in = λ a h. omega (arith, (within a (inside a h)).0, ap (λ (e : Edge). e.from) (edge_at from to gap weight a h));
      to_in = λ a h. omega (arith, (within a (inside a h)).1, ap (λ (e : Edge). e.to) (edge_at from to gap weight a h));
    }
  where
    inside : (a : ℕ) → a < length from → a < length (edges_of from to gap weight)
    inside a h = omega (arith, flat-long from to gap weight)

-- ---- a loop that copies edges: those so far are the first i

module _ (edges flat : List Edge) (i : ℕ) (so_far : flat ≡ take i edges) where
  pub copy-room : i < length edges → length edges ≤ max_edges → length flat < max_edges
  copy-room h few = omega (arith, ap length so_far, length-take-le i edges (omega arith))

  pub copy_more : (e : Edge) (new : List Edge) → i < length edges → e ≡ get_or edges i no_edge → new ≡ flat ++ e ∷ [] → new ≡ take (i + 1) edges
  copy_more e new h same more = more ∙ rw (so_far, same, add-one) (sym (take-suc edges i no_edge h))

  pub copy-all : length edges ≤ i → flat ≡ edges
  copy-all h = so_far ∙ take_all i edges h

-- ---- which are copied

pub copied-few : (edges : List Edge) → length edges ≤ max_edges → copied edges ≡ edges
unfolding copied
copied-few edges h = simp (le-leb (length edges) max_edges h)

pub copied-none : (edges : List Edge) → max_edges < length edges → copied edges ≡ []
unfolding copied
copied-none edges h = simp (lt-leb (length edges) max_edges h)

-- no more than there are, nor than a table can have
pub copied-room : (edges : List Edge) → (length (copied edges) ≤ length edges) × (length (copied edges) ≤ max_edges)
unfolding copied
copied-room edges = go (leb (length edges) max_edges) refl
  where
    go : (b : Bool) → leb (length edges) max_edges ≡ b → (length (copied edges) ≤ length edges) × (length (copied edges) ≤ max_edges)
    go true e = let h = leb-true (length edges) max_edges e in rw e (omega arith, h)
    go false e = rw e (omega arith, omega arith)
