-- A table's edges as they are drawn: what merging them asks for is there, and what it answers are the edges of the chart.
use mathlib.Core.Path.{◌≡◌, sym, ap, ◌∙◌, subst}
use mathlib.Core.Bool.{Bool, true, false}
use mathlib.Core.List.{List, [], ◌∷◌, ◌++◌}
use Prim.Native.Nat.{ℕ, ◌+◌, ◌≤◌, ◌<◌}
use native.Mathlib.Omega.{arith}
use lib.ListN.{length, get_or, take}
use Rattle.graph.specs.declared.Edge.{Edge}
use Rattle.graph.specs.declared.TableEdge.{TableEdge}
use Rattle.graph.specs.Directed.{own_edge, no_table_edge, directed, directed_by}
use Rattle.graph.proofs.DirectedLaws.{directed-length, directed-get}
use Rattle.table.specs.Limits.{max_steps, max_edges}
use Rattle.table.specs.Fair.{FairEdge}
use Rattle.table.specs.Table.{Contents}
use Rattle.acyclic.proofs.OrientedLaws.{directed-oriented}
use Rattle.rows.specs.Placed.{FairEdges}
use Rattle.layering.specs.Calls.{oriented_in, turned_in}
use Rattle.flatten.proofs.FlattenLaws.{copy-room, copy_more, copy-all}
use Rattle.merging.specs.declared.MergedEdge.{MergedEdge}
use Rattle.merging.specs.Merged.{no_merged_edge, merged, drawn_edge, drawn_edges}
use Rattle.merging.specs.Merging.{Mergeable}
use Rattle.merging.proofs.FirstLaws.{merged-first, merged-few}
use Rattle.merging.proofs.SameLaws.{drawn-length, drawn-get}
use Rattle.merging.proofs.EndsLaws.{EndsAmong, drawn-ends}
use Rattle.ordering.specs.Calls.{drawn_in}

-- ---- what merging asks for

-- an edge that is fair as its flag says is fair as it is
fair-own : (n : ℕ) (b : Bool) (e : Edge) → n ≤ max_steps → FairEdge n (directed b e) → FairEdge max_steps e
fair-own n true e few f =
    record {
      from_in = omega (arith, f.to_in);
      to_in = omega (arith, f.from_in);
      apart = λ s. f.apart (sym s);
      gap_some = f.gap_some;
      gap_low = f.gap_low;
      weight_low = f.weight_low;
    }
fair-own n false e few f =
    record {
      from_in = omega (arith, f.from_in);
      to_in = omega (arith, f.to_in);
      apart = f.apart;
      gap_some = f.gap_some;
      gap_low = f.gap_low;
      weight_low = f.weight_low;
    }

pub mergeable : (flags : List Bool) (edges : List TableEdge) (n : ℕ) → FairEdges n (directed_by flags edges) → Mergeable edges
mergeable flags edges n fair =
    record {
      few = omega (arith, fair.few_edges, directed-length flags edges);
      each = λ i h.
          fair-own n (get_or flags i false) (own_edge (get_or edges i no_table_edge)) fair.few_steps
          (subst (FairEdge n) (directed-get flags edges i h) (fair.each i (omega (arith, directed-length flags edges))));
    }

-- ---- the merged edges, each as its first edge

module _ (edges : List TableEdge) {list : List MergedEdge} (is : list ≡ merged edges) (i : ℕ) (h : i < length list) where
  pub first-in : (get_or list i no_merged_edge).first < length edges
  first-in = rw is (merged-first edges i (rw is at h)).inside

  -- an edge that is drawn is one more
  pub drawn-more : (flags : List Bool) {flat new : List Edge} {e : Edge} → flat ≡ take i (drawn_edges flags (merged edges))
      → e ≡ drawn_edge flags (get_or list i no_merged_edge) → new ≡ flat ++ e ∷ [] → new ≡ take (i + 1) (drawn_edges flags (merged edges))
  drawn-more flags {flat} {new} {e} so_far same more =
      copy_more (drawn_edges flags (merged edges)) flat i so_far e new (omega (arith, drawn-length flags (merged edges), ap length is))
      (rw is at same ∙ sym (drawn-get flags (merged edges) i (rw is at h))) more

  pub drawn-room : (flags : List Bool) {flat : List Edge} → length edges ≤ max_edges → flat ≡ take i (drawn_edges flags (merged edges)) → length flat < max_edges
  drawn-room flags {flat} few so_far =
      copy-room (drawn_edges flags (merged edges)) flat i so_far (omega (arith, drawn-length flags (merged edges), ap length is))
      (omega (arith, drawn-length flags (merged edges), merged-few edges))

pub drawn-all : (edges : List TableEdge) {list : List MergedEdge} → list ≡ merged edges → {i : ℕ} → length list ≤ i → (flags : List Bool) {flat : List Edge}
    → flat ≡ take i (drawn_edges flags (merged edges)) → flat ≡ drawn_edges flags (merged edges)
drawn-all edges {list} is {i} h flags {flat} so_far =
    copy-all (drawn_edges flags (merged edges)) flat i so_far (omega (arith, drawn-length flags (merged edges), ap length is))

-- ---- the edges of a table's chart

module _ (t : Contents) where
  pub drawn-among : EndsAmong (oriented_in t) (drawn_in t)
  drawn-among = subst (λ (l : List Edge). EndsAmong l (drawn_in t)) (directed-oriented (length t.steps) t.edges) (drawn-ends (turned_in t) t.edges)
