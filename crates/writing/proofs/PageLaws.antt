-- A table put on a page: the edition, the steps and the edges one behind the other, for which there is room.
use mathlib.Core.Path.{◌≡◌, refl, ap, ◌∙◌}
use mathlib.Core.List.{List, ◌++◌}
use Prim.Native.Nat.{ℕ, ◌≤◌}
use native.Mathlib.Omega.{arith}
use lib.ListN.{length, get_or, length-append}
use Rattle.graph.specs.declared.Edge.{Edge}
use Rattle.graph.specs.Directed.{no_table_edge, own_edge}
use Rattle.table.specs.Limits.{max_steps}
use Rattle.table.specs.Table.{Contents}
use Rattle.table.specs.Fair.{FairEdge, Fair}
use Rattle.labels.proofs.PageLaws.{Parts}
use Rattle.encoding.specs.Limits.{max_shortest}
use Rattle.encoding.specs.Said.{said}
use Rattle.encoding.specs.Shortest.{short_number, short_step, edition_for, short_edge, short_list, shortest}
use Rattle.encoding.specs.Writable.{WritableSteps, WritableEdges}
use Rattle.encoding.proofs.ShortLaws.{bytes_one}
use Rattle.encoding.proofs.PutLaws.{table-parts}
use Rattle.encoding.proofs.BoundLaws.{steps-bytes, edges-bytes, edition-low}

-- the limits of an edge in a table of n steps are those in a table of more
more-steps : (n k : ℕ) (e : Edge) → n ≤ k → FairEdge n e → FairEdge k e
more-steps n k e h f =
    record {
      from_in = omega (arith, f.from_in);
      to_in = omega (arith, f.to_in);
      apart = f.apart;
      gap_some = f.gap_some;
      gap_low = f.gap_low;
      weight_low = f.weight_low;
    }

module _ {bytes : List ℕ} {c : Contents} (fair : Fair bytes c) where
  -- what writing the lists asks for
  pub writable-steps : WritableSteps bytes c.steps
  writable-steps = record { few = fair.few_steps; each_step = fair.each_step }

  pub writable-edges : WritableEdges c.edges
  writable-edges =
      record {
        few = fair.few_edges;
        each_edge = λ i h. more-steps (length c.steps) max_steps (own_edge (get_or c.edges i no_table_edge)) fair.few_steps (fair.each_edge i h);
      }

  -- and how many bytes they have at most
  pub edition-bytes : length (short_number (edition_for c.edges)) ≡ 1
  edition-bytes = bytes_one (edition_for c.edges) (omega (arith, edition-low c.edges))

  pub fair-bytes : length (shortest (said bytes c)) ≤ max_shortest
  fair-bytes =
      let w = said bytes c in
      let edition = edition_for w.edges in
      let a = short_number edition in
      let b = short_list short_step w.steps in
      let d = short_list (short_edge edition) w.edges in
      let whole = ap length (table-parts w).is ∙ length-append (a ++ b) d in
      omega (arith, whole, length-append a b, edition-bytes, steps-bytes bytes c.steps writable-steps, edges-bytes edition c.edges writable-edges)

-- two texts one behind the other
pub front-parts : (a b : List ℕ) → Parts (a ++ b) a b
front-parts a b = record { is = refl }
