-- From a table with its rows to the page: what laying its dummies and printing its rows ask for is there, and line one with the lines of
-- the rows is the listing.
use mathlib.Core.Path.{◌≡◌, refl, sym, ap, ◌∙◌}
use mathlib.Core.List.{List, [], ◌∷◌, ◌++◌, flatten}
use Prim.Native.Nat.{ℕ, ◌+◌, ◌≤◌, ◌<◌}
use native.Mathlib.Omega.{arith}
use lib.ListN.{length, get_or, length-append, length-map}
use Rattle.graph.specs.declared.Edge.{Edge}
use Rattle.graph.specs.Rows.{at, total, Best}
use Rattle.acyclic.proofs.OrientedLaws.{turned-length}
use Rattle.table.specs.Table.{Contents}
use Rattle.table.specs.Fair.{Fair}
use Rattle.merging.specs.declared.MergedEdge.{MergedEdge}
use Rattle.merging.specs.Merged.{no_merged_edge, merged}
use Rattle.merging.proofs.FirstLaws.{merged-first}
use Rattle.merging.proofs.SameLaws.{drawn-length}
use Rattle.merging.proofs.EndsLaws.{EndsAmong}
use Rattle.rows.specs.Placed.{FairEdges}
use Rattle.layering.specs.Calls.{oriented_in, turned_in}
use Rattle.points.specs.declared.dummy.Dummy.{Dummy}
use Rattle.points.specs.Limits.{max_points}
use Rattle.points.specs.Points.{dummies, point_rows, row_count}
use Rattle.fewest.specs.Fewest.{Drawing, drawing_of}
use Rattle.fewest.proofs.CompleteLaws.{drawing-count, drawing-points}
use Rattle.ordering.specs.Calls.{drawn_in, Placing, point_count}
use Rattle.ordering.proofs.DrawnLaws.{drawn-among}
use Rattle.labels.specs.Labels.{Labelled, label_text}
use Rattle.labels.proofs.PageLaws.{Parts}
use Rattle.lines.specs.Printing.{lines_from, numbered, dummy_rows, Layable, Printable}
use Rattle.lines.proofs.LayLaws.{numbered-count}
use Rattle.lines.proofs.OwnerLaws.{numbers-below}
use Rattle.listing.specs.Listing.{head_text, dummies_in, chart_text}
use Rattle.listing.proofs.RowLineLaws.{drawing-lines}

-- numbering leaves the rows
rows-numbered : (list : List MergedEdge) (ds : List Dummy) → dummy_rows (numbered list ds) ≡ dummy_rows ds
unfolding numbered
rows-numbered list [] = refl
rows-numbered list (d ∷ ds) = ap (λ l. d.row ∷ l) (rows-numbered list ds)

-- a table that was read and has rows: its edges as kept or turned are fair and lead down, and its points are few
pub record Printed (bytes : List ℕ) (p : Placing) : Type 0 where
  pub fair : Fair bytes p.contents
  pub fair_edges : FairEdges (length p.contents.steps) (oriented_in p.contents)
  pub best : Best (length p.contents.steps) (oriented_in p.contents) p.rows
  pub few : point_count p.rows (drawn_in p.contents) ≤ max_points

module _ {bytes : List ℕ} {p : Placing} (h : Printed bytes p) where
  abbrev contents : Contents
  contents = p.contents

  -- the edges as they are drawn, and their dummies
  abbrev edges : List Edge
  edges = drawn_in contents

  abbrev ds : List Dummy
  ds = dummies_in p

  abbrev drawing : Drawing
  drawing = drawing_of p.rows edges

  -- those that are drawn have the ends of the edges as kept or turned
  among : EndsAmong (oriented_in contents) edges
  among = drawn-among contents

  drawn-count : length (merged contents.edges) ≡ length edges
  drawn-count = sym (drawn-length (turned_in contents) (merged contents.edges))

  first-in : (i : ℕ) → i < length (merged contents.edges) → (get_or (merged contents.edges) i no_merged_edge).first < length (turned_in contents)
  first-in i l = omega (arith, (merged-first contents.edges i l).inside, turned-length (length contents.steps) contents.edges)

  -- the points are the steps and the dummies
  points-are : point_rows p.rows edges ≡ p.rows ++ dummy_rows ds
  unfolding point_rows
  points-are = ap (λ l. p.rows ++ l) (sym (rows-numbered (merged contents.edges) (dummies p.rows 0 edges)))

  point-total : point_count p.rows edges ≡ length p.rows + length ds
  point-total = ap length points-are ∙ length-append p.rows (dummy_rows ds) ∙ ap (λ k. length p.rows + k) (length-map ds (λ (d : Dummy). d.row))

  pub page-layable : Layable (merged contents.edges) (turned_in contents) p.rows max_points
  page-layable =
      record {
        firsts = first-in;
        from_in = λ i l. let k : i < length edges = omega (arith, drawn-count) in
            omega (arith, among.tail i k, (h.fair_edges.each (among.source i) (among.inside i k)).from_in, h.best.one_a_node);
        to_in = λ i l. let k : i < length edges = omega (arith, drawn-count) in
            omega (arith, among.head i k, (h.fair_edges.each (among.source i) (among.inside i k)).to_in, h.best.one_a_node);
        down = λ i l. let k : i < length edges = omega (arith, drawn-count) in
            rw (among.tail i k, among.head i k)
            (omega (arith, h.best.feasible (among.source i) (among.inside i k), (h.fair_edges.each (among.source i) (among.inside i k)).gap_some));
        room = omega (arith, point-total, h.few, numbered-count (merged contents.edges) (dummies p.rows 0 edges));
      }

  pub page-labelled : Labelled bytes contents.steps ds (turned_in contents)
  page-labelled =
      record {
        names = λ i l. (h.fair.each_step i l).inside;
        flags = numbers-below (length (turned_in contents)) (merged contents.edges) p.rows edges (λ k l. first-in k (omega (arith, drawn-count)));
      }

  pub page-printable : Printable (length contents.steps) (length ds) p.rows (flatten drawing.order)
  page-printable =
      record {
        one_a_step = h.best.one_a_node;
        points =
            record {
              below = λ i l. let k : i < length (point_rows p.rows edges) = omega (arith, drawing-count p.rows edges) in
                  omega (arith, drawing-points p.rows edges i k, point-total);
            };
      }

  -- line one, and the lines of the rows
  abbrev pub head : List ℕ
  head = head_text (length contents.steps) (length contents.edges) (row_count p.rows) (total (oriented_in contents) (at p.rows)) drawing.crossings

  abbrev pub lines : List ℕ
  lines = lines_from (label_text bytes contents.steps ds (turned_in contents)) (p.rows ++ dummy_rows ds) 0 (row_count p.rows) (flatten drawing.order)

  pub page-parts : Parts (chart_text bytes p) head lines
  unfolding chart_text
  page-parts =
      record {
        is = ap (λ l. head ++ l)
            (sym (drawing-lines (label_text bytes contents.steps ds (turned_in contents)) p.rows edges)
            ∙ ap (λ rows. lines_from (label_text bytes contents.steps ds (turned_in contents)) rows 0 (row_count p.rows) (flatten drawing.order)) points-are);
      }
