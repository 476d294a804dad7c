-- The rows that the trial of all placements finds for merged edges are those that it finds for the edges.
use mathlib.Core.Path.{◌≡◌, refl, sym, ap, ◌∙◌, subst}
use mathlib.Core.Bool.{Bool, true, false}
use mathlib.Core.List.{List}
use Prim.Native.Nat.{ℕ, ◌-◌, ◌≤◌, ◌<◌}
use native.Mathlib.Nat.{le_trans, mul-le-mul_left}
use native.Mathlib.Omega.{arith}
use lib.ListN.{length, get_or}
use Rattle.graph.specs.declared.Edge.{Edge}
use Rattle.graph.specs.declared.TableEdge.{TableEdge}
use Rattle.graph.specs.Rows.{no_edge, Best, Within}
use Rattle.graph.specs.Search.{widest, rows_of}
use Rattle.graph.specs.Directed.{own_edge, no_table_edge, directed, directed_by}
use Rattle.graph.proofs.BoundLaws.{gap-le-widest, widest-le}
use Rattle.graph.proofs.DirectedLaws.{directed-length, directed-get}
use Rattle.graph.proofs.PlacementLaws.{rows-low}
use Rattle.graph.proofs.SearchLaws.{bounded-is-rows_of}
use Rattle.acyclic.specs.Loops.{LoopFree}
use Rattle.acyclic.specs.Oriented.{must_of, oriented_edges, turned_edges}
use Rattle.acyclic.proofs.OrientedLaws.{AllApart, oriented-within, directed-oriented}
use Rattle.merging.specs.Merged.{no_merged_edge, merged, as_edge, drawn_edges}
use Rattle.merging.proofs.SameLaws.{Agreeing, drawn-length, drawn-get, drawn-as, gap-drawn}
use Rattle.merging.proofs.TotalLaws.{best-merged}
use Rattle.merging.proofs.EndsLaws.{drawn-ends}
use Rattle.merging.proofs.TurnedLaws.{turned-agreeing}

gap_of : (b : Bool) (e : Edge) → (directed b e).gap ≡ e.gap
gap_of true e = refl
gap_of false e = refl

module _ (flags : List Bool) (edges : List TableEdge) (a : Agreeing flags edges) (n : ℕ) where
  abbrev all : List Edge
  all = directed_by flags edges

  abbrev lines : List Edge
  lines = drawn_edges flags (merged edges)

  lines-within : Within n all → Within n lines
  lines-within w k h =
      let s = drawn-ends flags edges in
      let p = w (s.source k) (s.inside k h) in
      (omega (arith, s.tail k h, p.0), omega (arith, s.head k h, p.1))

  -- each edge's gap is one that a merged edge has at least
  widest-same : widest all ≤ widest lines
  widest-same = widest-le all (widest lines) each
    where
      each : (j : ℕ) → j < length all → (get_or all j no_edge).gap ≤ widest lines
      each j h =
          let inside : j < length edges = omega (arith, directed-length flags edges) in
          let d = drawn-as edges j inside in
          let line = get_or (merged edges) d.place no_merged_edge in
          let there : d.place < length lines = omega (arith, drawn-length flags (merged edges), d.inside) in
          omega (
            arith,
            ap (λ (e : Edge). e.gap) (directed-get flags edges j inside),
            gap_of (get_or flags j false) (own_edge (get_or edges j no_table_edge)),
            gap-drawn flags edges a j inside d,
            gap_of (get_or flags line.first false) (as_edge line),
            ap (λ (e : Edge). e.gap) (drawn-get flags (merged edges) d.place d.inside),
            gap-le-widest lines d.place there,
          )

  -- The best rows of the edges are the best of the merged ones, and low enough to be among the placements that are tried for these, since the
  -- widest gap is no smaller; the trial finds the best rows where it tries them.
  pub same_rows : Within n all → Best n all (rows_of n all) → rows_of n lines ≡ rows_of n all
  same_rows w b =
      bounded-is-rows_of n lines (rows_of n all) (lines-within w) (λ i h. le_trans (rows-low n all i) (mul-le-mul_left (n - 1) widest-same))
      (best-merged flags edges a n (rows_of n all) b)

-- of a table's edges as they are kept or turned
pub drawn-rows : (n : ℕ) (edges : List TableEdge) → AllApart n edges → LoopFree (must_of edges)
    → Best n (oriented_edges n edges) (rows_of n (oriented_edges n edges))
    → rows_of n (drawn_edges (turned_edges n edges) (merged edges)) ≡ rows_of n (oriented_edges n edges)
drawn-rows n edges apart free b =
    same_rows (turned_edges n edges) edges (turned-agreeing n edges apart free) n
    (subst (λ (l : List Edge). Within n l) (sym (directed-oriented n edges)) (oriented-within n edges apart))
    (subst (λ (l : List Edge). Best n l (rows_of n l)) (sym (directed-oriented n edges)) b)
    ∙ ap (λ (l : List Edge). rows_of n l) (directed-oriented n edges)
