-- The rows of a table's edges, by whether some are soft and whether the must edges have a loop.
use mathlib.Core.Path.{◌≡◌, refl, sym, ap, subst, ◌∙◌}
use mathlib.Core.Bool.{Bool, true, false}
use mathlib.Core.List.{List}
use Prim.Native.Nat.{ℕ, ◌≤◌, ◌<◌}
use native.Mathlib.Omega.{arith}
use lib.ListN.{length, get_or, take, replicate, length-replicate}
use lib.Seq.{ext_get_or, get_or-take, length-take-le}
use Rattle.std.specs.Prelude.{Some, None, Result, Ok, Err}
use Rattle.std.proofs.lemmas.List.{get_or-replicate}
use Rattle.arrayvec.specs.ArrayVec.{ArrayVec}
use Rattle.graph.specs.declared.Edge.{Edge}
use Rattle.graph.specs.declared.TableEdge.{TableEdge}
use Rattle.graph.specs.Search.{rows_of}
use Rattle.graph.specs.Directed.{own_edge, no_table_edge, plain_edges, directed, directed_by}
use Rattle.graph.proofs.DirectedLaws.{directed-length, directed-each}
use Rattle.outcome.specs.declared.Refusal.{Refusal}
use Rattle.outcome.specs.declared.Refusal.TheVariants.{Loop}
use Rattle.outcome.specs.Refusal.{done}
use Rattle.table.specs.Limits.{max_edges}
use Rattle.table.specs.Fair.{FairEdge}
use Rattle.acyclic.specs.Loops.{lowest_on_loop}
use Rattle.acyclic.specs.Oriented.{must_of, any_soft, oriented_edges, turned_edges}
use Rattle.acyclic.proofs.OrientedLaws.{AllApart, oriented-none, firm-plain, firm-turned, firm-must, turned-length, directed-oriented}
use Rattle.orientation.specs.Orientable.{Orientable}
use Rattle.rows.specs.Answers.{rows_found}
use Rattle.rows.specs.declared.types.RowsFound.{RowsFound}
use Rattle.rows.specs.Placed.{FairEdges, Placed, EdgesPlaced}
use Rattle.rows.proofs.PlacedLaws.{loop-free}
use Rattle.layering.specs.Calls.{table_rows_found, RankedBy, EdgesTurned, EdgesRanked}

-- ---- rows that are found

-- they are those of the edges as kept or turned
pub ranked-rows : (n : ℕ) (edges : List TableEdge) {rows : List ℕ} → table_rows_found n edges ≡ done rows → rows ≡ rows_of n (oriented_edges n edges)
unfolding table_rows_found
ranked-rows n edges e = loop-free (lowest_on_loop n (must_of edges)) e

-- ---- flags that are found

-- With the table's flags, and rows of its edges as kept or turned that are the table's, what is found for the edges is what is found for it.
pub ranked-flags : (n : ℕ) (edges : List TableEdge) {flags : List Bool} → flags ≡ turned_edges n edges
    → rows_found n (oriented_edges n edges) ≡ table_rows_found n edges → RankedBy n edges flags
ranked-flags n edges e same =
    record {
      placed = λ r p.
          subst (λ o. Placed n (oriented_edges n edges) o r) same
          (subst (λ l. EdgesPlaced n l r) (ap (λ flags. directed_by flags edges) e ∙ directed-oriented n edges) p);
    }

-- ---- edges within the limits

-- a fair edge is fair whichever way it points
directed-fair : (n : ℕ) (e : Edge) → FairEdge n e → (b : Bool) → FairEdge n (directed b e)
directed-fair n e f false = f
directed-fair n e f true =
    record {
      from_in = f.to_in;
      to_in = f.from_in;
      apart = λ q. f.apart (sym q);
      gap_some = f.gap_some;
      gap_low = f.gap_low;
      weight_low = f.weight_low;
    }

module _ (n : ℕ) (edges : List TableEdge) (fair : Orientable n edges) where
  pub directed-edges-fair : (flags : List Bool) → FairEdges n (directed_by flags edges)
  directed-edges-fair flags =
      record {
        few_steps = fair.few_steps;
        few_edges = subst (λ k. k ≤ max_edges) (sym (directed-length flags edges)) fair.few_edges;
        each = directed-each (FairEdge n) flags edges (λ i h b. directed-fair n (own_edge (get_or edges i no_table_edge)) (fair.each i h) b);
      }

  pub oriented_fair : FairEdges n (oriented_edges n edges)
  oriented_fair = subst (FairEdges n) (directed-oriented n edges) (directed-edges-fair (turned_edges n edges))

  fair-joining : AllApart n edges
  fair-joining i h =
      let f = fair.each i h in record { from_in = f.from_in; to_in = f.to_in; apart = λ q. f.apart (sym q) }

  -- ---- no soft edge: the search for a loop that finding rows begins with looks at the must edges, which are all

  module _ (firm : any_soft edges ≡ false) where
    -- so a table's rows are then those of its edges as they are, found as for lent edges
    pub firm-rows : rows_found n (plain_edges edges) ≡ table_rows_found n edges
    unfolding rows_found table_rows_found
    firm-rows = rw (firm-plain n edges firm, firm-must edges firm)

    firm-found : rows_found n (oriented_edges n edges) ≡ table_rows_found n edges
    firm-found = ap (rows_found n) (firm-plain n edges firm) ∙ firm-rows

    -- no flag is set
    firm-flags : take (length edges) (replicate max_edges false) ≡ turned_edges n edges
    firm-flags =
        ext_get_or false _ _ (length-take-le (length edges) (replicate max_edges false) (omega (arith, fair.few_edges, length-replicate {A = Bool} max_edges false)) ∙ sym (turned-length n edges))
        (λ i h. unset i (omega (arith, length-take-le (length edges) (replicate max_edges false) (omega (arith, fair.few_edges, length-replicate {A = Bool} max_edges false)))) ∙ sym (firm-turned n edges firm i))
      where
        unset : (i : ℕ) → i < length edges → get_or (take (length edges) (replicate max_edges false)) i false ≡ false
        unset i h = get_or-take (length edges) (replicate max_edges false) i false h ∙ get_or-replicate max_edges i false false (omega (arith, fair.few_edges))

    -- with no flag set, what is found for the edges is what is found for the table's
    pub ranked-firm : (r : Result RowsFound Refusal) → EdgesPlaced n (directed_by (take (length edges) (replicate max_edges false)) edges) r
        → (take (length edges) (replicate max_edges false) ≡ turned_edges n edges) × Placed n (oriented_edges n edges) (table_rows_found n edges) r
    ranked-firm r p = (firm-flags, (ranked-flags n edges firm-flags firm-found).placed r p)

    -- so with these flags they are ranked as the table's are to be
    pub turned-firm : {all turned : ArrayVec Bool} → all.items ≡ replicate max_edges false → turned.items ≡ take (length edges) all.items → EdgesTurned n edges (Ok turned)
    turned-firm {all} {turned} e f =
        let flags = f ∙ ap (take (length edges)) e in
        (flags ∙ firm-flags, (firm-found, subst (RankedBy n edges) (sym flags) (record { placed = λ r p. (ranked-firm r p).1 })))

  -- ---- a loop of must edges

  pub turned-loop : {s : ℕ} → lowest_on_loop n (must_of edges) ≡ Some s → EdgesTurned n edges (Err (Loop s))
  unfolding table_rows_found
  turned-loop {s} e = rw e refl

  -- ---- none: the edges as kept or turned have no loop either

  module _ (free : lowest_on_loop n (must_of edges) ≡ None) where
    soft-found : rows_found n (oriented_edges n edges) ≡ table_rows_found n edges
    unfolding rows_found table_rows_found
    soft-found = rw (oriented-none n edges fair-joining free, free)

    pub turned-soft : (turned : ArrayVec Bool) → turned.items ≡ turned_edges n edges → EdgesTurned n edges (Ok turned)
    turned-soft turned e = (e, (soft-found, ranked-flags n edges e soft-found))

  -- ---- what is found for the edges with the flags that were found

  pub ranked-loop : {f : Refusal} → EdgesTurned n edges (Err f) → EdgesRanked n edges (Err f)
  ranked-loop e = record { says = sym e; placed = tt }

  module _ {turned : ArrayVec Bool} (p : EdgesTurned n edges (Ok turned)) where
    pub turned-long : length turned.items ≡ length edges
    turned-long = ap length p.0 ∙ turned-length n edges

    pub ranked-refused : {f : Refusal} → EdgesPlaced n (directed_by turned.items edges) (Err f) → EdgesRanked n edges (Err f)
    ranked-refused {f} k = p.1.1.placed (Err f) k

    pub ranked-found : {found : RowsFound} → EdgesPlaced n (directed_by turned.items edges) (Ok found)
        → EdgesRanked n edges (Ok (record { turned = turned; found = found }))
    ranked-found {found} k = (p.0, p.1.1.placed (Ok found) k)
