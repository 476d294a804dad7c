-- A table's edges that are drawn as one are all kept or all turned, where its must edges have no loop. So rows are feasible for the merged
-- edges exactly where they are for the edges as kept or turned, totals are equal, and the best rows are the same.
use mathlib.Core.Path.{◌≡◌, refl, sym, ap, ◌∙◌, subst}
use mathlib.Core.Bool.{Bool, true, false}
use mathlib.Core.List.{List}
use mathlib.Core.Logic.{◌↔◌}
use Prim.Native.Nat.{ℕ, ◌<◌}
use native.Mathlib.Omega.{arith}
use lib.ListN.{length, get_or, length-map, get_or-map}
use Rattle.graph.specs.declared.Edge.{Edge}
use Rattle.graph.specs.declared.TableEdge.{TableEdge}
use Rattle.graph.specs.Rows.{no_edge, total, Feasible, Best}
use Rattle.graph.specs.Directed.{own_edge, no_table_edge, turn}
use Rattle.acyclic.specs.Loops as loops
use Rattle.acyclic.specs.Loops.{Walk, LoopFree}
use Rattle.acyclic.specs.Oriented.{OrientedEdge, no_oriented_edge, must_of, oriented, oriented_edges, turned_edges}
use Rattle.acyclic.proofs.OrientedLaws.{AllApart, oriented-free, oriented-length, oriented-kept, oriented-turned, directed-oriented}
use Rattle.merging.specs.Merged.{alike, merged, drawn_edges}
use Rattle.merging.proofs.AlikeLaws.{has-ends, alike-swap}
use Rattle.merging.proofs.SameLaws.{Agreeing, feasible-merged, merged-feasible}
use Rattle.merging.proofs.TotalLaws.{total-merged, best-merged, merged-best}

-- two edges that lead to each other are a loop
loop-two : (edges : List Edge) (i j : ℕ) → i < length edges → j < length edges → (get_or edges i no_edge).to ≡ (get_or edges j no_edge).from
    → (get_or edges j no_edge).to ≡ (get_or edges i no_edge).from → LoopFree edges → ⊥
loop-two edges i j l m there back free =
    let start = (get_or edges i no_edge).from in
    free.free start (subst (λ (v : ℕ). Walk edges start v) back (loops.more j m (subst (λ (v : ℕ). Walk edges start v) there (loops.one i l refl))))

module _ (n : ℕ) (edges : List TableEdge) (apart : AllApart n edges) (free : LoopFree (must_of edges)) where
  abbrev given : ℕ → OrientedEdge
  given i = get_or (oriented n edges) i no_oriented_edge

  flag_at : (i : ℕ) → get_or (turned_edges n edges) i false ≡ (given i).turned
  flag_at i = get_or-map (λ (e : OrientedEdge). e.turned) (oriented n edges) i no_oriented_edge

  edge_at : (i : ℕ) → get_or (oriented_edges n edges) i no_edge ≡ (given i).edge
  edge_at i = get_or-map (λ (e : OrientedEdge). e.edge) (oriented n edges) i no_oriented_edge

  count : length (oriented_edges n edges) ≡ length edges
  count = length-map (oriented n edges) (λ (e : OrientedEdge). e.edge) ∙ oriented-length n edges

  module _ (i j : ℕ) (l : i < length edges) (m : j < length edges) (h : alike (get_or edges i no_table_edge) (get_or edges j no_table_edge) ≡ true) where
    -- one kept beside one turned would be a loop of the edges as kept or turned
    kept-turned : (given i).turned ≡ false → (given j).turned ≡ true → ⊥
    kept-turned k t =
        let e = get_or edges i no_table_edge in
        let ends = has-ends e.from e.to e.soft (get_or edges j no_table_edge) h in
        let up : get_or (oriented_edges n edges) i no_edge ≡ own_edge e = edge_at i ∙ oriented-kept n edges i l k in
        let down : get_or (oriented_edges n edges) j no_edge ≡ turn (own_edge (get_or edges j no_table_edge)) = edge_at j ∙ oriented-turned n edges j m t in
        loop-two (oriented_edges n edges) i j (omega (arith, count)) (omega (arith, count))
        (ap (λ (x : Edge). x.to) up ∙ ends.head ∙ sym (ap (λ (x : Edge). x.from) down))
        (ap (λ (x : Edge). x.to) down ∙ sym ends.tail ∙ sym (ap (λ (x : Edge). x.from) up)) (oriented-free n edges apart free)

  pub turned-alike : (i j : ℕ) → i < length edges → j < length edges → alike (get_or edges i no_table_edge) (get_or edges j no_table_edge) ≡ true
      → get_or (turned_edges n edges) i false ≡ get_or (turned_edges n edges) j false
  turned-alike i j l m h = flag_at i ∙ go (given i).turned (given j).turned refl refl ∙ sym (flag_at j)
    where
      go : (a b : Bool) → (given i).turned ≡ a → (given j).turned ≡ b → a ≡ b
      go true true p q = refl
      go false false p q = refl
      go false true p q = absurd (kept-turned i j l m h p q)
      go true false p q = absurd (kept-turned j i m l (sym (alike-swap (get_or edges i no_table_edge) (get_or edges j no_table_edge)) ∙ h) q p)

  pub turned-agreeing : Agreeing (turned_edges n edges) edges
  turned-agreeing = record { agree = turned-alike }

  -- ---- rows

  abbrev lines : List Edge
  lines = drawn_edges (turned_edges n edges) (merged edges)

  pub same-feasible : (y : ℕ → ℕ) → Feasible (oriented_edges n edges) y ↔ Feasible lines y
  same-feasible y = (
    λ f. feasible-merged (turned_edges n edges) edges turned-agreeing y (subst (λ (l : List Edge). Feasible l y) (sym (directed-oriented n edges)) f),
    λ f. subst (λ (l : List Edge). Feasible l y) (directed-oriented n edges) (merged-feasible (turned_edges n edges) edges turned-agreeing y f),
  )

  pub same_total : (y : ℕ → ℕ) → total lines y ≡ total (oriented_edges n edges) y
  same_total y = total-merged (turned_edges n edges) y edges turned-agreeing ∙ ap (λ (l : List Edge). total l y) (directed-oriented n edges)

  pub same-best : (ys : List ℕ) → Best n (oriented_edges n edges) ys ↔ Best n lines ys
  same-best ys = (
    λ b. best-merged (turned_edges n edges) edges turned-agreeing n ys (subst (λ (l : List Edge). Best n l ys) (sym (directed-oriented n edges)) b),
    λ b. subst (λ (l : List Edge). Best n l ys) (directed-oriented n edges) (merged-best (turned_edges n edges) edges turned-agreeing n ys b),
  )
