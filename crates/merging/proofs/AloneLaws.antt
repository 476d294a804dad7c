-- Edges of which no two are drawn as one are drawn as they were.
use mathlib.Core.Path.{◌≡◌, refl, sym, ap, ◌∙◌}
use mathlib.Core.Bool.{Bool, true, false, cond}
use mathlib.Core.List.{List, [], ◌∷◌, ◌++◌, map}
use Prim.Native.Nat.{ℕ, zero, suc, ◌<◌, suc-le-suc}
use native.Mathlib.Nat.{zero-lt-suc}
use native.Mathlib.Omega.{arith}
use lib.ListN.{length, get_or, length-append, get_or-append}
use lib.Seq.{get_or-append_seam}
use Rattle.graph.specs.declared.Edge.{Edge}
use Rattle.graph.specs.declared.TableEdge.{TableEdge}
use Rattle.graph.specs.Directed.{own_edge, no_table_edge, directed, directed_by}
use Rattle.merging.specs.declared.MergedEdge.{MergedEdge}
use Rattle.merging.specs.Merged.{alike, none_like, merged_at, merged_from, merged, drawn_edge, drawn_edges}
use Rattle.merging.specs.Merging.{merged_alone}
use Rattle.merging.proofs.MergedLaws.{widened, merged-more, fresh-alone}
use Rattle.merging.proofs.JoinLaws.{joinings, joinings-one, widen_none}
use Rattle.merging.proofs.TotalLaws.{grown, directed-more}

-- no edge is like one before it
pub record Unrepeated (edges : List TableEdge) : Type 0 where
  pub differ : (i j : ℕ) → i < j → j < length edges → alike (get_or edges j no_table_edge) (get_or edges i no_table_edge) ≡ false

none-like : (e : TableEdge) (edges : List TableEdge) → ((i : ℕ) → i < length edges → alike e (get_or edges i no_table_edge) ≡ false) → none_like e edges ≡ true
unfolding none_like
none-like e [] h = refl
none-like e (d ∷ edges) h = rw (h zero (zero-lt-suc (length edges))) (none-like e edges (λ i l. h (suc i) (suc-le-suc l)))

module _ (edges : List TableEdge) (d : TableEdge) (u : Unrepeated (edges ++ d ∷ [])) where
  longer : length (edges ++ d ∷ []) ≡ suc (length edges)
  longer = omega (arith, length-append edges (d ∷ []))

  before : Unrepeated edges
  before =
      record {
        differ = λ i j l m.
            rw (← get_or-append edges (d ∷ []) no_table_edge j m, ← get_or-append edges (d ∷ []) no_table_edge i (omega arith))
            (u.differ i j l (omega (arith, longer)));
      }

  last : none_like d edges ≡ true
  last =
      none-like d edges (λ i l.
      rw (← get_or-append_seam edges d [] no_table_edge, ← get_or-append edges (d ∷ []) no_table_edge i l) (u.differ i (length edges) l (omega (arith, longer))))

drawn-more : (flags : List Bool) (edges others : List MergedEdge) → drawn_edges flags (edges ++ others) ≡ drawn_edges flags edges ++ drawn_edges flags others
unfolding drawn_edges
drawn-more flags [] others = refl
drawn-more flags (e ∷ edges) others = ap (λ (l : List Edge). drawn_edge flags e ∷ l) (drawn-more flags edges others)

pub merged-alone : (flags : List Bool) (edges : List TableEdge) → Unrepeated edges → drawn_edges flags (merged edges) ≡ directed_by flags edges
unfolding drawn_edges directed_by merged merged_from
merged-alone flags = grown (λ (l : List TableEdge). Unrepeated l → drawn_edges flags (merged l) ≡ directed_by flags l) (λ u. refl) more
  where
    more : (edges : List TableEdge) (d : TableEdge) → (Unrepeated edges → drawn_edges flags (merged edges) ≡ directed_by flags edges)
        → Unrepeated (edges ++ d ∷ []) → drawn_edges flags (merged (edges ++ d ∷ [])) ≡ directed_by flags (edges ++ d ∷ [])
    more edges d ih u =
        ap (drawn_edges flags) (merged-more edges d ∙ alone)
        ∙ drawn-more flags (merged edges) (merged_alone (length edges) d ∷ [])
        ∙ ap (λ (l : List Edge). l ++ directed (get_or flags (length edges) false) (own_edge d) ∷ []) (ih (before edges d u))
        ∙ sym (directed-more flags edges d)
      where
        none : none_like d edges ≡ true
        none = last edges d u

        nowhere : joinings d (merged edges) ≡ 0
        nowhere = joinings-one d edges ∙ ap (λ (b : Bool). cond b 0 1) none

        alone : map (widened d) (merged edges) ++ cond (none_like d edges) (merged_at (edges ++ d ∷ []) (length edges) d ∷ []) [] ≡ merged edges ++ merged_alone (length edges) d ∷ []
        alone = rw (none, widen_none d (merged edges) nowhere, fresh-alone edges d none)
