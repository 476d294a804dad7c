-- What one edge more, at the end, does to merged edges: it joins those that it is drawn as one with, or starts one of its own.
use mathlib.Core.Path.{◌≡◌, refl, sym, ap, ◌∙◌}
use mathlib.Core.Bool.{Bool, true, false, ◌&&◌, not, cond, true≢false}
use mathlib.Core.List.{List, [], ◌∷◌, ◌++◌, map, append-nil, append_assoc}
use Prim.Native.Nat.{ℕ, zero, suc, ◌+◌, ◌<◌, max}
use native.Mathlib.Nat.{not-suc-le-zero, le_of_suc-le-suc}
use native.Mathlib.Omega.{arith}
use lib.ListN.{length, get_or}
use Rattle.graph.specs.declared.TableEdge.{TableEdge}
use Rattle.graph.specs.Directed.{no_table_edge}
use Rattle.merging.specs.declared.MergedEdge.{MergedEdge}
use Rattle.merging.specs.Merged.{alike, like, none_like, largest_gap, added_weight, merged_at, merged_from, merged}
use Rattle.merging.specs.Merging.{joins, merged_alone, joined}
use Rattle.merging.proofs.AlikeLaws.{alike_self, alike_both}

-- ---- those drawn as one with an edge

like-more : (e : TableEdge) (edges : List TableEdge) (d : TableEdge) → like e (edges ++ d ∷ []) ≡ like e edges ++ cond (alike e d) (d ∷ []) []
unfolding like
like-more e [] d = refl
like-more e (x ∷ edges) d = go (alike e x) (like-more e edges d)
  where
    go : (b : Bool) → like e (edges ++ d ∷ []) ≡ like e edges ++ cond (alike e d) (d ∷ []) []
        → cond b (x ∷ like e (edges ++ d ∷ [])) (like e (edges ++ d ∷ [])) ≡ cond b (x ∷ like e edges) (like e edges) ++ cond (alike e d) (d ∷ []) []
    go true h = ap (λ (l : List TableEdge). x ∷ l) h
    go false h = h

like-none : (e : TableEdge) (edges : List TableEdge) → none_like e edges ≡ true → like e edges ≡ []
unfolding like none_like
like-none e [] h = refl
like-none e (x ∷ edges) h = go (alike e x) h (like-none e edges)
  where
    go : (b : Bool) → not b && none_like e edges ≡ true → (none_like e edges ≡ true → like e edges ≡ []) → cond b (x ∷ like e edges) (like e edges) ≡ []
    go true h ih = absurd (true≢false (sym h))
    go false h ih = ih h

pub none_more : (e : TableEdge) (edges : List TableEdge) (d : TableEdge) → none_like e (edges ++ d ∷ []) ≡ none_like e edges && not (alike e d)
unfolding none_like
none_more e [] d = go (not (alike e d))
  where
    go : (b : Bool) → b && true ≡ true && b
    go true = refl
    go false = refl
none_more e (x ∷ edges) d = go (not (alike e x)) (none_more e edges d)
  where
    go : (b : Bool) → none_like e (edges ++ d ∷ []) ≡ none_like e edges && not (alike e d)
        → b && none_like e (edges ++ d ∷ []) ≡ b && none_like e edges && not (alike e d)
    go true h = h
    go false h = refl

-- an edge is like one of those it is among
pub none-not : (e : TableEdge) (edges : List TableEdge) (i : ℕ) → i < length edges → alike e (get_or edges i no_table_edge) ≡ true → none_like e edges ≡ false
unfolding none_like
none-not e [] i l h = absurd (not-suc-le-zero l)
none-not e (x ∷ edges) zero l h = rw h
none-not e (x ∷ edges) (suc i) l h = go (not (alike e x)) (none-not e edges i (le_of_suc-le-suc l) h)
  where
    go : (b : Bool) → none_like e edges ≡ false → b && none_like e edges ≡ false
    go true h = h
    go false h = refl

-- what two like edges are like is the same
pub none_both : (d e : TableEdge) (edges : List TableEdge) → alike d e ≡ true → none_like d edges ≡ none_like e edges
unfolding none_like
none_both d e [] h = refl
none_both d e (x ∷ edges) h = rw (alike_both d e h x, none_both d e edges h)

gap_more : (edges : List TableEdge) (d : TableEdge) → largest_gap (edges ++ d ∷ []) ≡ max (largest_gap edges) d.gap
unfolding largest_gap
gap_more [] d = omega arith
gap_more (x ∷ edges) d = rw (gap_more edges d) (omega arith)

weight-more : (edges : List TableEdge) (d : TableEdge) → added_weight (edges ++ d ∷ []) ≡ added_weight edges + d.weight
unfolding added_weight
weight-more [] d = omega arith
weight-more (x ∷ edges) d = omega (arith, weight-more edges d)

-- ---- one edge more

-- a merged edge with an edge more, if that is drawn as one with it
abbrev pub widened : TableEdge → MergedEdge → MergedEdge
widened d old = cond (joins d old) (joined d old) old

at_more : (all : List TableEdge) (d : TableEdge) (i : ℕ) (e : TableEdge) → merged_at (all ++ d ∷ []) i e ≡ widened d (merged_at all i e)
at_more all d i e = go (alike e d) (like-more e all d)
  where
    alter : (g w : ℕ) → largest_gap (like e (all ++ d ∷ [])) ≡ g → added_weight (like e (all ++ d ∷ [])) ≡ w
        → merged_at (all ++ d ∷ []) i e ≡ record { from = e.from; to = e.to; gap = g; soft = e.soft; first = i; weight = w }
    alter g w p q = rw (p, q)

    go : (b : Bool) → like e (all ++ d ∷ []) ≡ like e all ++ cond b (d ∷ []) []
        → merged_at (all ++ d ∷ []) i e ≡ cond b (joined d (merged_at all i e)) (merged_at all i e)
    go true h = alter _ _ (ap largest_gap h ∙ gap_more (like e all) d) (ap added_weight h ∙ weight-more (like e all) d)
    go false h = let same = h ∙ append-nil (like e all) in alter _ _ (ap largest_gap same) (ap added_weight same)

-- what the last edge starts, behind the others
abbrev fresh : List TableEdge → List TableEdge → ℕ → TableEdge → List MergedEdge
fresh all before i d = cond (none_like d before) (merged_at all i d ∷ []) []

from_more : (all before : List TableEdge) (i : ℕ) (edges : List TableEdge) (d : TableEdge)
    → merged_from (all ++ d ∷ []) before i (edges ++ d ∷ []) ≡ map (widened d) (merged_from all before i edges) ++ fresh (all ++ d ∷ []) (before ++ edges) (i + length edges) d
unfolding merged_from
from_more all before i [] d =
    let none : i ≡ i + 0 = omega arith in
    ap (λ (l : List TableEdge). fresh (all ++ d ∷ []) l i d) (sym (append-nil before)) ∙ ap (λ (k : ℕ). fresh (all ++ d ∷ []) (before ++ []) k d) none
from_more all before i (e ∷ edges) d = go (none_like e before) (from_more all (before ++ e ∷ []) (suc i) edges d ∙ seam)
  where
    rest : List MergedEdge
    rest = merged_from all (before ++ e ∷ []) (suc i) edges

    last : List MergedEdge
    last = fresh (all ++ d ∷ []) (before ++ e ∷ edges) (i + suc (length edges)) d

    seam : map (widened d) rest ++ fresh (all ++ d ∷ []) (before ++ e ∷ [] ++ edges) (suc i + length edges) d ≡ map (widened d) rest ++ last
    seam =
        let next : suc i + length edges ≡ i + suc (length edges) = omega arith in
        ap (λ (k : ℕ). map (widened d) rest ++ fresh (all ++ d ∷ []) (before ++ e ∷ [] ++ edges) k d) next
        ∙ ap (λ (l : List TableEdge). map (widened d) rest ++ fresh (all ++ d ∷ []) l (i + suc (length edges)) d) (append_assoc before (e ∷ []) edges)

    go : (b : Bool) → merged_from (all ++ d ∷ []) (before ++ e ∷ []) (suc i) (edges ++ d ∷ []) ≡ map (widened d) rest ++ last
        → cond b (merged_at (all ++ d ∷ []) i e ∷ merged_from (all ++ d ∷ []) (before ++ e ∷ []) (suc i) (edges ++ d ∷ []))
        (merged_from (all ++ d ∷ []) (before ++ e ∷ []) (suc i) (edges ++ d ∷ []))
        ≡ map (widened d) (cond b (merged_at all i e ∷ rest) rest) ++ last
    go true h = rw (at_more all d i e, h)
    go false h = h

pub merged-more : (edges : List TableEdge) (d : TableEdge)
    → merged (edges ++ d ∷ []) ≡ map (widened d) (merged edges) ++ fresh (edges ++ d ∷ []) edges (length edges) d
unfolding merged
merged-more edges d =
    let count : 0 + length edges ≡ length edges = omega arith in
    from_more edges [] 0 edges d ∙ ap (λ (k : ℕ). map (widened d) (merged_from edges [] 0 edges) ++ fresh (edges ++ d ∷ []) edges k d) count

-- the first of its like is alone
pub fresh-alone : (edges : List TableEdge) (d : TableEdge) → none_like d edges ≡ true → merged_at (edges ++ d ∷ []) (length edges) d ≡ merged_alone (length edges) d
unfolding largest_gap added_weight
fresh-alone edges d h = alter (ap largest_gap alone ∙ gap) (ap added_weight alone ∙ weight)
  where
    alone : like d (edges ++ d ∷ []) ≡ d ∷ []
    alone = like-more d edges d ∙ rw (like-none d edges h, alike_self d)

    gap : max d.gap 0 ≡ d.gap
    gap = omega arith

    weight : d.weight + 0 ≡ d.weight
    weight = omega arith

    alter : largest_gap (like d (edges ++ d ∷ [])) ≡ d.gap → added_weight (like d (edges ++ d ∷ [])) ≡ d.weight
        → merged_at (edges ++ d ∷ []) (length edges) d ≡ merged_alone (length edges) d
    alter p q = rw (p, q)
