-- Each merged edge comes from its first edge; there are no more of them than edges, and none has more weight than all edges together may have.
use mathlib.Core.Path.{◌≡◌, ap, ◌∙◌, subst}
use mathlib.Core.Bool.{Bool, true, false, cond}
use mathlib.Core.List.{List, [], ◌∷◌, ◌++◌}
use Prim.Native.Nat.{ℕ, zero, suc, ◌+◌, ◌*◌, ◌≤◌, ◌<◌, suc-le-suc}
use native.Mathlib.Nat.{not-suc-le-zero, le_of_suc-le-suc, zero-lt-suc}
use native.Mathlib.Omega.{arith}
use lib.ListN.{length, get_or}
use Rattle.graph.specs.declared.TableEdge.{TableEdge}
use Rattle.graph.specs.Directed.{no_table_edge}
use Rattle.merging.specs.declared.MergedEdge.{MergedEdge}
use Rattle.merging.specs.Merged.{no_merged_edge, alike, like, none_like, added_weight, merged_at, merged_from, merged}

-- ---- the first edge

-- a merged edge of those from number i on
record Behind (all edges : List TableEdge) (i : ℕ) (l : MergedEdge) : Type 0 where
  place : ℕ
  inside : place < length edges
  is : l ≡ merged_at all (i + place) (get_or edges place no_table_edge)

behind_more : {all edges : List TableEdge} {e : TableEdge} {i : ℕ} {l : MergedEdge} → Behind all edges (suc i) l → Behind all (e ∷ edges) i l
behind_more {all} {edges} {e} {i} b =
    let next : suc i + b.place ≡ i + suc b.place = omega arith in
    record {
      place = suc b.place;
      inside = suc-le-suc b.inside;
      is = b.is ∙ ap (λ (k : ℕ). merged_at all k (get_or edges b.place no_table_edge)) next;
    }

behind-from : (all before : List TableEdge) (i : ℕ) (edges : List TableEdge) (k : ℕ) → k < length (merged_from all before i edges)
    → Behind all edges i (get_or (merged_from all before i edges) k no_merged_edge)
unfolding merged_from
behind-from all before i [] k h = absurd (not-suc-le-zero h)
behind-from all before i (e ∷ edges) k h = go (none_like e before) k h (behind-from all (before ++ e ∷ []) (suc i) edges)
  where
    rest : List MergedEdge
    rest = merged_from all (before ++ e ∷ []) (suc i) edges

    go : (b : Bool) (j : ℕ) → j < length (cond b (merged_at all i e ∷ rest) rest)
        → ((k : ℕ) → k < length rest → Behind all edges (suc i) (get_or rest k no_merged_edge))
        → Behind all (e ∷ edges) i (get_or (cond b (merged_at all i e ∷ rest) rest) j no_merged_edge)
    go true zero h ih =
        let none : i ≡ i + 0 = omega arith in
        record { place = 0; inside = zero-lt-suc (length edges); is = ap (λ (k : ℕ). merged_at all k e) none }
    go true (suc j) h ih = behind_more (ih j (le_of_suc-le-suc h))
    go false j h ih = behind_more (ih j h)

-- a merged edge is what its first edge makes with those that are drawn as one with it
pub record FromFirst (edges : List TableEdge) (l : MergedEdge) : Type 0 where
  pub inside : l.first < length edges
  pub is : l ≡ merged_at edges l.first (get_or edges l.first no_table_edge)

pub merged-first : (edges : List TableEdge) (k : ℕ) → k < length (merged edges) → FromFirst edges (get_or (merged edges) k no_merged_edge)
unfolding merged
merged-first edges k h = go _ (behind-from edges [] 0 edges k h)
  where
    go : (l : MergedEdge) → Behind edges edges 0 l → FromFirst edges l
    go l b =
        let start : b.place ≡ l.first = omega (arith, ap (λ (x : MergedEdge). x.first) b.is) in
        record {
          inside = omega (arith, start, b.inside);
          is = subst (λ (p : ℕ). l ≡ merged_at edges p (get_or edges p no_table_edge)) start (b.is ∙ same);
        }
      where
        same : merged_at edges (0 + b.place) (get_or edges b.place no_table_edge) ≡ merged_at edges b.place (get_or edges b.place no_table_edge)
        same = let none : 0 + b.place ≡ b.place = omega arith in ap (λ (k : ℕ). merged_at edges k (get_or edges b.place no_table_edge)) none

-- ---- sizes

few-from : (all before : List TableEdge) (i : ℕ) (edges : List TableEdge) → length (merged_from all before i edges) ≤ length edges
unfolding merged_from
few-from all before i [] = omega arith
few-from all before i (e ∷ edges) = go (none_like e before) (few-from all (before ++ e ∷ []) (suc i) edges)
  where
    rest : List MergedEdge
    rest = merged_from all (before ++ e ∷ []) (suc i) edges

    go : (b : Bool) → length rest ≤ length edges → length (cond b (merged_at all i e ∷ rest) rest) ≤ suc (length edges)
    go true h = omega arith
    go false h = omega arith

pub merged-few : (edges : List TableEdge) → length (merged edges) ≤ length edges
unfolding merged
merged-few edges = few-from edges [] 0 edges

-- weights added, of edges of which none has more than w
added-low : (w : ℕ) (e : TableEdge) (edges : List TableEdge) → ((i : ℕ) → i < length edges → (get_or edges i no_table_edge).weight ≤ w)
    → added_weight (like e edges) ≤ length edges * w
unfolding added_weight like
added-low w e [] h = omega arith
added-low w e (d ∷ edges) h = go (alike e d) (h zero (zero-lt-suc (length edges))) (added-low w e edges (λ i l. h (suc i) (suc-le-suc l)))
  where
    go : (b : Bool) → d.weight ≤ w → added_weight (like e edges) ≤ length edges * w → added_weight (cond b (d ∷ like e edges) (like e edges)) ≤ suc (length edges) * w
    go true a ih = omega arith
    go false a ih = omega arith

pub merged-light : (w : ℕ) (edges : List TableEdge) → ((i : ℕ) → i < length edges → (get_or edges i no_table_edge).weight ≤ w)
    → (k : ℕ) → k < length (merged edges) → (get_or (merged edges) k no_merged_edge).weight ≤ length edges * w
merged-light w edges h k l =
    let s = merged-first edges k l in
    omega (arith, ap (λ (x : MergedEdge). x.weight) s.is, added-low w (get_or edges (get_or (merged edges) k no_merged_edge).first no_table_edge) edges h)
