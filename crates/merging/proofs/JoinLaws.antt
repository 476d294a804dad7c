-- Each edge is drawn as one with exactly one merged edge, and one edge more changes that alone.
use mathlib.Core.Path.{◌≡◌, refl, sym, ap, ◌∙◌}
use mathlib.Core.Bool.{Bool, true, false, ◌&&◌, not, cond, true≢false}
use mathlib.Core.List.{List, [], ◌∷◌, ◌++◌, map}
use Prim.Native.Nat.{ℕ, zero, suc, ◌<◌, suc-le-suc}
use native.Mathlib.Nat.{zero-lt-suc, not-suc-le-zero, le_of_suc-le-suc}
use native.Mathlib.Omega.{arith}
use lib.ListN.{length, get_or, set}
use Rattle.graph.specs.declared.TableEdge.{TableEdge}
use Rattle.merging.specs.declared.MergedEdge.{MergedEdge}
use Rattle.merging.specs.Merged.{no_merged_edge, alike, none_like, merged_at, merged_from, merged}
use Rattle.merging.specs.Merging.{joins, joined}
use Rattle.merging.proofs.AlikeLaws.{alike-swap}
use Rattle.merging.proofs.MergedLaws.{widened, none_more, none_both}

-- ---- how many merged edges an edge joins

unfoldable pub joinings : TableEdge → List MergedEdge → ℕ
joinings d [] = 0
joinings d (old ∷ edges) = let rest = joinings d edges in cond (joins d old) (suc rest) rest

-- one among the firsts from here on, if there is none before and one from here on
joinings-from : (d : TableEdge) (all before : List TableEdge) (i : ℕ) (edges : List TableEdge)
    → joinings d (merged_from all before i edges) ≡ cond (none_like d before) (cond (none_like d edges) 0 1) 0
unfolding joinings merged_from none_like
joinings-from d all before i [] = go (none_like d before)
  where
    go : (b : Bool) → 0 ≡ cond {A = ℕ} b 0 0
    go true = refl
    go false = refl
joinings-from d all before i (e ∷ edges) =
    go (alike e d) refl (none_like e before) refl (none_like d before) refl
    (joinings-from d all (before ++ e ∷ []) (suc i) edges ∙ ap (λ (b : Bool). cond b (cond (none_like d edges) 0 1) 0) (none_more d before e))
  where
    rest : List MergedEdge
    rest = merged_from all (before ++ e ∷ []) (suc i) edges

    swapped : {b : Bool} → alike e d ≡ b → alike d e ≡ b
    swapped h = alike-swap d e ∙ h

    same : alike e d ≡ true → none_like d before ≡ none_like e before
    same h = none_both d e before (swapped h)

    go : (s : Bool) → alike e d ≡ s → (b : Bool) → none_like e before ≡ b → (a : Bool) → none_like d before ≡ a
        → joinings d rest ≡ cond (none_like d before && not (alike d e)) (cond (none_like d edges) 0 1) 0
        → joinings d (cond b (merged_at all i e ∷ rest) rest) ≡ cond a (cond (not (alike d e) && none_like d edges) 0 1) 0
    go true s true b true a h = rw (h, a, swapped s, s) refl
    go true s true b false a h = absurd (true≢false (sym b ∙ sym (same s) ∙ a))
    go true s false b true a h = absurd (true≢false (sym a ∙ same s ∙ b))
    go true s false b false a h = rw (h, a) refl
    go false s true b true a h = rw (h, a, swapped s, s) refl
    go false s true b false a h = rw (h, a, s) refl
    go false s false b true a h = rw (h, a, swapped s) refl
    go false s false b false a h = rw (h, a) refl

pub joinings-one : (d : TableEdge) (edges : List TableEdge) → joinings d (merged edges) ≡ cond (none_like d edges) 0 1
unfolding merged none_like
joinings-one d edges = joinings-from d edges [] 0 edges

-- one that is joined counts
pub joined-some : (d : TableEdge) (edges : List MergedEdge) (k : ℕ) → k < length edges → joins d (get_or edges k no_merged_edge) ≡ true → 0 < joinings d edges
unfolding joinings
joined-some d [] k h j = absurd (not-suc-le-zero h)
joined-some d (old ∷ edges) zero h j = rw j (omega arith)
joined-some d (old ∷ edges) (suc k) h j = go (joins d old) (joined-some d edges k (le_of_suc-le-suc h) j)
  where
    go : (b : Bool) → 0 < joinings d edges → 0 < cond b (suc (joinings d edges)) (joinings d edges)
    go true h = omega arith
    go false h = h

-- and what counts stands somewhere
pub record Joining (d : TableEdge) (edges : List MergedEdge) : Type 0 where
  pub place : ℕ
  pub inside : place < length edges
  pub joining : joins d (get_or edges place no_merged_edge) ≡ true

pub joined-place : (d : TableEdge) (edges : List MergedEdge) → 0 < joinings d edges → Joining d edges
unfolding joinings
joined-place d [] h = absurd (not-suc-le-zero h)
joined-place d (old ∷ edges) h = go (joins d old) refl h (joined-place d edges)
  where
    go : (b : Bool) → joins d old ≡ b → 0 < cond b (suc (joinings d edges)) (joinings d edges) → (0 < joinings d edges → Joining d edges) → Joining d (old ∷ edges)
    go true p h ih = record { place = 0; inside = zero-lt-suc (length edges); joining = p }
    go false p h ih = let j = ih h in record { place = suc j.place; inside = suc-le-suc j.inside; joining = j.joining }

-- ---- widening

-- an edge that joins none changes none
pub widen_none : (d : TableEdge) (edges : List MergedEdge) → joinings d edges ≡ 0 → map (widened d) edges ≡ edges
unfolding joinings
widen_none d [] h = refl
widen_none d (old ∷ edges) h = go (joins d old) h (widen_none d edges)
  where
    go : (b : Bool) → cond b (suc (joinings d edges)) (joinings d edges) ≡ 0 → (joinings d edges ≡ 0 → map (widened d) edges ≡ edges)
        → cond b (joined d old) old ∷ map (widened d) edges ≡ old ∷ edges
    go true h ih = absurd (omega arith)
    go false h ih = ap (λ (l : List MergedEdge). old ∷ l) (ih (omega arith))

-- one that joins one changes that one
pub widen-one : (d : TableEdge) (edges : List MergedEdge) (k : ℕ) → k < length edges → joins d (get_or edges k no_merged_edge) ≡ true → joinings d edges ≡ 1
    → map (widened d) edges ≡ set edges k (joined d (get_or edges k no_merged_edge))
unfolding joinings
widen-one d [] k h j one = absurd (not-suc-le-zero h)
widen-one d (old ∷ edges) zero h j one = go (joins d old) j one
  where
    go : (b : Bool) → b ≡ true → cond b (suc (joinings d edges)) (joinings d edges) ≡ 1
        → cond b (joined d old) old ∷ map (widened d) edges ≡ joined d old ∷ edges
    go true p one = ap (λ (l : List MergedEdge). joined d old ∷ l) (widen_none d edges (omega arith))
    go false p one = absurd (true≢false (sym p))
widen-one d (old ∷ edges) (suc k) h j one =
    go (joins d old) one (joined-some d edges k (le_of_suc-le-suc h) j) (widen-one d edges k (le_of_suc-le-suc h) j)
  where
    go : (b : Bool) → cond b (suc (joinings d edges)) (joinings d edges) ≡ 1 → 0 < joinings d edges
        → (joinings d edges ≡ 1 → map (widened d) edges ≡ set edges k (joined d (get_or edges k no_merged_edge)))
        → cond b (joined d old) old ∷ map (widened d) edges ≡ old ∷ set edges k (joined d (get_or edges k no_merged_edge))
    go true one some ih = absurd (omega arith)
    go false one some ih = ap (λ (l : List MergedEdge). old ∷ l) (ih one)
