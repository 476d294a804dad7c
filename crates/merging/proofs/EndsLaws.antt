-- Merged edges have the ends of edges, each of one of its own, so that a sum over ends is never larger for them.
use mathlib.Core.Path.{◌≡◌, refl, sym, ap, ◌∙◌}
use mathlib.Core.Bool.{Bool, true, false, cond}
use mathlib.Core.List.{List, [], ◌∷◌, ◌++◌, tail}
use Prim.Native.Nat.{ℕ, zero, suc, ◌+◌, ◌≤◌, ◌<◌}
use native.Mathlib.Omega.{arith}
use lib.ListN.{length, get_or, drop}
use Rattle.graph.specs.declared.Edge.{Edge}
use Rattle.graph.specs.declared.TableEdge.{TableEdge}
use Rattle.graph.specs.Rows.{no_edge}
use Rattle.graph.specs.Directed.{own_edge, no_table_edge, directed, directed_by}
use Rattle.graph.proofs.DirectedLaws.{directed-length, directed-get}
use Rattle.merging.specs.declared.MergedEdge.{MergedEdge}
use Rattle.merging.specs.Merged.{no_merged_edge, none_like, merged_at, merged_from, merged, as_edge, drawn_edge, drawn_edges}
use Rattle.merging.proofs.FirstLaws.{merged-first, merged-few}
use Rattle.merging.proofs.SameLaws.{drawn-length, drawn-get}

-- no more edges than others, and each with the ends of one of them
pub record EndsAmong (others edges : List Edge) : Type 0 where
  pub few : length edges ≤ length others
  pub source : ℕ → ℕ
  pub inside : (k : ℕ) → k < length edges → source k < length others
  pub tail : (k : ℕ) → k < length edges → (get_or edges k no_edge).from ≡ (get_or others (source k) no_edge).from
  pub head : (k : ℕ) → k < length edges → (get_or edges k no_edge).to ≡ (get_or others (source k) no_edge).to

from-same : (b : Bool) (d e : Edge) → d.from ≡ e.from → d.to ≡ e.to → (directed b d).from ≡ (directed b e).from
from-same true d e p q = q
from-same false d e p q = p

to_same : (b : Bool) (d e : Edge) → d.from ≡ e.from → d.to ≡ e.to → (directed b d).to ≡ (directed b e).to
to_same true d e p q = p
to_same false d e p q = q

pub drawn-ends : (flags : List Bool) (edges : List TableEdge) → EndsAmong (directed_by flags edges) (drawn_edges flags (merged edges))
drawn-ends flags edges =
    record {
      few = omega (arith, drawn-length flags (merged edges), merged-few edges, directed-length flags edges);
      source = λ k. (line k).first;
      inside = λ k h. omega (arith, first-in k h, directed-length flags edges);
      tail = λ k h.
          ap (λ (e : Edge). e.from) (drawn-get flags (merged edges) k (among k h)) ∙ from-same (flag k) (as_edge (line k)) (own k) (from k h) (to k h)
          ∙ sym (ap (λ (e : Edge). e.from) (directed-get flags edges (line k).first (first-in k h)));
      head = λ k h.
          ap (λ (e : Edge). e.to) (drawn-get flags (merged edges) k (among k h)) ∙ to_same (flag k) (as_edge (line k)) (own k) (from k h) (to k h)
          ∙ sym (ap (λ (e : Edge). e.to) (directed-get flags edges (line k).first (first-in k h)));
    }
  where
    line : ℕ → MergedEdge
    line k = get_or (merged edges) k no_merged_edge

    flag : ℕ → Bool
    flag k = get_or flags (line k).first false

    own : ℕ → Edge
    own k = own_edge (get_or edges (line k).first no_table_edge)

    among : (k : ℕ) → k < length (drawn_edges flags (merged edges)) → k < length (merged edges)
    among k h = omega (arith, drawn-length flags (merged edges))

    first-in : (k : ℕ) → k < length (drawn_edges flags (merged edges)) → (line k).first < length edges
    first-in k h = (merged-first edges k (among k h)).inside

    from : (k : ℕ) → k < length (drawn_edges flags (merged edges)) → (line k).from ≡ (own k).from
    from k h = ap (λ (x : MergedEdge). x.from) (merged-first edges k (among k h)).is

    to : (k : ℕ) → k < length (drawn_edges flags (merged edges)) → (line k).to ≡ (own k).to
    to k h = ap (λ (x : MergedEdge). x.to) (merged-first edges k (among k h)).is

-- ---- sums over ends

unfoldable pub sum_ends : (ℕ → ℕ → ℕ) → List Edge → ℕ
sum_ends f [] = 0
sum_ends f (e ∷ edges) = f e.from e.to + sum_ends f edges

ends_same : (f : ℕ → ℕ → ℕ) (b : Bool) (d e : Edge) → d.from ≡ e.from → d.to ≡ e.to
    → f (directed b d).from (directed b d).to ≡ f (directed b e).from (directed b e).to
ends_same f b d e p q = rw (from-same b d e p q, to_same b d e p q)

flags-behind : (flags : List Bool) (i : ℕ) → (get_or (drop i flags) 0 false ≡ get_or flags i false) × (tail (drop i flags) ≡ drop (suc i) flags)
flags-behind [] zero = (refl, refl)
flags-behind [] (suc i) = (refl, refl)
flags-behind (b ∷ flags) zero = (refl, refl)
flags-behind (b ∷ flags) (suc i) = flags-behind flags i

sum-from : (f : ℕ → ℕ → ℕ) (flags : List Bool) (all before : List TableEdge) (i : ℕ) (edges : List TableEdge)
    → sum_ends f (drawn_edges flags (merged_from all before i edges)) ≤ sum_ends f (directed_by (drop i flags) edges)
unfolding sum_ends merged_from drawn_edges directed_by
sum-from f flags all before i [] = omega arith
sum-from f flags all before i (e ∷ edges) = go (none_like e before) (sum-from f flags all (before ++ e ∷ []) (suc i) edges)
  where
    rest : List MergedEdge
    rest = merged_from all (before ++ e ∷ []) (suc i) edges

    behind : sum_ends f (directed_by (tail (drop i flags)) edges) ≡ sum_ends f (directed_by (drop (suc i) flags) edges)
    behind = ap (λ (l : List Bool). sum_ends f (directed_by l edges)) (flags-behind flags i).1

    first : f (drawn_edge flags (merged_at all i e)).from (drawn_edge flags (merged_at all i e)).to
        ≡ f (directed (get_or (drop i flags) 0 false) (own_edge e)).from (directed (get_or (drop i flags) 0 false) (own_edge e)).to
    first =
        ends_same f (get_or flags i false) (as_edge (merged_at all i e)) (own_edge e) refl refl
        ∙ ap (λ (b : Bool). f (directed b (own_edge e)).from (directed b (own_edge e)).to) (sym (flags-behind flags i).0)

    go : (b : Bool) → sum_ends f (drawn_edges flags rest) ≤ sum_ends f (directed_by (drop (suc i) flags) edges)
        → sum_ends f (drawn_edges flags (cond b (merged_at all i e ∷ rest) rest))
        ≤ f (directed (get_or (drop i flags) 0 false) (own_edge e)).from (directed (get_or (drop i flags) 0 false) (own_edge e)).to
        + sum_ends f (directed_by (tail (drop i flags)) edges)
    go true h = omega (arith, h, first, behind)
    go false h = omega (arith, h, behind)

pub sum-merged : (f : ℕ → ℕ → ℕ) (flags : List Bool) (edges : List TableEdge)
    → sum_ends f (drawn_edges flags (merged edges)) ≤ sum_ends f (directed_by flags edges)
unfolding merged
sum-merged f flags edges = sum-from f flags edges [] 0 edges
