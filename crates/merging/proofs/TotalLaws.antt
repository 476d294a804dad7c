-- Totals of merged edges are those of the edges that they stand for, whatever the rows; so the best rows are the same.
use mathlib.Core.Path.{◌≡◌, refl, sym, ap, ◌∙◌, subst}
use mathlib.Core.Bool.{Bool, true, false, cond}
use mathlib.Core.List.{List, [], ◌∷◌, ◌++◌, map, tail, append-nil, append_assoc}
use Prim.Native.Nat.{ℕ, zero, suc, ◌+◌, ◌*◌, ◌<◌, suc-le-suc}
use native.Mathlib.Nat.{zero-lt-suc, mul_comm, mul-add}
use native.Mathlib.Omega.{arith}
use lib.ListN.{length, get_or, length-append, get_or-append}
use lib.Seq.{get_or-append_seam}
use Rattle.graph.specs.declared.Edge.{Edge}
use Rattle.graph.specs.declared.TableEdge.{TableEdge}
use Rattle.graph.specs.Rows.{at, span, total, Best}
use Rattle.graph.specs.Directed.{own_edge, no_table_edge, directed, directed_by}
use Rattle.graph.proofs.DirectedLaws.{tail-get}
use Rattle.merging.specs.declared.MergedEdge.{MergedEdge}
use Rattle.merging.specs.Merged.{no_merged_edge, alike, none_like, merged_at, merged_from, merged, as_edge, drawn_edge, drawn_edges}
use Rattle.merging.specs.Merging.{joins, merged_alone, joined}
use Rattle.merging.proofs.AlikeLaws.{has-ends}
use Rattle.merging.proofs.MergedLaws.{widened, merged-more, fresh-alone}
use Rattle.merging.proofs.JoinLaws.{joinings, joinings-one, widen_none}
use Rattle.merging.proofs.FirstLaws.{merged-first}
use Rattle.merging.proofs.SameLaws.{Agreeing, span_between, span_of, weight-of, feasible-merged, merged-feasible}

-- ---- lists that grow at their end

-- what holds of no edges, and of one more where it held, holds of all
pub grown : (P : List TableEdge → Type 0) → P [] → ((edges : List TableEdge) (d : TableEdge) → P edges → P (edges ++ d ∷ [])) → (edges : List TableEdge) → P edges
grown P none more edges = onto [] edges none
  where
    onto : (front rest : List TableEdge) → P front → P (front ++ rest)
    onto front [] p = subst P (sym (append-nil front)) p
    onto front (d ∷ rest) p = subst P (append_assoc front (d ∷ []) rest) (onto (front ++ d ∷ []) rest (more front d p))

pub directed-more : (flags : List Bool) (edges : List TableEdge) (d : TableEdge)
    → directed_by flags (edges ++ d ∷ []) ≡ directed_by flags edges ++ directed (get_or flags (length edges) false) (own_edge d) ∷ []
unfolding directed_by
directed-more flags [] d = refl
directed-more flags (e ∷ edges) d =
    ap (λ (l : List Edge). directed (get_or flags 0 false) (own_edge e) ∷ l)
    (directed-more (tail flags) edges d ∙ ap (λ (b : Bool). directed_by (tail flags) edges ++ directed b (own_edge d) ∷ []) (tail-get flags (length edges)))

agreeing-less : (flags : List Bool) (edges : List TableEdge) (d : TableEdge) → Agreeing flags (edges ++ d ∷ []) → Agreeing flags edges
agreeing-less flags edges d a =
    record {
      agree = λ i j l m h.
          a.agree i j (omega (arith, length-append edges (d ∷ []))) (omega (arith, length-append edges (d ∷ [])))
          (rw (get_or-append edges (d ∷ []) no_table_edge i l, get_or-append edges (d ∷ []) no_table_edge j m) h);
    }

-- ---- totals

total-append : (edges others : List Edge) (y : ℕ → ℕ) → total (edges ++ others) y ≡ total edges y + total others y
unfolding total
total-append [] others y = omega arith
total-append (e ∷ edges) others y = omega (arith, total-append edges others y)

module _ (flags : List Bool) (y : ℕ → ℕ) where
  -- how far a merged edge reaches
  abbrev span-drawn : MergedEdge → ℕ
  span-drawn l = span_between y (get_or flags l.first false) l.from l.to

  cost_is : (l : MergedEdge) → (drawn_edge flags l).weight * span y (drawn_edge flags l) ≡ l.weight * span-drawn l
  cost_is l = rw (weight-of (get_or flags l.first false) (as_edge l), span_of y (get_or flags l.first false) (as_edge l))

  drawn-append : (edges others : List MergedEdge) → total (drawn_edges flags (edges ++ others)) y ≡ total (drawn_edges flags edges) y + total (drawn_edges flags others) y
  unfolding total drawn_edges
  drawn-append [] others = omega arith
  drawn-append (l ∷ edges) others = omega (arith, drawn-append edges others)

  -- an edge that joins one adds what it costs itself
  total-joined : (d : TableEdge) (far : ℕ) (edges : List MergedEdge) → joinings d edges ≡ 1
      → ((k : ℕ) → k < length edges → joins d (get_or edges k no_merged_edge) ≡ true → span-drawn (get_or edges k no_merged_edge) ≡ far)
      → total (drawn_edges flags (map (widened d) edges)) y ≡ total (drawn_edges flags edges) y + d.weight * far
  unfolding total drawn_edges joinings
  total-joined d far [] one h = absurd (omega arith)
  total-joined d far (l ∷ edges) one h = go (joins d l) refl one (total-joined d far edges)
    where
      go : (b : Bool) → joins d l ≡ b → cond b (suc (joinings d edges)) (joinings d edges) ≡ 1
          → (joinings d edges ≡ 1 → ((k : ℕ) → k < length edges → joins d (get_or edges k no_merged_edge) ≡ true → span-drawn (get_or edges k no_merged_edge) ≡ far)
          → total (drawn_edges flags (map (widened d) edges)) y ≡ total (drawn_edges flags edges) y + d.weight * far)
          → (drawn_edge flags (cond b (joined d l) l)).weight * span y (drawn_edge flags (cond b (joined d l) l)) + total (drawn_edges flags (map (widened d) edges)) y
          ≡ (drawn_edge flags l).weight * span y (drawn_edge flags l) + total (drawn_edges flags edges) y + d.weight * far
      go true p one ih =
          let rest = ap (λ (x : List MergedEdge). total (drawn_edges flags x) y) (widen_none d edges (omega arith)) in
          let here = h zero (zero-lt-suc (length edges)) p in
          omega (
            arith,
            rest,
            cost_is l,
            cost_is (joined d l),
            mul_comm (l.weight + d.weight) (span-drawn l),
            mul-add (span-drawn l) l.weight d.weight,
            mul_comm (span-drawn l) l.weight,
            mul_comm (span-drawn l) d.weight,
            ap (λ (k : ℕ). d.weight * k) here,
          )
      go false p one ih = omega (arith, ih one (λ k i j. h (suc k) (suc-le-suc i) j))

  -- the last edge with those before it
  module _ (edges : List TableEdge) (d : TableEdge) (a : Agreeing flags (edges ++ d ∷ [])) where
    abbrev far-of : ℕ
    far-of = span_between y (get_or flags (length edges) false) d.from d.to

    reaches : (k : ℕ) → k < length (merged edges) → joins d (get_or (merged edges) k no_merged_edge) ≡ true → span-drawn (get_or (merged edges) k no_merged_edge) ≡ far-of
    reaches k l h = rw (flag, from, to)
      where
        line : MergedEdge
        line = get_or (merged edges) k no_merged_edge

        inside : line.first < length edges
        inside = (merged-first edges k l).inside

        from : line.from ≡ d.from
        from = (has-ends line.from line.to line.soft d h).tail

        to : line.to ≡ d.to
        to = (has-ends line.from line.to line.soft d h).head

        like-first : alike (get_or edges line.first no_table_edge) d ≡ true
        like-first = sym (ap (λ (x : MergedEdge). joins d x) (merged-first edges k l).is) ∙ h

        flag : get_or flags line.first false ≡ get_or flags (length edges) false
        flag =
            a.agree line.first (length edges) (omega (arith, inside, length-append edges (d ∷ []))) (omega (arith, length-append edges (d ∷ [])))
            (rw (get_or-append edges (d ∷ []) no_table_edge line.first inside, get_or-append_seam edges d [] no_table_edge) like-first)

    last-cost : total (directed (get_or flags (length edges) false) (own_edge d) ∷ []) y ≡ d.weight * far-of
    unfolding total
    last-cost =
        omega (
          arith,
          ap (λ (k : ℕ). k * span y (directed (get_or flags (length edges) false) (own_edge d))) (weight-of (get_or flags (length edges) false) (own_edge d)),
          ap (λ (k : ℕ). d.weight * k) (span_of y (get_or flags (length edges) false) (own_edge d)),
        )

    alone : total (drawn_edges flags (merged_alone (length edges) d ∷ [])) y ≡ d.weight * far-of
    unfolding total drawn_edges
    alone = omega (arith, cost_is (merged_alone (length edges) d))

    total-more : total (drawn_edges flags (merged (edges ++ d ∷ []))) y ≡ total (drawn_edges flags (merged edges)) y + d.weight * far-of
    total-more = ap (λ (l : List MergedEdge). total (drawn_edges flags l) y) (merged-more edges d) ∙ go (none_like d edges) refl
      where
        ones : (b : Bool) → none_like d edges ≡ b → joinings d (merged edges) ≡ cond b 0 1
        ones b e = joinings-one d edges ∙ ap (λ (x : Bool). cond x 0 1) e

        go : (b : Bool) → none_like d edges ≡ b
            → total (drawn_edges flags (map (widened d) (merged edges) ++ cond b (merged_at (edges ++ d ∷ []) (length edges) d ∷ []) [])) y
            ≡ total (drawn_edges flags (merged edges)) y + d.weight * far-of
        go true e =
            ap (λ (l : List MergedEdge). total (drawn_edges flags (l ++ merged_at (edges ++ d ∷ []) (length edges) d ∷ [])) y) (widen_none d (merged edges) (ones true e))
            ∙ ap (λ (l : MergedEdge). total (drawn_edges flags (merged edges ++ l ∷ [])) y) (fresh-alone edges d e)
            ∙ drawn-append (merged edges) (merged_alone (length edges) d ∷ []) ∙ ap (λ (k : ℕ). total (drawn_edges flags (merged edges)) y + k) alone
        go false e =
            ap (λ (l : List MergedEdge). total (drawn_edges flags l) y) (append-nil (map (widened d) (merged edges)))
            ∙ total-joined d far-of (merged edges) (ones false e) reaches

  -- Edges that are drawn as one have equal ends and one direction, so they are equally long in any rows, and their weights times that length
  -- add up to the sum of the weights times it. By the edges one after the other: one more joins exactly one merged edge, whose weight grows
  -- by its own, or starts one with its own weight; either way the total grows by what it costs itself.
  pub total-merged : (edges : List TableEdge) → Agreeing flags edges → total (drawn_edges flags (merged edges)) y ≡ total (directed_by flags edges) y
  unfolding total drawn_edges directed_by merged merged_from
  total-merged = grown (λ (l : List TableEdge). Agreeing flags l → total (drawn_edges flags (merged l)) y ≡ total (directed_by flags l) y) (λ a. refl) more
    where
      more : (edges : List TableEdge) (d : TableEdge) → (Agreeing flags edges → total (drawn_edges flags (merged edges)) y ≡ total (directed_by flags edges) y)
          → Agreeing flags (edges ++ d ∷ []) → total (drawn_edges flags (merged (edges ++ d ∷ []))) y ≡ total (directed_by flags (edges ++ d ∷ [])) y
      more edges d ih a =
          omega (
            arith,
            total-more edges d a,
            ih (agreeing-less flags edges d a),
            ap (λ (l : List Edge). total l y) (directed-more flags edges d),
            total-append (directed_by flags edges) (directed (get_or flags (length edges) false) (own_edge d) ∷ []) y,
            last-cost edges d a,
          )

-- ---- best rows

-- The same rows are feasible and each has the same total, so what is least and lowest for the one is so for the other.

module _ (flags : List Bool) (edges : List TableEdge) (a : Agreeing flags edges) (n : ℕ) (ys : List ℕ) where
  pub best-merged : Best n (directed_by flags edges) ys → Best n (drawn_edges flags (merged edges)) ys
  best-merged b =
      record {
        one_a_node = b.one_a_node;
        feasible = feasible-merged flags edges a (at ys) b.feasible;
        least = λ zs e f. omega (arith, total-merged flags (at ys) edges a, total-merged flags (at zs) edges a, b.least zs e (merged-feasible flags edges a (at zs) f));
        lowest = λ zs e f q. b.lowest zs e (merged-feasible flags edges a (at zs) f)
            (sym (total-merged flags (at zs) edges a) ∙ q ∙ total-merged flags (at ys) edges a);
      }

  pub merged-best : Best n (drawn_edges flags (merged edges)) ys → Best n (directed_by flags edges) ys
  merged-best b =
      record {
        one_a_node = b.one_a_node;
        feasible = merged-feasible flags edges a (at ys) b.feasible;
        least = λ zs e f. omega (arith, total-merged flags (at ys) edges a, total-merged flags (at zs) edges a, b.least zs e (feasible-merged flags edges a (at zs) f));
        lowest = λ zs e f q. b.lowest zs e (feasible-merged flags edges a (at zs) f)
            (total-merged flags (at zs) edges a ∙ q ∙ sym (total-merged flags (at ys) edges a));
      }
