-- A loop that merges edges: it starts with none, a turn lets one edge more join or start, and its end has them all.
use mathlib.Core.Path.{◌≡◌, refl, sym, ap, ◌∙◌, subst}
use mathlib.Core.Bool.{Bool, true, false, cond}
use mathlib.Core.List.{List, [], ◌∷◌, ◌++◌, map, append-nil}
use Prim.Native.Nat.{ℕ, ◌+◌, ◌≤◌, ◌<◌}
use native.Mathlib.Numerals.{add-one}
use native.Mathlib.Omega.{arith}
use lib.ListN.{length, get_or, take, set, replicate, length-append}
use lib.Seq.{get_or-take, length-take-le, take-suc}
use Rattle.graph.specs.declared.TableEdge.{TableEdge}
use Rattle.graph.specs.Directed.{own_edge, no_table_edge}
use Rattle.table.specs.Limits.{max_steps, max_edges, max_weight}
use Rattle.table.specs.Fair.{FairEdge}
use Rattle.merging.specs.declared.MergedEdge.{MergedEdge}
use Rattle.merging.specs.Merged.{no_merged_edge, none_like, merged_at, merged_from, merged}
use Rattle.merging.specs.Merging.{max_added, Mergeable, joins, merged_alone, joined, key_of, Links, SlotFound, sum_count, Chained}
use Rattle.std.specs.Prelude.{Option, Some, None}
use Rattle.merging.proofs.MergedLaws.{widened, merged-more, fresh-alone}
use Rattle.merging.proofs.JoinLaws.{joinings, joinings-one, joined-some, widen_none, widen-one}
use Rattle.merging.proofs.ChainLaws.{chained-none, chained-join, chained-start, links, head-low, slot-joins, slot-nowhere}
use Rattle.merging.proofs.FirstLaws.{merged-first, merged-few, merged-light}

-- ---- one edge more

module _ (edges : List TableEdge) (e : TableEdge) where
  abbrev so_far : List MergedEdge
  so_far = merged edges

  firsts : (b : Bool) → none_like e edges ≡ b → joinings e so_far ≡ cond b 0 1
  firsts b h = joinings-one e edges ∙ ap (λ (x : Bool). cond x 0 1) h

  pub more-start : joinings e so_far ≡ 0 → merged (edges ++ e ∷ []) ≡ so_far ++ merged_alone (length edges) e ∷ []
  more-start none = go (none_like e edges) refl (merged-more edges e)
    where
      go : (b : Bool) → none_like e edges ≡ b
          → merged (edges ++ e ∷ []) ≡ map (widened e) so_far ++ cond b (merged_at (edges ++ e ∷ []) (length edges) e ∷ []) []
          → merged (edges ++ e ∷ []) ≡ so_far ++ merged_alone (length edges) e ∷ []
      go true b m =
          m ∙ ap (λ (l : List MergedEdge). l ++ merged_at (edges ++ e ∷ []) (length edges) e ∷ []) (widen_none e so_far none)
          ∙ ap (λ (x : MergedEdge). so_far ++ x ∷ []) (fresh-alone edges e b)
      go false b m = absurd (omega (arith, none, firsts false b))

  pub more-join : (k : ℕ) → k < length so_far → joins e (get_or so_far k no_merged_edge) ≡ true
      → (merged (edges ++ e ∷ []) ≡ map (widened e) so_far) × (merged (edges ++ e ∷ []) ≡ set so_far k (joined e (get_or so_far k no_merged_edge)))
  more-join k l h = go (none_like e edges) refl (merged-more edges e)
    where
      go : (b : Bool) → none_like e edges ≡ b
          → merged (edges ++ e ∷ []) ≡ map (widened e) so_far ++ cond b (merged_at (edges ++ e ∷ []) (length edges) e ∷ []) []
          → (merged (edges ++ e ∷ []) ≡ map (widened e) so_far) × (merged (edges ++ e ∷ []) ≡ set so_far k (joined e (get_or so_far k no_merged_edge)))
      go true b m = absurd (omega (arith, joined-some e so_far k l h, firsts true b))
      go false b m =
          let wide = m ∙ append-nil (map (widened e) so_far) in
          (wide, wide ∙ widen-one e so_far k l h (firsts false b))

-- ---- the loop

-- the first i edges are merged
pub record Merging (edges : List TableEdge) (i : ℕ) (list : List MergedEdge) (keys next heads : List ℕ) : Type 0 where
  pub listed : list ≡ merged (take i edges)
  pub chained : Chained list keys next heads

pub merging-none : (edges : List TableEdge) → Merging edges 0 [] [] [] (replicate sum_count 0)
unfolding merged merged_from
merging-none edges = record { listed = refl; chained = chained-none }

module _ (edges : List TableEdge) (ok : Mergeable edges) (i : ℕ) (h : i < length edges) (list : List MergedEdge) (keys next heads : List ℕ)
    (s : Merging edges i list keys next heads) where
  abbrev edge : TableEdge
  edge = get_or edges i no_table_edge

  -- the chain that an edge is sought on
  abbrev start : ℕ
  start = get_or heads (edge.from + edge.to) 0

  fair : FairEdge max_steps (own_edge edge)
  fair = ok.each i h

  taken : length (take i edges) ≡ i
  taken = length-take-le i edges (omega arith)

  following : take (i + 1) edges ≡ take i edges ++ edge ∷ []
  following = ap (λ (k : ℕ). take k edges) (add-one i) ∙ take-suc edges i no_table_edge h

  pub few-so-far : length list < max_edges
  few-so-far = omega (arith, ap length s.listed, merged-few (take i edges), taken, ok.few)

  fair-at : (j : ℕ) → j < length (take i edges) → FairEdge max_steps (own_edge (get_or (take i edges) j no_table_edge))
  fair-at j b =
      let inner : j < i = omega (arith, taken) in
      subst (λ (x : TableEdge). FairEdge max_steps (own_edge x)) (sym (get_or-take i edges j no_table_edge inner)) (ok.each j (omega arith))

  heads-low : (k : ℕ) → k < length list → (get_or list k no_merged_edge).to < max_steps
  heads-low k l =
      let f = merged-first (take i edges) k (omega (arith, ap length s.listed)) in
      rw s.listed (omega (arith, ap (λ (x : MergedEdge). x.to) f.is, (fair-at (get_or (merged (take i edges)) k no_merged_edge).first f.inside).to_in))

  -- what an edge joins has little weight so far
  pub joined-light : (k : ℕ) → k < length list → (get_or list k no_merged_edge).weight ≤ max_added
  joined-light k b =
      rw s.listed (omega (arith, merged-light max_weight (take i edges) (λ j l. (fair-at j l).weight_low) k (omega (arith, ap length s.listed)), taken, ok.few))

  -- what finding a slot asks for
  pub so-far-links : Links next
  so-far-links = links list keys next heads s.chained

  pub so-far-start : start ≤ length next
  so-far-start = omega (arith, head-low list keys next heads s.chained (edge.from + edge.to) (omega (arith, fair.from_in, fair.to_in)), s.chained.next_long)

  -- the lists as finding a slot was given them, and the key
  module _ (ks ns : List ℕ) (key : ℕ) (keyed : ks ≡ keys) (linked : ns ≡ next) (own : key ≡ key_of edge) where
    found-own : (r : Option ℕ) → SlotFound ks ns start key r → SlotFound keys next start (key_of edge) r
    found-own r f =
        subst (λ (x : ℕ). SlotFound keys next start x r) own
        (subst (λ (l : List ℕ). SlotFound keys l start key r) linked (subst (λ (l : List ℕ). SlotFound l ns start key r) keyed f))

    pub found-low : (place : ℕ) → SlotFound ks ns start key (Some place) → place < length list
    found-low place f = omega (arith, (found-own (Some place) f).0, s.chained.next_long)

    -- the edge joins what is found
    pub merging-join : (place : ℕ) → SlotFound ks ns start key (Some place) → (was : List MergedEdge) (new : MergedEdge) (list' : List MergedEdge) (keys' next' heads' : List ℕ)
        → was ≡ list → new ≡ joined edge (get_or was place no_merged_edge) → list' ≡ set list place new → keys' ≡ keys → next' ≡ next → heads' ≡ heads
        → Merging edges (i + 1) list' keys' next' heads'
    merging-join place f was new list' keys' next' heads' z a b c d e = rw (b, a, z, c, d, e) held
      where
        joins-it : joins edge (get_or list place no_merged_edge) ≡ true
        joins-it = slot-joins list keys next heads s.chained edge fair heads-low place (found-own (Some place) f)

        after : (merged (take i edges ++ edge ∷ []) ≡ map (widened edge) (merged (take i edges)))
            × (merged (take i edges ++ edge ∷ []) ≡ set (merged (take i edges)) place (joined edge (get_or (merged (take i edges)) place no_merged_edge)))
        after =
            more-join (take i edges) edge place (omega (arith, ap length s.listed, found-low place f))
            (subst (λ (l : List MergedEdge). joins edge (get_or l place no_merged_edge) ≡ true) s.listed joins-it)

        wide : map (widened edge) list ≡ set list place (joined edge (get_or list place no_merged_edge))
        wide = rw s.listed (sym after.0 ∙ after.1)

        held : Merging edges (i + 1) (set list place (joined edge (get_or list place no_merged_edge))) keys next heads
        held =
            record {
              listed =
                  ap (λ (l : List MergedEdge). set l place (joined edge (get_or l place no_merged_edge))) s.listed ∙ sym (ap merged following ∙ after.1);
              chained = subst (λ (l : List MergedEdge). Chained l keys next heads) wide (chained-join list keys next heads s.chained edge);
            }

    -- or starts one where none is
    pub merging_start : SlotFound ks ns start key None → (new : MergedEdge) (count : ℕ) (list' : List MergedEdge) (keys' next' heads' : List ℕ)
        → new ≡ merged_alone i edge → count ≡ length next' → list' ≡ list ++ new ∷ [] → keys' ≡ keys ++ key ∷ [] → next' ≡ next ++ start ∷ []
        → heads' ≡ set heads (edge.from + edge.to) count → Merging edges (i + 1) list' keys' next' heads'
    merging_start f new count list' keys' next' heads' a z b c d e = rw (b, a, c, own, d, e, counted) held
      where
        counted : count ≡ length list + 1
        counted = omega (arith, z, ap length d, length-append next (start ∷ []), s.chained.next_long)

        none : joinings edge list ≡ 0
        none = slot-nowhere list keys next heads s.chained edge fair (found-own None f)

        held : Merging edges (i + 1) (list ++ merged_alone i edge ∷ []) (keys ++ key_of edge ∷ []) (next ++ start ∷ []) (set heads (edge.from + edge.to) (length list + 1))
        held =
            record {
              listed =
                  ap (λ (l : List MergedEdge). l ++ merged_alone i edge ∷ []) s.listed
                  ∙ sym (ap merged following ∙ more-start (take i edges) edge (subst (λ (l : List MergedEdge). joinings edge l ≡ 0) s.listed none)
                  ∙ ap (λ (k : ℕ). merged (take i edges) ++ merged_alone k edge ∷ []) taken);
              chained = chained-start list keys next heads s.chained edge i fair few-so-far;
            }
