-- Edges put in, kept and turned one by one: the matrix stays that of the edges that stand, and the flags become those of the definition.
use mathlib.Core.Path.{◌≡◌, refl, sym, ap, ◌∙◌, subst}
use mathlib.Core.Bool.{Bool, true, false, true≢false}
use mathlib.Core.List.{List, [], ◌∷◌, ◌++◌, map, append-nil}
use Prim.Native.Nat.{ℕ, ◌+◌, ◌*◌, ◌≤◌, ◌<◌}
use native.Mathlib.Numerals.{add-one}
use lib.ListN.{length, get_or, drop, drop_of_length-le}
use lib.Seq.{append_snoc, drop-cons}
use Rattle.graph.specs.declared.Edge.{Edge}
use Rattle.graph.specs.declared.TableEdge.{TableEdge}
use Rattle.graph.specs.Directed.{own_edge, no_table_edge}
use Rattle.table.specs.Fair.{FairEdge}
use Rattle.acyclic.specs.Oriented.{OrientedEdge, must_of, leads, turns, stand_after, oriented_from, oriented, turned_edges}
use Rattle.acyclic.proofs.StandingLaws.{leads-walk, leads-none}
use Rattle.closure.specs.Closure.{Marked, Closure, Added}
use Rattle.orientation.specs.Judged.{TurnJudged}

-- edge i and those behind it
edges-from : (edges : List TableEdge) (i : ℕ) → i < length edges → drop i edges ≡ get_or edges i no_table_edge ∷ drop (i + 1) edges
edges-from edges i h = rw add-one (drop-cons edges i no_table_edge h)

-- ---- must edges: the matrix of those from i on

module _ (n : ℕ) (edges : List TableEdge) where
  pub putting-none : (i : ℕ) (marks : List Bool) → length edges ≤ i → Closure n [] marks → Closure n (must_of (drop i edges)) marks
  unfolding must_of
  putting-none i marks h c = subst (λ (l : List TableEdge). Closure n (must_of l) marks) (sym (drop_of_length-le edges {i = i} h)) c

  module _ (i : ℕ) (old : List Bool) (h : i < length edges) (c : Closure n (must_of (drop (i + 1) edges)) old) where
    abbrev e : TableEdge
    e = get_or edges i no_table_edge

    pub putting-past : e.soft ≡ true → Closure n (must_of (drop i edges)) old
    unfolding must_of
    putting-past s = subst (λ (l : List TableEdge). Closure n (must_of l) old) (sym (edges-from edges i h)) (rw s c)

    pub putting-more : (new : List Bool) → e.soft ≡ false → Added n e.from e.to old new → Closure n (must_of (drop i edges)) new
    unfolding must_of
    putting-more new s a =
        subst (λ (l : List TableEdge). Closure n (must_of l) new) (sym (edges-from edges i h)) (rw s (a.closure (must_of (drop (i + 1) edges)) (own_edge e) refl refl c))

-- ---- one edge judged

-- A soft edge closes a loop exactly where a walk over the edges that stand leads from its head to its tail, and that mark says so.
module _ (n : ℕ) (e : TableEdge) (old : List Bool) where
  pub judged-must : e.soft ≡ false → TurnJudged n e old old false
  unfolding turns stand_after
  judged-must f = record { says = λ stand c. rw f refl; stands = λ stand c. rw f c }

  module _ (soft : e.soft ≡ true) (fair : FairEdge n (own_edge e)) where
    pub judged-turned : Marked old (e.to * n + e.from) → TurnJudged n e old old true
    unfolding turns stand_after
    judged-turned p = record { says = λ stand c. rw soft (sym (closes stand c)); stands = λ stand c. rw soft c }
      where
        closes : (stand : List Edge) → Closure n stand old → leads n stand e.to e.from ≡ true
        closes stand c = leads-walk n stand _ _ c.within ((c.row e.to fair.to_in).sound e.from fair.from_in p)

    pub judged-kept : (new : List Bool) → get_or old (e.to * n + e.from) false ≡ false → Added n e.from e.to old new → TurnJudged n e old new false
    unfolding turns stand_after
    judged-kept new z a =
        record {
          says = λ stand c. rw soft (sym (leads-not stand c));
          stands = λ stand c. rw soft (a.closure stand (own_edge e) refl refl c);
        }
      where
        leads-not : (stand : List Edge) → Closure n stand old → leads n stand e.to e.from ≡ false
        leads-not stand c =
            leads-none n stand _ _ (λ w. true≢false (sym ((c.row e.to fair.to_in).full e.from fair.from_in w) ∙ z))

-- ---- all edges judged

abbrev flag_of : OrientedEdge → Bool
flag_of e = e.turned

-- The first i edges are judged: their flags and those that the definition gives the others, where the same edges stand, are all flags.
pub record Judging (n : ℕ) (edges : List TableEdge) (i : ℕ) (marks turned : List Bool) : Type 0 where
  pub stand : List Edge
  pub closure : Closure n stand marks
  pub whole : turned_edges n edges ≡ turned ++ map flag_of (oriented_from n stand (drop i edges))

pub judging-none : (n : ℕ) (edges : List TableEdge) (marks : List Bool) → Closure n (must_of edges) marks → Judging n edges 0 marks []
unfolding oriented
judging-none n edges marks c = record { stand = must_of edges; closure = c; whole = refl }

-- one edge more is judged
seam : (n : ℕ) (front : List Bool) (stand : List Edge) (e : TableEdge) (rest : List TableEdge) (r : Bool) → r ≡ turns n stand e
    → front ++ map flag_of (oriented_from n stand (e ∷ rest)) ≡ (front ++ (r ∷ [])) ++ map flag_of (oriented_from n (stand_after r e stand) rest)
unfolding oriented_from
seam n front stand e rest r s =
    subst (λ (b : Bool). front ++ map flag_of (oriented_from n stand (e ∷ rest)) ≡ (front ++ (b ∷ [])) ++ map flag_of (oriented_from n (stand_after b e stand) rest)) (sym s)
    (sym (append_snoc front (turns n stand e) (map flag_of (oriented_from n (stand_after (turns n stand e) e stand) rest))))

module _ {n : ℕ} {edges : List TableEdge} {i : ℕ} {marks turned : List Bool} (g : Judging n edges i marks turned) where
  pub judging-more : {new : List Bool} {r : Bool} → i < length edges → TurnJudged n (get_or edges i no_table_edge) marks new r
      → Judging n edges (i + 1) new (turned ++ r ∷ [])
  judging-more {new} {r} h j =
      record {
        stand = stand_after r (get_or edges i no_table_edge) g.stand;
        closure = j.stands g.stand g.closure;
        whole =
            g.whole ∙ ap (λ (l : List TableEdge). turned ++ map flag_of (oriented_from n g.stand l)) (edges-from edges i h)
            ∙ seam n turned g.stand (get_or edges i no_table_edge) (drop (i + 1) edges) r (j.says g.stand g.closure);
      }

  pub judging-all : length edges ≤ i → turned ≡ turned_edges n edges
  unfolding oriented_from
  judging-all h =
      sym (g.whole ∙ ap (λ (l : List TableEdge). turned ++ map flag_of (oriented_from n g.stand l)) (drop_of_length-le edges {i = i} h) ∙ append-nil turned)
