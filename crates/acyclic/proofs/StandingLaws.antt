-- Edges taken in turn: what becomes of one, which stand in the end, and which walks lead over those.
use mathlib.Core.Path.{◌≡◌, refl, sym, ◌∙◌}
use mathlib.Core.Bool.{Bool, true, false, ◌&&◌, not, cond, true≢false}
use mathlib.Core.List.{List, [], ◌∷◌, map}
use Prim.Native.Nat.{ℕ, zero, suc, ◌<◌, suc-le-suc}
use native.Mathlib.Nat.{le_of_suc-le-suc, zero-lt-suc, not-suc-le-zero}
use native.Mathlib.Omega.{arith}
use lib.ListN.{length, get_or}
use borrow.Author.Tests.{ltb-true, ltb-false}
use Rattle.graph.specs.declared.Edge.{Edge}
use Rattle.graph.specs.declared.TableEdge.{TableEdge}
use Rattle.graph.specs.Rows.{Within}
use Rattle.graph.specs.Directed.{own_edge, no_table_edge}
use Rattle.acyclic.specs.Loops.{Walk}
use Rattle.acyclic.specs.Oriented.{OrientedEdge, no_oriented_edge, orient, must_of, leads, turns, stand_after, oriented_from, oriented, kept_of}
use Rattle.acyclic.proofs.ReachLaws.{reached-sound, reached-complete}
use Rattle.acyclic.proofs.RunLaws.{Runs, walk-replace, walk_here, runs-join, runs_same, runs_none, runs-later, runs-cons, runs-head, runs-tail}

-- ---- one edge

pub leads-true : (n : ℕ) (edges : List Edge) (s v : ℕ) → leads n edges s v ≡ true → Walk edges s v
unfolding leads
leads-true n edges s v h = reached-sound n edges s v (ltb-true _ _ h)

pub leads-false : (n : ℕ) (edges : List Edge) (s v : ℕ) → Within n edges → leads n edges s v ≡ false → Walk edges s v → ⊥
unfolding leads
leads-false n edges s v within h w = omega (arith, ltb-false, reached-complete n edges s (λ i l. (within i l).1) w)

-- where a walk leads the definition says so
pub leads-walk : (n : ℕ) (edges : List Edge) (s v : ℕ) → Within n edges → Walk edges s v → leads n edges s v ≡ true
leads-walk n edges s v within w = go (leads n edges s v) refl
  where
    go : (b : Bool) → leads n edges s v ≡ b → leads n edges s v ≡ true
    go true e = e
    go false e = absurd (leads-false n edges s v within e w)

pub leads-none : (n : ℕ) (edges : List Edge) (s v : ℕ) → (Walk edges s v → ⊥) → leads n edges s v ≡ false
leads-none n edges s v shut = go (leads n edges s v) refl
  where
    go : (b : Bool) → leads n edges s v ≡ b → leads n edges s v ≡ false
    go true e = absurd (shut (leads-true n edges s v e))
    go false e = e

-- What becomes of an edge where some stand: whether it is turned, and which stand then.
pub data Turn (n : ℕ) (stand : List Edge) (e : TableEdge) : Bool → List Edge → Type 0 where
  must : e.soft ≡ false → Turn n stand e false stand
  kept : e.soft ≡ true → leads n stand e.to e.from ≡ false → Turn n stand e false (own_edge e ∷ stand)
  turned : e.soft ≡ true → leads n stand e.to e.from ≡ true → Turn n stand e true stand

pub turn_is : (n : ℕ) (stand : List Edge) (e : TableEdge) → Turn n stand e (turns n stand e) (stand_after (turns n stand e) e stand)
unfolding turns stand_after
turn_is n stand e = go e.soft refl (leads n stand e.to e.from) refl
  where
    go : (p : Bool) → e.soft ≡ p → (q : Bool) → leads n stand e.to e.from ≡ q
        → Turn n stand e (p && q) (cond (p && not (p && q)) (own_edge e ∷ stand) stand)
    go false f q g = must f
    go true f true g = turned f g
    go true f false g = kept f g

-- the edges that stand in the end
unfoldable pub standing_end : ℕ → List Edge → List TableEdge → List Edge
standing_end n stand [] = stand
standing_end n stand (e ∷ edges) = standing_end n (stand_after (turns n stand e) e stand) edges

module _ (n : ℕ) (stand : List Edge) (e : TableEdge) where
  turn-runs : {t : Bool} {next : List Edge} → Turn n stand e t next → Runs stand next
  turn-runs (must f) = runs_same stand
  turn-runs (kept f g) = runs-later (own_edge e) stand
  turn-runs (turned f g) = runs_same stand

  -- a must edge stands already; a soft one that is kept joins; one that is turned runs along the walk that turned it
  turn-way : {t : Bool} {next : List Edge} → Turn n stand e t next → (e.soft ≡ false → Walk stand e.from e.to)
      → Walk next (orient t (own_edge e)).edge.from (orient t (own_edge e)).edge.to
  turn-way (must f) w = w f
  turn-way (kept f g) w = walk_here (own_edge e) stand
  turn-way (turned f g) w = leads-true n stand _ _ g

-- ---- walks over those that stand

-- those that stand go on to stand
after-runs : (n : ℕ) (stand : List Edge) (edges : List TableEdge) → Runs stand (standing_end n stand edges)
unfolding standing_end
after-runs n stand [] = runs_same stand
after-runs n stand (e ∷ edges) =
    runs-join (turn-runs n stand e (turn_is n stand e)) (after-runs n (stand_after (turns n stand e) e stand) edges)

-- the must edges stand
pub record Stood (edges : List TableEdge) (stand : List Edge) : Type 0 where
  pub stood : (i : ℕ) → i < length edges → (get_or edges i no_table_edge).soft ≡ false
      → Walk stand (get_or edges i no_table_edge).from (get_or edges i no_table_edge).to

stood-tail : {e : TableEdge} {edges : List TableEdge} {stand : List Edge} → Stood (e ∷ edges) stand → Stood edges stand
stood-tail s = record { stood = λ i h f. s.stood (suc i) (suc-le-suc h) f }

stood-cons : {e : TableEdge} {edges : List TableEdge} {next : List Edge} → Stood edges next
    → (e.soft ≡ false → Walk next e.from e.to) → Stood (e ∷ edges) next
stood-cons {e} {edges} {next} s w = record { stood = each }
  where
    each : (i : ℕ) → i < length (e ∷ edges) → (get_or (e ∷ edges) i no_table_edge).soft ≡ false
        → Walk next (get_or (e ∷ edges) i no_table_edge).from (get_or (e ∷ edges) i no_table_edge).to
    each zero h = w
    each (suc i) h = s.stood i (le_of_suc-le-suc h)

stood_on : {edges : List TableEdge} {stand next : List Edge} → Runs stand next → Stood edges stand → Stood edges next
stood_on r s = record { stood = λ i h f. walk-replace r (s.stood i h f) }

pub must-stood : (edges : List TableEdge) → Stood edges (must_of edges)
unfolding must_of
must-stood [] = record { stood = λ i h. absurd (not-suc-le-zero h) }
must-stood (e ∷ edges) = go e.soft refl (must-stood edges)
  where
    go : (p : Bool) → e.soft ≡ p → Stood edges (must_of edges) → Stood (e ∷ edges) (cond p (must_of edges) (own_edge e ∷ must_of edges))
    go true f s = stood-cons s (λ q. absurd (true≢false (sym f ∙ q)))
    go false f s = stood-cons (stood_on (runs-later (own_edge e) (must_of edges)) s) (λ _. walk_here (own_edge e) (must_of edges))

-- a walk over those that stand in the end runs along each edge in the direction that it gets
pub oriented-runs : (n : ℕ) (stand : List Edge) (edges : List TableEdge) → Stood edges stand
    → Runs (map (λ (e : OrientedEdge). e.edge) (oriented_from n stand edges)) (standing_end n stand edges)
unfolding standing_end oriented_from
oriented-runs n stand [] s = runs_none stand
oriented-runs n stand (e ∷ edges) s =
    let t = turn_is n stand e in
    let next = stand_after (turns n stand e) e stand in
    runs-cons (walk-replace (after-runs n next edges) (turn-way n stand e t (s.stood zero (zero-lt-suc (length edges)))))
    (oriented-runs n next edges (stood_on (turn-runs n stand e t) (stood-tail s)))

-- those that stand in the end stood before, or are kept
after_kept : (n : ℕ) (stand : List Edge) (edges : List TableEdge) (others : List Edge) → Runs stand others
    → Runs (kept_of (oriented_from n stand edges)) others → Runs (standing_end n stand edges) others
unfolding standing_end oriented_from kept_of
after_kept n stand [] others r k = r
after_kept n stand (e ∷ edges) others r k = go (turn_is n stand e) (after_kept n (stand_after (turns n stand e) e stand) edges others) k
  where
    go : {t : Bool} {next : List Edge} → Turn n stand e t next
        → (Runs next others → Runs (kept_of (oriented_from n next edges)) others → Runs (standing_end n next edges) others)
        → Runs (cond t (kept_of (oriented_from n next edges)) ((orient t (own_edge e)).edge ∷ kept_of (oriented_from n next edges))) others
        → Runs (standing_end n next edges) others
    go (must f) ih q = ih r (runs-tail q)
    go (kept f g) ih q = ih (runs-cons (runs-head q) r) (runs-tail q)
    go (turned f g) ih q = ih r q

-- and the must edges are kept
must-kept : (n : ℕ) (stand : List Edge) (edges : List TableEdge) → Runs (must_of edges) (kept_of (oriented_from n stand edges))
unfolding must_of oriented_from kept_of
must-kept n stand [] = runs_none []
must-kept n stand (e ∷ edges) = go e.soft refl (turn_is n stand e) (must-kept n (stand_after (turns n stand e) e stand) edges)
  where
    go : (p : Bool) → e.soft ≡ p → {t : Bool} {next : List Edge} → Turn n stand e t next
        → Runs (must_of edges) (kept_of (oriented_from n next edges))
        → Runs (cond p (must_of edges) (own_edge e ∷ must_of edges))
        (cond t (kept_of (oriented_from n next edges)) ((orient t (own_edge e)).edge ∷ kept_of (oriented_from n next edges)))
    go true f (must g) ih = absurd (true≢false (sym f ∙ g))
    go true f (kept g l) ih = runs-join ih (runs-later _ _)
    go true f (turned g l) ih = ih
    go false f (must g) ih = runs-cons (walk_here _ _) (runs-join ih (runs-later _ _))
    go false f (kept g l) ih = absurd (true≢false (sym g ∙ f))
    go false f (turned g l) ih = absurd (true≢false (sym g ∙ f))

pub stand-kept : (n : ℕ) (edges : List TableEdge) → Runs (standing_end n (must_of edges) edges) (kept_of (oriented n edges))
unfolding oriented
stand-kept n edges =
    after_kept n (must_of edges) edges (kept_of (oriented_from n (must_of edges) edges)) (must-kept n (must_of edges) edges) (runs_same _)

-- an edge that is turned has a walk over those that stand in the end from its head to its tail
pub turned_walk : (n : ℕ) (stand : List Edge) (edges : List TableEdge) (i : ℕ) → i < length edges
    → (get_or (oriented_from n stand edges) i no_oriented_edge).turned ≡ true
    → Walk (standing_end n stand edges) (get_or edges i no_table_edge).to (get_or edges i no_table_edge).from
unfolding oriented_from standing_end
turned_walk n stand [] i h t = absurd (not-suc-le-zero h)
turned_walk n stand (e ∷ edges) zero h t = go (turn_is n stand e) (after-runs n (stand_after (turns n stand e) e stand) edges) t
  where
    go : {b : Bool} {next : List Edge} → Turn n stand e b next → Runs next (standing_end n next edges) → b ≡ true
        → Walk (standing_end n next edges) e.to e.from
    go (must f) r q = absurd (true≢false (sym q))
    go (kept f g) r q = absurd (true≢false (sym q))
    go (turned f g) r q = walk-replace r (leads-true n stand _ _ g)
turned_walk n stand (e ∷ edges) (suc i) h t = turned_walk n (stand_after (turns n stand e) e stand) edges i (le_of_suc-le-suc h) t
