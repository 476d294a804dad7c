-- What keeping and turning makes of a table's edges: no loop is left, none is turned without need, and only ends are exchanged.
use mathlib.Core.Path.{◌≡◌, refl, sym, ap, ◌∙◌}
use mathlib.Core.Bool.{Bool, true, false, ◌||◌, cond, true≢false}
use mathlib.Core.List.{List, [], ◌∷◌, map}
use Rattle.std.specs.Prelude.{None}
use Prim.Native.Nat.{ℕ, zero, suc, ◌<◌, suc-le-suc}
use native.Mathlib.Nat.{le_of_suc-le-suc, zero-lt-suc, not-suc-le-zero}
use native.Mathlib.Omega.{arith}
use lib.ListN.{length, get_or, length-map, get_or-map}
use Rattle.graph.specs.declared.Edge.{Edge}
use Rattle.graph.specs.declared.TableEdge.{TableEdge}
use Rattle.graph.specs.Rows.{no_edge, Within}
use Rattle.graph.specs.Directed.{own_edge, no_table_edge, plain_edges, turn, directed_by}
use Rattle.acyclic.specs.Loops.{Walk, LoopFree, mark, sweep, sweeps, reached, lowest_on_loop}
use Rattle.acyclic.specs.Oriented.{OrientedEdge, no_oriented_edge, orient, must_of, any_soft, leads, turns, stand_after, oriented_from, oriented, oriented_edges, turned_edges, kept_of}
use Rattle.acyclic.proofs.LoopLaws.{free-iff}
use Rattle.acyclic.proofs.RunLaws.{walk-join, walk-replace, walk_here, runs-free, runs-later, free_more}
use Rattle.acyclic.proofs.StandingLaws.{Turn, must, kept, turned, turn_is, leads-false, standing_end, must-stood, oriented-runs, stand-kept, turned_walk}

-- ---- no loop is left

-- the ends of every edge of a table are two different nodes, of which there are n
pub record EndsApart (n : ℕ) (e : TableEdge) : Type 0 where
  pub from_in : e.from < n
  pub to_in : e.to < n
  pub apart : e.from ≡ e.to → ⊥

abbrev pub AllApart : ℕ → List TableEdge → Type 0
AllApart n edges = (i : ℕ) → i < length edges → EndsApart n (get_or edges i no_table_edge)

-- whatever holds of the must edges of a table
pub must-each : (P : Edge → Type 0) (edges : List TableEdge)
    → ((i : ℕ) → i < length edges → (get_or edges i no_table_edge).soft ≡ false → P (own_edge (get_or edges i no_table_edge)))
    → (j : ℕ) → j < length (must_of edges) → P (get_or (must_of edges) j no_edge)
unfolding must_of
must-each P [] p = λ j h. absurd (not-suc-le-zero h)
must-each P (e ∷ edges) p = go e.soft refl (must-each P edges (λ i h. p (suc i) (suc-le-suc h)))
  where
    go : (b : Bool) → e.soft ≡ b → ((j : ℕ) → j < length (must_of edges) → P (get_or (must_of edges) j no_edge))
        → (j : ℕ) → j < length (cond b (must_of edges) (own_edge e ∷ must_of edges)) → P (get_or (cond b (must_of edges) (own_edge e ∷ must_of edges)) j no_edge)
    go true f r j h = r j h
    go false f r zero h = p zero (zero-lt-suc (length edges)) f
    go false f r (suc j) h = r j (le_of_suc-le-suc h)

within-cons : {n : ℕ} (e : Edge) (stand : List Edge) → e.from < n → e.to < n → Within n stand → Within n (e ∷ stand)
within-cons e stand f t w zero h = (f, t)
within-cons e stand f t w (suc i) h = w i (le_of_suc-le-suc h)

must-within : (n : ℕ) (edges : List TableEdge) → AllApart n edges → Within n (must_of edges)
must-within n edges j = must-each (λ (e : Edge). (e.from < n) × (e.to < n)) edges (λ i h f. ((j i h).from_in, (j i h).to_in))

-- what stands has no loop, and its ends are nodes
record Sane (n : ℕ) (stand : List Edge) : Type 0 where
  free : LoopFree stand
  within : Within n stand

-- a soft edge joins only where nothing leads from its head to its tail
turn-sane : (n : ℕ) (stand : List Edge) (e : TableEdge) → EndsApart n e → Sane n stand → {t : Bool} {next : List Edge} → Turn n stand e t next → Sane n next
turn-sane n stand e j s (must f) = s
turn-sane n stand e j s (kept f g) =
    record {
      free = free_more (own_edge e) stand j.apart (leads-false n stand _ _ s.within g) s.free;
      within = within-cons (own_edge e) stand j.from_in j.to_in s.within;
    }
turn-sane n stand e j s (turned f g) = s

after-sane : (n : ℕ) (stand : List Edge) (edges : List TableEdge) → AllApart n edges → Sane n stand → Sane n (standing_end n stand edges)
unfolding standing_end
after-sane n stand [] j s = s
after-sane n stand (e ∷ edges) j s =
    after-sane n (stand_after (turns n stand e) e stand) edges (λ i h. j (suc i) (suc-le-suc h))
    (turn-sane n stand e (j zero (zero-lt-suc (length edges))) s (turn_is n stand e))

-- Where the must edges have no loop, the edges as kept or turned have none. Those that stand in the end have none: a soft edge joined
-- them only where it closed no loop. An edge that was turned runs along a walk over them, so a walk over all edges as kept or turned can be
-- replaced, edge by edge, by one over those that stand; a loop would become a loop of theirs.
pub oriented-free : (n : ℕ) (edges : List TableEdge) → AllApart n edges → LoopFree (must_of edges) → LoopFree (oriented_edges n edges)
unfolding oriented
oriented-free n edges j f =
    runs-free (oriented-runs n (must_of edges) edges (must-stood edges))
    (after-sane n (must_of edges) edges j (record { free = f; within = must-within n edges j })).free

-- Each edge that was turned has a walk over those that were kept from its own head to its own tail: pointing its own way it would close
-- a loop. When its turn came such a walk led over the edges that stood then; they all stand in the end, and those are the kept ones.
pub turned-closes : (n : ℕ) (edges : List TableEdge) (i : ℕ) → i < length edges → (get_or (oriented n edges) i no_oriented_edge).turned ≡ true
    → Walk (kept_of (oriented n edges)) (get_or edges i no_table_edge).to (get_or edges i no_table_edge).from
unfolding oriented
turned-closes n edges i h t = walk-replace (stand-kept n edges) (turned_walk n (must_of edges) edges i h t)

pub turned-loop : (n : ℕ) (edges : List TableEdge) (i : ℕ) → i < length edges → (get_or (oriented n edges) i no_oriented_edge).turned ≡ true
    → Walk (own_edge (get_or edges i no_table_edge) ∷ kept_of (oriented n edges)) (get_or edges i no_table_edge).from (get_or edges i no_table_edge).from
turned-loop n edges i h t = walk-join (walk_here _ _) (walk-replace (runs-later _ _) (turned-closes n edges i h t))

-- ---- each edge in the direction that it gets

-- every edge is kept or turned, at its own number: no gap and no weight changes
edge-from : (n : ℕ) (stand : List Edge) (edges : List TableEdge) (i : ℕ) → i < length edges
    → get_or (oriented_from n stand edges) i no_oriented_edge ≡ orient (get_or (oriented_from n stand edges) i no_oriented_edge).turned (own_edge (get_or edges i no_table_edge))
unfolding oriented_from
edge-from n stand [] i h = absurd (not-suc-le-zero h)
edge-from n stand (e ∷ edges) zero h = refl
edge-from n stand (e ∷ edges) (suc i) h = edge-from n (stand_after (turns n stand e) e stand) edges i (le_of_suc-le-suc h)

pub length_from : (n : ℕ) (stand : List Edge) (edges : List TableEdge) → length (oriented_from n stand edges) ≡ length edges
unfolding oriented_from
length_from n stand [] = refl
length_from n stand (e ∷ edges) = ap suc (length_from n (stand_after (turns n stand e) e stand) edges)

must-from : (n : ℕ) (stand : List Edge) (edges : List TableEdge) (i : ℕ) → i < length edges → (get_or edges i no_table_edge).soft ≡ false
    → (get_or (oriented_from n stand edges) i no_oriented_edge).turned ≡ false
unfolding oriented_from
must-from n stand [] i h f = absurd (not-suc-le-zero h)
must-from n stand (e ∷ edges) zero h f = go (turn_is n stand e)
  where
    go : {b : Bool} {next : List Edge} → Turn n stand e b next → b ≡ false
    go (must g) = refl
    go (kept g l) = refl
    go (turned g l) = absurd (true≢false (sym g ∙ f))
must-from n stand (e ∷ edges) (suc i) h f = must-from n (stand_after (turns n stand e) e stand) edges i (le_of_suc-le-suc h) f

module _ (n : ℕ) (edges : List TableEdge) where
  pub oriented-length : length (oriented n edges) ≡ length edges
  unfolding oriented
  oriented-length = length_from n (must_of edges) edges

  module _ (i : ℕ) (h : i < length edges) where
    abbrev own : Edge
    own = own_edge (get_or edges i no_table_edge)

    abbrev given : OrientedEdge
    given = get_or (oriented n edges) i no_oriented_edge

    pub oriented-edge : given ≡ orient given.turned own
    unfolding oriented
    oriented-edge = edge-from n (must_of edges) edges i h

    -- a must edge is never turned
    pub oriented-must : (get_or edges i no_table_edge).soft ≡ false → given.turned ≡ false
    unfolding oriented
    oriented-must f = must-from n (must_of edges) edges i h f

    pub oriented-gap : given.edge.gap ≡ own.gap
    oriented-gap = ap (λ (e : OrientedEdge). e.edge.gap) oriented-edge ∙ go given.turned
      where
        go : (b : Bool) → (orient b own).edge.gap ≡ own.gap
        go true = refl
        go false = refl

    pub oriented-weight : given.edge.weight ≡ own.weight
    oriented-weight = ap (λ (e : OrientedEdge). e.edge.weight) oriented-edge ∙ go given.turned
      where
        go : (b : Bool) → (orient b own).edge.weight ≡ own.weight
        go true = refl
        go false = refl

    -- one that is not turned stays as it is, and one that is has its ends exchanged
    pub oriented-kept : given.turned ≡ false → given.edge ≡ own
    oriented-kept f = ap (λ (e : OrientedEdge). e.edge) oriented-edge ∙ ap (λ (b : Bool). (orient b own).edge) f

    pub oriented-turned : given.turned ≡ true → given.edge ≡ turn own
    oriented-turned t = ap (λ (e : OrientedEdge). e.edge) oriented-edge ∙ ap (λ (b : Bool). (orient b own).edge) t

-- ---- what the row finder asks

-- the edges as kept or turned join the same nodes
pub oriented-within : (n : ℕ) (edges : List TableEdge) → AllApart n edges → Within n (oriented_edges n edges)
oriented-within n edges j i h =
    rw (get_or-map (λ (e : OrientedEdge). e.edge) (oriented n edges) i no_oriented_edge, oriented-edge n edges i inside)
    (go (get_or (oriented n edges) i no_oriented_edge).turned)
  where
    inside : i < length edges
    inside = omega (arith, length-map (oriented n edges) (λ (e : OrientedEdge). e.edge), oriented-length n edges)

    go : (b : Bool) → ((orient b (own_edge (get_or edges i no_table_edge))).edge.from < n) × ((orient b (own_edge (get_or edges i no_table_edge))).edge.to < n)
    go true = ((j i inside).to_in, (j i inside).from_in)
    go false = ((j i inside).from_in, (j i inside).to_in)

-- where the must edges have no lowest node on a loop, the edges as kept or turned have none
pub oriented-none : (n : ℕ) (edges : List TableEdge) → AllApart n edges → lowest_on_loop n (must_of edges) ≡ None
    → lowest_on_loop n (oriented_edges n edges) ≡ None
oriented-none n edges j e =
    (free-iff n (oriented_edges n edges) (oriented-within n edges j)).0
    (oriented-free n edges j ((free-iff n (must_of edges) (must-within n edges j)).1 e))

-- ---- no soft edges

firm-from : (n : ℕ) (stand : List Edge) (edges : List TableEdge) → ((i : ℕ) → i < length edges → (get_or edges i no_table_edge).soft ≡ false)
    → oriented_from n stand edges ≡ map (λ e. orient false (own_edge e)) edges
unfolding oriented_from
firm-from n stand [] firm = refl
firm-from n stand (e ∷ edges) firm =
    go (turn_is n stand e) (firm-from n (stand_after (turns n stand e) e stand) edges (λ i h. firm (suc i) (suc-le-suc h)))
  where
    first : e.soft ≡ false
    first = firm zero (zero-lt-suc (length edges))

    go : {b : Bool} {next : List Edge} → Turn n stand e b next → oriented_from n next edges ≡ map (λ d. orient false (own_edge d)) edges
        → orient b (own_edge e) ∷ oriented_from n next edges ≡ orient false (own_edge e) ∷ map (λ d. orient false (own_edge d)) edges
    go (must f) ih = ap (λ (l : List OrientedEdge). orient false (own_edge e) ∷ l) ih
    go (kept f g) ih = absurd (true≢false (sym f ∙ first))
    go (turned f g) ih = absurd (true≢false (sym f ∙ first))

-- without soft edges every edge stays as it is
pub oriented-firm : (n : ℕ) (edges : List TableEdge) → ((i : ℕ) → i < length edges → (get_or edges i no_table_edge).soft ≡ false)
    → oriented n edges ≡ map (λ e. orient false (own_edge e)) edges
unfolding oriented
oriented-firm n edges firm = firm-from n (must_of edges) edges firm

soft-none : (edges : List TableEdge) → any_soft edges ≡ false → (i : ℕ) → i < length edges → (get_or edges i no_table_edge).soft ≡ false
unfolding any_soft
soft-none [] f i h = absurd (not-suc-le-zero h)
soft-none (e ∷ edges) f i h = go e.soft refl f (soft-none edges) i h
  where
    go : (b : Bool) → e.soft ≡ b → b || any_soft edges ≡ false
        → (any_soft edges ≡ false → (k : ℕ) → k < length edges → (get_or edges k no_table_edge).soft ≡ false)
        → (k : ℕ) → k < length (e ∷ edges) → (get_or (e ∷ edges) k no_table_edge).soft ≡ false
    go true p q ih k l = absurd (true≢false q)
    go false p q ih zero l = p
    go false p q ih (suc k) l = ih q k (le_of_suc-le-suc l)

module _ (n : ℕ) (edges : List TableEdge) (firm : any_soft edges ≡ false) where
  pub firm-plain : oriented_edges n edges ≡ plain_edges edges
  firm-plain = rw (oriented-firm n edges (soft-none edges firm)) (go edges)
    where
      go : (l : List TableEdge) → map (λ (e : OrientedEdge). e.edge) (map (λ e. orient false (own_edge e)) l) ≡ plain_edges l
      go [] = refl
      go (e ∷ l) = ap (λ (r : List Edge). own_edge e ∷ r) (go l)

  pub firm-turned : (i : ℕ) → get_or (turned_edges n edges) i false ≡ false
  firm-turned i = rw (oriented-firm n edges (soft-none edges firm)) (go edges i)
    where
      go : (l : List TableEdge) (k : ℕ) → get_or (map (λ (e : OrientedEdge). e.turned) (map (λ e. orient false (own_edge e)) l)) k false ≡ false
      go [] k = refl
      go (e ∷ l) zero = refl
      go (e ∷ l) (suc k) = go l k

-- and all of them are must edges
pub firm-must : (edges : List TableEdge) → any_soft edges ≡ false → must_of edges ≡ plain_edges edges
unfolding any_soft must_of
firm-must [] f = refl
firm-must (e ∷ edges) f = go e.soft f (firm-must edges)
  where
    go : (b : Bool) → b || any_soft edges ≡ false → (any_soft edges ≡ false → must_of edges ≡ plain_edges edges)
        → cond b (must_of edges) (own_edge e ∷ must_of edges) ≡ own_edge e ∷ plain_edges edges
    go true q ih = absurd (true≢false q)
    go false q ih = ap (λ (r : List Edge). own_edge e ∷ r) (ih q)

-- ---- which are turned says all

pub turned-length : (n : ℕ) (edges : List TableEdge) → length (turned_edges n edges) ≡ length edges
turned-length n edges = length-map (oriented n edges) (λ (e : OrientedEdge). e.turned) ∙ oriented-length n edges

directed-from : (n : ℕ) (stand : List Edge) (edges : List TableEdge)
    → directed_by (map (λ (e : OrientedEdge). e.turned) (oriented_from n stand edges)) edges ≡ map (λ (e : OrientedEdge). e.edge) (oriented_from n stand edges)
unfolding directed_by oriented_from
directed-from n stand [] = refl
directed-from n stand (e ∷ edges) =
    ap (λ (r : List Edge). (orient (turns n stand e) (own_edge e)).edge ∷ r)
    (directed-from n (stand_after (turns n stand e) e stand) edges)

-- the edges directed by which are turned are the edges as kept or turned
pub directed-oriented : (n : ℕ) (edges : List TableEdge) → directed_by (turned_edges n edges) edges ≡ oriented_edges n edges
unfolding oriented
directed-oriented n edges = directed-from n (must_of edges) edges

-- ---- an example that computes

abbrev arrow : ℕ → ℕ → Bool → TableEdge
arrow f t soft = record { from = f; to = t; gap = 1; weight = 2; soft = soft }

-- A must edge 1 to 2 behind soft ones round a loop: 0 to 1 is kept, and 2 to 0 is turned, as is another 2 to 1; 0 to 2 is kept.
pub oriented-example :
    oriented 3 (arrow 0 1 true ∷ arrow 2 0 true ∷ arrow 1 2 false ∷ arrow 2 1 true ∷ arrow 0 2 true ∷ [])
    ≡ orient false (own_edge (arrow 0 1 true)) ∷ orient true (own_edge (arrow 2 0 true)) ∷ orient false (own_edge (arrow 1 2 false)) ∷ orient true (own_edge (arrow 2 1 true))
    ∷ orient false (own_edge (arrow 0 2 true)) ∷ []
unfolding mark sweep sweeps reached must_of leads turns stand_after oriented_from oriented
oriented-example = refl
