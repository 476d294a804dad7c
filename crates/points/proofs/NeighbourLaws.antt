-- Segments join points of neighbouring rows.
use mathlib.Core.Path.{◌≡◌, refl, sym, ap, ◌∙◌}
use mathlib.Core.List.{List, [], ◌∷◌, ◌++◌}
use Prim.Native.Nat.{ℕ, zero, suc, ◌+◌, ◌≤◌, ◌<◌, suc-le-suc}
use native.Mathlib.Nat.{not-suc-le-zero, le_of_suc-le-suc, zero-lt-suc}
use native.Mathlib.Omega.{arith}
use lib.ListN.{length, get_or, drop, length-append, length-drop, get_or-append}
use lib.Seq.{get_or-drop, drop-drop, drop_at, drop-append_seam}
use Rattle.graph.specs.declared.Edge.{Edge}
use Rattle.graph.specs.Rows.{at, span, no_edge, Feasible, Within}
use Rattle.graph.specs.Search.{run}
use Rattle.points.specs.Points.{Segment, between, point_rows, chain, segments_from, segments}
use Rattle.buffers.specs.Lists.{Below}
use Rattle.points.specs.Laying.{edges_between, Chart, uppers, lowers}
use Rattle.buffers.proofs.RunLaws.{run_length}
use Rattle.points.proofs.EdgeLaws.{between_all, dummy_rows, edges-length, edge_at, tail-in, head_in}
use Rattle.points.proofs.PointLaws.{rows_are, segments-length}

-- an edge leads down from node to node
pub record Leads (ys : List ℕ) (e : Edge) : Type 0 where
  pub tail_node : e.from < length ys
  pub head_node : e.to < length ys
  pub down : at ys e.from < at ys e.to

pub record AllLead (ys : List ℕ) (edges : List Edge) : Type 0 where
  pub leads : (i : ℕ) → i < length edges → Leads ys (get_or edges i no_edge)

-- ---- as many segments as the edges have rows of length

unfoldable pub span_all : List ℕ → List Edge → ℕ
span_all ys [] = 0
span_all ys (e ∷ edges) = span (at ys) e + span_all ys edges

pub leads-tail : {ys : List ℕ} {e : Edge} {edges : List Edge} → AllLead ys (e ∷ edges) → AllLead ys edges
leads-tail l = record { leads = λ i h. l.leads (suc i) (suc-le-suc h) }

spans : (ys : List ℕ) (edges : List Edge) → AllLead ys edges → length edges + between_all ys edges ≡ span_all ys edges
unfolding span_all between_all
spans ys [] l = refl
spans ys (e ∷ edges) l = omega (arith, (l.leads zero (zero-lt-suc (length edges))).down, spans ys edges (leads-tail l))

pub segments-total : (ys : List ℕ) (edges : List Edge) → AllLead ys edges → length (segments ys edges) ≡ span_all ys edges
unfolding segments
segments-total ys edges l = segments-length ys (length ys) edges ∙ spans ys edges l

-- ---- neighbouring rows

-- a segment joins two points, of which the lower stands in the next row
pub record Joins (rows : List ℕ) (s : Segment) : Type 0 where
  pub upper_in : s.upper < length rows
  pub lower_in : s.lower < length rows
  pub next : at rows s.lower ≡ suc (at rows s.upper)

data AllJoin (rows : List ℕ) : List Segment → Type 0 where
  none : AllJoin rows []
  more : {s : Segment} {segs : List Segment} → Joins rows s → AllJoin rows segs → AllJoin rows (s ∷ segs)

join-append : {rows : List ℕ} {xs zs : List Segment} → AllJoin rows xs → AllJoin rows zs → AllJoin rows (xs ++ zs)
join-append none j = j
join-append (more s i) j = more s (join-append i j)

-- The chain of an edge whose tail stands in row r: the dummies from d on stand in the rows r + 1 to r + k, and the head in the next.
-- So the first segment leads from row r to row r + 1, and what is left is the chain from its dummy.
chain-joins : (rows rest : List ℕ) (a b d k r : ℕ) → drop d rows ≡ run (suc r) k ++ rest → a < length rows → at rows a ≡ r
    → b < length rows → at rows b ≡ suc (r + k) → AllJoin rows (chain a b d k)
unfolding chain run
chain-joins rows rest a b d zero r e la ea lb eb = more (record { upper_in = la; lower_in = lb; next = omega arith }) none
chain-joins rows rest a b d (suc k) r e la ea lb eb =
    let ld : d < length rows = omega (arith, length-drop d rows, ap length e) in
    let z : d + 0 ≡ d = omega arith in
    let ed : at rows d ≡ suc r = ap (at rows) (sym z) ∙ sym (get_or-drop d rows 0 0) ∙ ap (λ l. at l 0) e in
    let s : suc d ≡ d + 1 = omega arith in
    let behind : drop (suc d) rows ≡ run (suc (suc r)) k ++ rest = ap (λ i. drop i rows) s ∙ sym (drop-drop 1 d rows) ∙ ap (drop 1) e in
    more (record { upper_in = la; lower_in = ld; next = ed ∙ ap suc (sym ea) })
    (chain-joins rows rest d b (suc d) k (suc r) behind ld ed lb (omega arith))

module _ (ys rows : List ℕ) (long : length ys ≤ length rows) (nodes : (x : ℕ) → x < length ys → at rows x ≡ at ys x) where
  edges-join : (d : ℕ) (edges : List Edge) → drop d rows ≡ dummy_rows ys edges → AllLead ys edges → AllJoin rows (segments_from ys d edges)
  unfolding segments_from dummy_rows
  edges-join d [] e l = none
  edges-join d (g ∷ edges) e l =
      let h = l.leads zero (zero-lt-suc (length edges)) in
      let r = at ys g.from in
      let k = between ys g in
      let behind : drop (d + k) rows ≡ dummy_rows ys edges =
      sym (drop-drop k d rows) ∙ ap (drop k) e ∙ drop_at (run (suc r) k) (dummy_rows ys edges) k (run_length (suc r) k) in
      join-append
      (chain-joins rows (dummy_rows ys edges) g.from g.to d k r e
      (omega (arith, h.tail_node)) (nodes g.from h.tail_node)
      (omega (arith, h.head_node)) (nodes g.to h.head_node ∙ omega (arith, h.down)))
      (edges-join (d + k) edges behind (leads-tail l))

-- The rows of the points begin with those of the nodes, and behind them stand the runs of the edges, in the order in which the
-- segments number their dummies.
segments-join : (ys : List ℕ) (edges : List Edge) → AllLead ys edges → AllJoin (point_rows ys edges) (segments ys edges)
unfolding segments
segments-join ys edges l = rw (rows_are ys edges)
    (edges-join ys (ys ++ dummy_rows ys edges) (omega (arith, length-append ys (dummy_rows ys edges)))
    (λ x h. get_or-append ys (dummy_rows ys edges) 0 x h) (length ys) edges (drop-append_seam ys (dummy_rows ys edges)) l)

join-uppers : {rows : List ℕ} {segs : List Segment} → AllJoin rows segs → (j : ℕ) → j < length (uppers segs) → at (uppers segs) j < length rows
join-uppers none j h = absurd (not-suc-le-zero h)
join-uppers (more s i) zero h = s.upper_in
join-uppers (more s i) (suc j) h = join-uppers i j (le_of_suc-le-suc h)

join-lowers : {rows : List ℕ} {segs : List Segment} → AllJoin rows segs → (j : ℕ) → j < length (lowers segs) → at (lowers segs) j < length rows
join-lowers none j h = absurd (not-suc-le-zero h)
join-lowers (more s i) zero h = s.lower_in
join-lowers (more s i) (suc j) h = join-lowers i j (le_of_suc-le-suc h)

join-next : {rows : List ℕ} {segs : List Segment} → AllJoin rows segs → (j : ℕ) → j < length segs
    → at rows (at (lowers segs) j) ≡ suc (at rows (at (uppers segs) j))
join-next none j h = absurd (not-suc-le-zero h)
join-next (more s i) zero h = s.next
join-next (more s i) (suc j) h = join-next i j (le_of_suc-le-suc h)

-- every end of a segment is a point, and its lower end stands one row below its upper
module _ (ys : List ℕ) (edges : List Edge) (l : AllLead ys edges) where
  pub uppers-in : Below (length (point_rows ys edges)) (uppers (segments ys edges))
  uppers-in = record { below = join-uppers (segments-join ys edges l) }

  pub lowers-in : Below (length (point_rows ys edges)) (lowers (segments ys edges))
  lowers-in = record { below = join-lowers (segments-join ys edges l) }

  pub neighbours : (j : ℕ) → j < length (segments ys edges)
      → at (point_rows ys edges) (at (lowers (segments ys edges)) j) ≡ suc (at (point_rows ys edges) (at (uppers (segments ys edges)) j))
  neighbours = join-next (segments-join ys edges l)

-- the edges of a chart lead down, and so do edges with feasible rows and gaps of one row or more
pub chart-leads : {ys from to : List ℕ} → Chart ys from to → AllLead ys (edges_between from to)
chart-leads {ys} {from} {to} c = record { leads = λ i h. lead i (omega (arith, edges-length from to)) }
  where
    lead : (i : ℕ) → i < length from → Leads ys (get_or (edges_between from to) i no_edge)
    lead i h = rw (edge_at from to i h) (record { tail_node = tail-in c i h; head_node = head_in c i h; down = c.down i h })

pub feasible-leads : {ys : List ℕ} {edges : List Edge} → Within (length ys) edges → Feasible edges (at ys)
    → ((i : ℕ) → i < length edges → 0 < (get_or edges i no_edge).gap) → AllLead ys edges
feasible-leads {ys} {edges} w f g =
    record { leads = λ i h. record { tail_node = (w i h).0; head_node = (w i h).1; down = omega (arith, f i h, g i h) } }
