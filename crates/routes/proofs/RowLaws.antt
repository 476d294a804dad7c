-- Along a line each stroke goes to the next row: downwards, or upwards if it is turned.
use mathlib.Core.Path.{◌≡◌, sym, ap, ◌∙◌}
use mathlib.Core.Bool.{Bool, true, false, true≢false}
use mathlib.Core.Logic.{◌⊎◌, inl, inr}
use mathlib.Core.List.{List, [], ◌∷◌, ◌++◌}
use Rattle.std.specs.Prelude.{Some, slice_get}
use Prim.Native.Nat.{ℕ, suc, ◌+◌, ◌-◌, ◌<◌}
use native.Mathlib.Nat.{zero-lt-suc}
use native.Mathlib.Decide.{dec_lt}
use native.Mathlib.Omega.{arith}
use lib.ListN.{length, get_or, drop, get_or-append}
use lib.Seq.{get_or-drop, drop-drop, drop_at, drop-append_seam}
use Rattle.graph.specs.Directed.{directed}
use Rattle.graph.specs.Rows.{at}
use Rattle.graph.specs.Search.{run}
use Rattle.buffers.proofs.RunLaws.{run_length, run_at}
use Rattle.points.specs.Points.{between, point_rows}
use Rattle.points.proofs.EdgeLaws.{dummy_rows}
use Rattle.points.proofs.PointLaws.{rows_are}
use Rattle.points.proofs.NeighbourLaws.{Leads, AllLead, leads-tail}
use Rattle.merging.specs.declared.MergedEdge.{MergedEdge}
use Rattle.merging.specs.Merged.{as_edge, drawn_edge, drawn_edges}
use Rattle.routes.specs.declared.Visit.{Visit}
use Rattle.routes.specs.Routes.{line_visits, visits_from}
use Rattle.routes.proofs.VisitLaws.{OnLine, at-start, at-end, at-dummy, on_line}
use Rattle.routes.proofs.FindLaws.{elem-front, elem-behind}

-- a row is i rows below row r, or i rows above it
abbrev pub RowsOn : Bool → ℕ → ℕ → ℕ → Type 0
RowsOn true r i row = row + i ≡ r
RowsOn false r i row = row ≡ r + i

-- one row is the next one below the other or above it
abbrev pub Neighbouring : ℕ → ℕ → Type 0
Neighbouring a b = (b ≡ suc a) ⊎ (a ≡ suc b)

rows_next : (turned : Bool) (r i : ℕ) {a b : ℕ} → RowsOn turned r i a → RowsOn turned r (suc i) b → Neighbouring a b
rows_next true r i p q = inr (omega arith)
rows_next false r i p q = inl (omega arith)

module _ (ys rows : List ℕ) (nodes : (p : ℕ) → p < length ys → at rows p ≡ at ys p) where
  -- ---- one line

  -- the dummies of a line whose upper end stands in row r
  dummy-row : (d k r : ℕ) (rest : List ℕ) → drop d rows ≡ run (suc r) k ++ rest → (j : ℕ) → j < k → at rows (d + j) ≡ suc r + j
  dummy-row d k r rest e j h =
      sym (get_or-drop d rows j 0) ∙ ap (λ (l : List ℕ). at l j) e ∙ get_or-append (run (suc r) k) rest 0 j (omega (arith, run_length (suc r) k))
      ∙ run_at (suc r) k j 0 h

  -- the row of a stroke's point, as its place along the line says
  module _ (e : MergedEdge) (d i : ℕ) (v : Visit) (rest : List ℕ) where
    abbrev Behind : Bool → Type 0
    Behind b = drop d rows ≡ run (suc (at ys (directed b (as_edge e)).from)) (between ys (directed b (as_edge e))) ++ rest

    pub line_row : (b : Bool) → Leads ys (directed b (as_edge e)) → Behind b → OnLine b e d (between ys (directed b (as_edge e))) i v
        → RowsOn b (at ys e.from) i (at rows v.point)
    line_row true l f (at-start z s) = omega (arith, ap (λ (v : Visit). at rows v.point) s, nodes e.from l.head_node)
    line_row true l f (at-end z s) = omega (arith, ap (λ (v : Visit). at rows v.point) s, nodes e.to l.tail_node, l.down)
    line_row true l f (at-dummy h m s) =
        let k = at ys e.from - at ys e.to - 1 in
        let place : d + k - i ≡ d + (k - i) = omega arith in
        omega (
          arith,
          ap (λ (v : Visit). at rows v.point) s,
          ap (at rows) place,
          dummy-row d k (at ys e.to) rest f (k - i) (omega arith),
          l.down,
        )
    line_row false l f (at-start z s) = omega (arith, ap (λ (v : Visit). at rows v.point) s, nodes e.from l.tail_node)
    line_row false l f (at-end z s) = omega (arith, ap (λ (v : Visit). at rows v.point) s, nodes e.to l.head_node, l.down)
    line_row false l f (at-dummy h m s) =
        let k = at ys e.to - at ys e.from - 1 in
        let place : d + i - 1 ≡ d + (i - 1) = omega arith in
        omega (
          arith,
          ap (λ (v : Visit). at rows v.point) s,
          ap (at rows) place,
          dummy-row d k (at ys e.from) rest f (i - 1) (omega arith),
        )

  -- ---- all lines

  module _ (turned : List Bool) where
    -- the first stroke is a move
    first-moves : (d : ℕ) (edges : List MergedEdge) (w : Visit) → slice_get (visits_from ys turned d edges) 0 ≡ Some w → w.start ≡ true
    unfolding visits_from line_visits
    first-moves d [] w e = let z : ◌≡◌ {A = ℕ} 0 1 = cc in absurd (omega arith)
    first-moves d (e ∷ edges) w s = cc

    pub rows-neighbour : (d : ℕ) (edges : List MergedEdge) → AllLead ys (drawn_edges turned edges) → drop d rows ≡ dummy_rows ys (drawn_edges turned edges)
        → (i : ℕ) (v w : Visit) → slice_get (visits_from ys turned d edges) i ≡ Some v → slice_get (visits_from ys turned d edges) (suc i) ≡ Some w
        → w.start ≡ false → Neighbouring (at rows v.point) (at rows w.point)
    unfolding visits_from drawn_edges dummy_rows
    rows-neighbour d [] l f i v w p q s = let z : ◌≡◌ {A = ℕ} 0 1 = cc in absurd (omega arith)
    rows-neighbour d (e ∷ edges) l f i v w p q s =
        go (rows-neighbour (d + k) edges (leads-tail l) behind) (dec_lt (suc i) (length line)) (dec_lt i (length line))
      where
        flag : Bool
        flag = get_or turned e.first false

        k : ℕ
        k = between ys (drawn_edge turned e)

        r : ℕ
        r = at ys (drawn_edge turned e).from

        line : List Visit
        line = line_visits flag e d k

        rest : List Visit
        rest = visits_from ys turned (d + k) edges

        behind : drop (d + k) rows ≡ dummy_rows ys (drawn_edges turned edges)
        behind = sym (drop-drop k d rows) ∙ ap (drop k) f ∙ drop_at (run (suc r) k) (dummy_rows ys (drawn_edges turned edges)) k (run_length (suc r) k)

        on : (j : ℕ) (u : Visit) → slice_get line j ≡ Some u → RowsOn flag (at ys e.from) j (at rows u.point)
        on j u x = line_row e d j u (dummy_rows ys (drawn_edges turned edges)) flag (l.leads 0 (zero-lt-suc _)) f (on_line flag e d k j u x)

        go : ((i : ℕ) (v w : Visit) → slice_get rest i ≡ Some v → slice_get rest (suc i) ≡ Some w → w.start ≡ false → Neighbouring (at rows v.point) (at rows w.point))
            → Dec (suc i < length line) → Dec (i < length line) → Neighbouring (at rows v.point) (at rows w.point)
        go later (yes h) x =
            rows_next flag (at ys e.from) i (on i v (sym (elem-front line rest i (omega arith)) ∙ p)) (on (suc i) w (sym (elem-front line rest (suc i) h) ∙ q))
        go later (no n) (yes h) =
            let first : suc i - length line ≡ 0 = omega (arith, n) in
            absurd (true≢false (sym (first-moves (d + k) edges w (ap (slice_get rest) (sym first) ∙ sym (elem-behind line rest (suc i) (omega (arith, n))) ∙ q)) ∙ s))
        go later (no n) (no m) =
            let next : suc i - length line ≡ suc (i - length line) = omega (arith, m) in
            later (i - length line) v w (sym (elem-behind line rest i (omega (arith, m))) ∙ p)
            (ap (slice_get rest) (sym next) ∙ sym (elem-behind line rest (suc i) (omega (arith, n))) ∙ q) s

-- of a chart: the rows of its points begin with those of the steps
pub strokes-neighbour : (ys : List ℕ) (turned : List Bool) (edges : List MergedEdge) → AllLead ys (drawn_edges turned edges)
    → (i : ℕ) (v w : Visit) → slice_get (visits_from ys turned (length ys) edges) i ≡ Some v
    → slice_get (visits_from ys turned (length ys) edges) (suc i) ≡ Some w → w.start ≡ false
    → Neighbouring (at (point_rows ys (drawn_edges turned edges)) v.point) (at (point_rows ys (drawn_edges turned edges)) w.point)
strokes-neighbour ys turned edges l i v w p q s =
    rw (rows_are ys (drawn_edges turned edges))
    (rows-neighbour ys (ys ++ dummy_rows ys (drawn_edges turned edges)) (λ x h. get_or-append ys (dummy_rows ys (drawn_edges turned edges)) 0 x h) turned (length ys) edges l
    (drop-append_seam ys (dummy_rows ys (drawn_edges turned edges))) i v w p q s)
