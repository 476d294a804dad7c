-- Where the strokes of a chart go: to its points, from row to neighbouring row; and how many there are.
use mathlib.Core.Path.{◌≡◌, refl, sym, ap, ◌∙◌}
use mathlib.Core.Bool.{Bool, true, false}
use mathlib.Core.List.{List, [], ◌∷◌}
use Rattle.std.specs.Prelude.{Some, slice_get}
use Prim.Native.Nat.{ℕ, ◌+◌, ◌-◌, ◌*◌, ◌≤◌, ◌<◌}
use native.Mathlib.Nat.{zero-lt-suc}
use native.Mathlib.Decide.{dec_lt}
use native.Mathlib.Omega.{arith}
use lib.ListN.{length, get_or, length-append}
use Rattle.graph.specs.Directed.{directed}
use Rattle.points.specs.Points.{between, segments}
use Rattle.points.proofs.EdgeLaws.{between_all}
use Rattle.points.proofs.PointLaws.{segments-length}
use Rattle.points.proofs.NeighbourLaws.{Leads, AllLead, leads-tail}
use Rattle.merging.specs.declared.MergedEdge.{MergedEdge}
use Rattle.merging.specs.Merged.{as_edge, drawn_edge, drawn_edges}
use Rattle.merging.proofs.SameLaws.{drawn-length}
use Rattle.routes.specs.declared.Visit.{Visit}
use Rattle.routes.specs.Routes.{line_visits, visits_from}
use Rattle.routes.proofs.VisitLaws.{line-count, OnLine, at-start, at-end, at-dummy, on_line}
use Rattle.routes.proofs.FindLaws.{elem-front, elem-behind}

-- ---- how many

-- two more for each line than it has dummies
visits-count : (ys : List ℕ) (turned : List Bool) (d : ℕ) (edges : List MergedEdge)
    → length (visits_from ys turned d edges) ≡ between_all ys (drawn_edges turned edges) + 2 * length edges
unfolding visits_from between_all drawn_edges
visits-count ys turned d [] = refl
visits-count ys turned d (e ∷ edges) =
    let k = between ys (drawn_edge turned e) in
    let line = line_visits (get_or turned e.first false) e d k in
    omega (
      arith,
      length-append line (visits_from ys turned (d + k) edges),
      line-count e d k (get_or turned e.first false),
      visits-count ys turned (d + k) edges,
    )

-- as many as the segments and the lines together
pub strokes-counted : (ys : List ℕ) (turned : List Bool) (edges : List MergedEdge)
    → length (visits_from ys turned (length ys) edges) ≡ length (segments ys (drawn_edges turned edges)) + length edges
unfolding segments
strokes-counted ys turned edges =
    omega (
      arith,
      visits-count ys turned (length ys) edges,
      segments-length ys (length ys) (drawn_edges turned edges),
      drawn-length turned edges,
    )

-- ---- they go to points

module _ (ys : List ℕ) (n : ℕ) (few : length ys ≤ n) where
  on-line-in : (b : Bool) (e : MergedEdge) (d k i : ℕ) (v : Visit) → Leads ys (directed b (as_edge e)) → d + k ≤ n → OnLine b e d k i v → v.point < n
  on-line-in true e d k i v l f (at-start z s) = omega (arith, ap (λ (v : Visit). v.point) s, l.head_node)
  on-line-in true e d k i v l f (at-end z s) = omega (arith, ap (λ (v : Visit). v.point) s, l.tail_node)
  on-line-in true e d k i v l f (at-dummy h m s) = omega (arith, ap (λ (v : Visit). v.point) s)
  on-line-in false e d k i v l f (at-start z s) = omega (arith, ap (λ (v : Visit). v.point) s, l.tail_node)
  on-line-in false e d k i v l f (at-end z s) = omega (arith, ap (λ (v : Visit). v.point) s, l.head_node)
  on-line-in false e d k i v l f (at-dummy h m s) = omega (arith, ap (λ (v : Visit). v.point) s)

  module _ (turned : List Bool) where
    pub visits-in : (d : ℕ) (edges : List MergedEdge) → AllLead ys (drawn_edges turned edges) → d + between_all ys (drawn_edges turned edges) ≤ n
        → (i : ℕ) (v : Visit) → slice_get (visits_from ys turned d edges) i ≡ Some v → v.point < n
    unfolding visits_from between_all drawn_edges
    visits-in d [] l f i v e = let z : ◌≡◌ {A = ℕ} 0 1 = cc in absurd (omega arith)
    visits-in d (e ∷ edges) l f i v s =
        go (visits-in (d + between ys (drawn_edge turned e)) edges (leads-tail l) (omega arith)) (dec_lt i (length line))
      where
        line : List Visit
        line = line_visits (get_or turned e.first false) e d (between ys (drawn_edge turned e))

        rest : List Visit
        rest = visits_from ys turned (d + between ys (drawn_edge turned e)) edges

        go : ((i : ℕ) (v : Visit) → slice_get rest i ≡ Some v → v.point < n) → Dec (i < length line) → v.point < n
        go later (yes h) =
            on-line-in (get_or turned e.first false) e d (between ys (drawn_edge turned e)) i v (l.leads 0 (zero-lt-suc _)) (omega arith)
            (on_line (get_or turned e.first false) e d (between ys (drawn_edge turned e)) i v (sym (elem-front line rest i h) ∙ s))
        go later (no h) = later (i - length line) v (sym (elem-behind line rest i (omega (arith, h))) ∙ s)
