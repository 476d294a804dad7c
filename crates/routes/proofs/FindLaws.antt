-- The search for the stroke at an index, line by line.
use mathlib.Core.Path.{◌≡◌, refl, sym, ap, subst, ◌∙◌}
use mathlib.Core.Bool.{Bool, false}
use mathlib.Core.List.{List, [], ◌∷◌, ◌++◌}
use Rattle.std.specs.Prelude.{Some, None, slice_get}
use Prim.Native.Nat.{ℕ, zero, suc, ◌+◌, ◌-◌, ◌≤◌, ◌<◌}
use native.Mathlib.Nat.{not-suc-le-zero, le_of_suc-le-suc}
use native.Mathlib.Numerals.{add-one}
use native.Mathlib.Omega.{arith}
use lib.ListN.{length, get_or, drop, drop_of_length-le}
use lib.Seq.{drop-cons}
use Rattle.graph.specs.declared.Edge.{Edge}
use Rattle.graph.specs.Rows.{at}
use Rattle.points.specs.Points.{between}
use Rattle.points.proofs.EdgeLaws.{between_all}
use Rattle.points.proofs.PointLaws.{points-length}
use Rattle.points.proofs.NeighbourLaws.{Leads}
use Rattle.merging.specs.declared.MergedEdge.{MergedEdge}
use Rattle.merging.specs.Merged.{no_merged_edge, drawn_edge, drawn_edges}
use Rattle.merging.proofs.SameLaws.{drawn-length, drawn-get}
use Rattle.ordering.specs.Calls.{point_count}
use Rattle.spacing.specs.Limits.{max_xs}
use Rattle.routes.specs.declared.Visit.{Visit}
use Rattle.routes.specs.Routes.{line_visits, visits_from}
use Rattle.routes.specs.Finding.{Routable}
use Rattle.routes.proofs.LeadLaws.{chart-lead}
use Rattle.routes.proofs.VisitLaws.{line-count}

-- ---- an index in two lists, one behind the other

pub elem-front : {A : Type 0} (a b : List A) (i : ℕ) → i < length a → slice_get (a ++ b) i ≡ slice_get a i
elem-front [] b i h = absurd (not-suc-le-zero h)
elem-front (x ∷ a) b zero h = refl
elem-front (x ∷ a) b (suc i) h = elem-front a b i (le_of_suc-le-suc h)

pub elem-behind : {A : Type 0} (a b : List A) (i : ℕ) → length a ≤ i → slice_get (a ++ b) i ≡ slice_get b (i - length a)
elem-behind [] b i h = let e : i ≡ i - 0 = omega arith in ap (slice_get b) e
elem-behind (x ∷ a) b zero h = absurd (not-suc-le-zero h)
elem-behind (x ∷ a) b (suc i) h =
    let e : i - length a ≡ suc i - suc (length a) = omega arith in elem-behind a b i (le_of_suc-le-suc h) ∙ ap (slice_get b) e

-- ---- the lines from one on

module _ (ys : List ℕ) (turned : List Bool) (edges : List MergedEdge) where
  abbrev strokes_from : ℕ → ℕ → List Visit
  strokes_from i d = visits_from ys turned d (drop i edges)

  -- how many dummies line i has, and those from it on
  abbrev dummies_of : ℕ → ℕ
  dummies_of i = between ys (drawn_edge turned (get_or edges i no_merged_edge))

  abbrev dummies_from : ℕ → ℕ
  dummies_from i = between_all ys (drawn_edges turned (drop i edges))

  abbrev line_at : ℕ → ℕ → List Visit
  line_at i d = line_visits (get_or turned (get_or edges i no_merged_edge).first false) (get_or edges i no_merged_edge) d (dummies_of i)

  module _ (i : ℕ) (h : i < length edges) where
    next-lines : drop i edges ≡ get_or edges i no_merged_edge ∷ drop (i + 1) edges
    next-lines = drop-cons edges i no_merged_edge h ∙ ap (λ (j : ℕ). get_or edges i no_merged_edge ∷ drop j edges) (sym (add-one i))

    strokes-turn : (d : ℕ) → strokes_from i d ≡ line_at i d ++ strokes_from (i + 1) (d + dummies_of i)
    unfolding visits_from
    strokes-turn d = ap (visits_from ys turned d) next-lines

    dummies-turn : dummies_from i ≡ dummies_of i + dummies_from (i + 1)
    unfolding between_all drawn_edges
    dummies-turn = ap (λ (l : List MergedEdge). between_all ys (drawn_edges turned l)) next-lines

  -- What is sought is at `left` of the strokes of the lines from i on, whose dummies are numbered from d on.
  pub record Seeking (index i d left : ℕ) : Type 0 where
    pub same : slice_get (visits_from ys turned (length ys) edges) index ≡ slice_get (strokes_from i d) left
    pub counted : d + dummies_from i ≡ point_count ys (drawn_edges turned edges)

  pub seeking-start : (index : ℕ) → Seeking index 0 (length ys) index
  seeking-start index = record { same = refl; counted = sym (points-length ys (drawn_edges turned edges)) }

  module _ (index i d left : ℕ) (s : Seeking index i d left) where
    pub seeking-end : length edges ≤ i → slice_get (visits_from ys turned (length ys) edges) index ≡ None
    unfolding visits_from
    seeking-end h = s.same ∙ ap (λ (l : List MergedEdge). slice_get (visits_from ys turned d l) left) (drop_of_length-le edges h)

    module _ (h : i < length edges) (k : ℕ) (e : k ≡ dummies_of i) where
      -- the dummies of line i are among the points
      pub dummies-in : d + k ≤ point_count ys (drawn_edges turned edges)
      dummies-in = omega (arith, s.counted, dummies-turn i h)

      line-long : length (line_at i d) ≡ k + 2
      line-long = omega (arith, line-count (get_or edges i no_merged_edge) d (dummies_of i) (get_or turned (get_or edges i no_merged_edge).first false))

      pub seeking-here : left < k + 2 → slice_get (visits_from ys turned (length ys) edges) index
          ≡ slice_get (line_visits (get_or turned (get_or edges i no_merged_edge).first false) (get_or edges i no_merged_edge) d k) left
      seeking-here l =
          s.same ∙ ap (λ (v : List Visit). slice_get v left) (strokes-turn i h d)
          ∙ elem-front (line_at i d) (strokes_from (i + 1) (d + dummies_of i)) left (omega (arith, line-long))
          ∙ ap (λ (j : ℕ). slice_get (line_visits (get_or turned (get_or edges i no_merged_edge).first false) (get_or edges i no_merged_edge) d j) left) (sym e)

      pub seeking-next : k + 2 ≤ left → Seeking index (i + 1) (d + k) (left - (k + 2))
      seeking-next l =
          record {
            same =
                s.same ∙ ap (λ (v : List Visit). slice_get v left) (strokes-turn i h d)
                ∙ elem-behind (line_at i d) (strokes_from (i + 1) (d + dummies_of i)) left (omega (arith, line-long))
                ∙ ap (λ (j : ℕ). slice_get (strokes_from (i + 1) (d + dummies_of i)) (left - j)) line-long
                ∙ ap (λ (j : ℕ). slice_get (strokes_from (i + 1) (d + j)) (left - (k + 2))) (sym e);
            counted = omega (arith, s.counted, dummies-turn i h);
          }

-- ---- as the code reads them

module _ (ys : List ℕ) (lines : List MergedEdge) (turned : List Bool) (r : Routable ys lines turned) where
  module _ (i : ℕ) (h : i < length lines) where
    abbrev line : MergedEdge
    line = get_or lines i no_merged_edge

    -- a line as it is drawn leads down from step to step
    module _ (g : Edge) (e : g ≡ drawn_edge turned line) where
      pub leads-down : (g.from < length ys) × ((g.to < length ys) × (at ys g.from < at ys g.to))
      leads-down =
          let l = subst (Leads ys) (drawn-get turned lines i h ∙ sym e) ((chart-lead ys (drawn_edges turned lines) r.chart).leads i (omega (arith, h, drawn-length turned lines))) in
          (l.tail_node, (l.head_node, l.down))

      module _ (k : ℕ) (f : k ≡ at ys g.to - at ys g.from - 1) (index d left : ℕ) (s : Seeking ys turned lines index i d left) where
        dummies-are : k ≡ between ys (drawn_edge turned line)
        dummies-are = f ∙ ap (between ys) e

        pub dummies-few : d + k ≤ max_xs
        dummies-few = omega (arith, dummies-in ys turned lines index i d left s h k dummies-are, r.few)

        pub found_here : left < k + 2 → (v : Visit) → slice_get (line_visits (get_or turned line.first false) line d k) left ≡ Some v
            → Some v ≡ slice_get (visits_from ys turned (length ys) lines) index
        found_here l v found = sym (seeking-here ys turned lines index i d left s h k dummies-are l ∙ found)

        pub found-later : k + 2 ≤ left → Seeking ys turned lines index (i + 1) (d + k) (left - (k + 2))
        found-later l = seeking-next ys turned lines index i d left s h k dummies-are l

  pub found_nowhere : (index d left i : ℕ) → Seeking ys turned lines index i d left → length lines ≤ i
      → None ≡ slice_get (visits_from ys turned (length ys) lines) index
  found_nowhere index d left i s h = sym (seeking-end ys turned lines index i d left s h)
