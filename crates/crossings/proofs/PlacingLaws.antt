-- Segments as flat lists place them: how many, which, and that they are those of the order whose positions the lists hold.
use mathlib.Core.Path.{◌≡◌, refl, sym, ap, ◌∙◌, subst}
use mathlib.Core.List.{List, [], ◌∷◌, map}
use Prim.Native.Nat.{ℕ, zero, suc, ◌<◌}
use native.Mathlib.Nat.{not-suc-le-zero, le_of_suc-le-suc, zero-add}
use lib.ListN.{length, get_or, length-map}
use lib.Seq.{ext_get_or}
use Rattle.graph.specs.Rows.{at}
use Rattle.graph.specs.Search.{run}
use Rattle.points.specs.Points.{Segment}
use Rattle.points.specs.Laying.{uppers, lowers}
use Rattle.points.specs.Positions.{place}
use Rattle.crossings.specs.Crossings.{PlacedSegment, placed, crossing_pairs, crossings}
use Rattle.buffers.specs.Lists.{Below}
use Rattle.buffers.proofs.RunLaws.{run_length, run_at}
use Rattle.crossings.specs.Placing.{placed_at, placed_by}

map_at : {A B : Type 0} (f : A → B) (l : List A) (i : ℕ) (d : B) (e : A) → i < length l → get_or (map f l) i d ≡ f (get_or l i e)
map_at f [] i d e h = absurd (not-suc-le-zero h)
map_at f (x ∷ l) zero d e h = refl
map_at f (x ∷ l) (suc i) d e h = map_at f l i d e (le_of_suc-le-suc h)

-- Flat lists place as many segments as there are upper ends, and the one at k is segment k.
module _ (upper lower row pos : List ℕ) where
  pub length-placed_by : length (placed_by upper lower row pos) ≡ length upper
  unfolding placed_by
  length-placed_by = simp length-map (run_length 0 (length upper))

  pub placed-at : (k : ℕ) (d : PlacedSegment) → k < length upper → get_or (placed_by upper lower row pos) k d ≡ placed_at upper lower row pos k
  unfolding placed_by
  placed-at k d h =
      map_at (placed_at upper lower row pos) (run 0 (length upper)) k d 0 (rw run_length h) ∙ ap (placed_at upper lower row pos) (run_at 0 (length upper) k 0 h ∙ zero-add k)

-- what stands past the end of a list of segments
abbrev no_segment : Segment
no_segment = record { upper = 0; lower = 0 }

-- Flat lists place the segments as the order does, where they hold the ends of the segments and, for the n points, the rows and the
-- places in the order: segment by segment both sides read the same three numbers.
module _ (ys : List ℕ) (order : List (List ℕ)) (n : ℕ) (row pos : List ℕ)
    (rows : (p : ℕ) → p < n → at row p ≡ at ys p) (places : (p : ℕ) → p < n → at pos p ≡ place ys order p) where
  placed_one : (a b : ℕ) → a < n → b < n
      → ◌≡◌ {A = PlacedSegment} (record { row = at row a; upper = at pos a; lower = at pos b }) (placed ys order (record { upper = a; lower = b }))
  placed_one a b ha hb = rw (rows a ha, places a ha, places b hb)

  placed-segments : (segs : List Segment) → Below n (uppers segs) → Below n (lowers segs)
      → placed_by (uppers segs) (lowers segs) row pos ≡ map (placed ys order) segs
  placed-segments segs above below =
      ext_get_or (placed ys order no_segment) (placed_by (uppers segs) (lowers segs) row pos) (map (placed ys order) segs)
      (length-placed_by (uppers segs) (lowers segs) row pos ∙ simp length-map)
      (λ i h. each i (simp (length-placed_by, length-map) at h))
    where
      each : (i : ℕ) → i < length segs
          → get_or (placed_by (uppers segs) (lowers segs) row pos) i (placed ys order no_segment) ≡ get_or (map (placed ys order) segs) i (placed ys order no_segment)
      each i h =
          let e : at (uppers segs) i ≡ (get_or segs i no_segment).upper = map_at (λ (s : Segment). s.upper) segs i 0 no_segment h in
          let f : at (lowers segs) i ≡ (get_or segs i no_segment).lower = map_at (λ (s : Segment). s.lower) segs i 0 no_segment h in
          placed-at (uppers segs) (lowers segs) row pos i (placed ys order no_segment) (simp length-map h)
          ∙ placed_one (at (uppers segs) i) (at (lowers segs) i) (above.below i (simp length-map h)) (below.below i (simp length-map h))
          ∙ ap (λ (a : ℕ). placed ys order (record { upper = a; lower = at (lowers segs) i })) e
          ∙ ap (λ (b : ℕ). placed ys order (record { upper = (get_or segs i no_segment).upper; lower = b })) f
          ∙ sym (map_at (placed ys order) segs i (placed ys order no_segment) no_segment h)

  -- so the pairs that cross are as many in the flat lists as in the order
  pub crossings-placed : (segs : List Segment) (upper lower : List ℕ) → upper ≡ uppers segs → lower ≡ lowers segs
      → Below n upper → Below n lower → crossing_pairs (placed_by upper lower row pos) ≡ crossings ys segs order
  unfolding crossings
  crossings-placed segs upper lower e f above below =
      ap crossing_pairs (lists-same ∙ placed-segments segs (subst (Below n) e above) (subst (Below n) f below))
    where
      lists-same : placed_by upper lower row pos ≡ placed_by (uppers segs) (lowers segs) row pos
      lists-same = ap (λ (l : List ℕ). placed_by l lower row pos) e ∙ ap (λ (l : List ℕ). placed_by (uppers segs) l row pos) f
