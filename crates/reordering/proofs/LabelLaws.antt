-- The segments between a row and the row above it, labelled by the points that they end at: with the row in any order these are what
-- the chart's own crossings count.
use mathlib.Core.Path.{◌≡◌, refl, ap, ◌∙◌}
use mathlib.Core.Bool.{Bool, true, false, ◌||◌, cond}
use mathlib.Core.List.{List, [], ◌∷◌, map}
use Prim.Native.Nat.{ℕ, ◌-◌, ◌<◌}
use native.Mathlib.Omega.{arith}
use lib.Dec.{eqb}
use lib.ListN.{length, get_or, set}
use lib.Seq.{get_or-set_same, get_or-set_other}
use borrow.Author.Tests.{eqb-true}
use Rattle.graph.specs.Rows.{at}
use Rattle.points.specs.Points.{Segment}
use Rattle.points.specs.Positions.{position, place}
use Rattle.points.proofs.NeighbourLaws.{Joins}
use Rattle.crossings.specs.Crossings.{PlacedSegment, placed, in_row, crossing_pairs, crossings_between}
use Rattle.pairs.specs.Segments.{reordered, crossings_in, only, pair_crossings}
use Rattle.reordering.specs.RowOrder.{row_crossings, segments_to, pair_above}

-- a segment by the row and the position of its upper end and by the point that it ends at
abbrev pub labelled : List ℕ → List (List ℕ) → Segment → PlacedSegment
labelled ys o s = record { row = at ys s.upper; upper = place ys o s.upper; lower = s.lower }

-- those from row r
abbrev pub labelled_in : List ℕ → List Segment → List (List ℕ) → ℕ → List PlacedSegment
labelled_in ys segs o r = in_row r (map (labelled ys o) segs)

-- each leads to the row below
pub data Descending (ys : List ℕ) : List Segment → Type 0 where
  level : Descending ys []
  descends : {s : Segment} {segs : List Segment} → Joins ys s → Descending ys segs → Descending ys (s ∷ segs)

place-own : (ys : List ℕ) (o : List (List ℕ)) (r : ℕ) (q : List ℕ) (p : ℕ) → r < length o → at ys p ≡ r → place ys (set o r q) p ≡ position p q
unfolding place
place-own ys o r q p h e = ap (λ (k : ℕ). position p (get_or (set o r q) k [])) e ∙ ap (position p) (get_or-set_same o r q [] h)

place_other : (ys : List ℕ) (o : List (List ℕ)) (r : ℕ) (q : List ℕ) (p : ℕ) → (at ys p ≡ r → ⊥) → place ys (set o r q) p ≡ place ys o p
unfolding place
place_other ys o r q p n = ap (position p) (get_or-set_other o r (at ys p) q [] n)

module _ (ys : List ℕ) (o : List (List ℕ)) (r : ℕ) (q : List ℕ) (h : 0 < r) (l : r < length o) where
  one_set : (s : Segment) → Joins ys s → at ys s.upper ≡ r - 1 → placed ys (set o r q) s ≡ reordered q (labelled ys o s)
  one_set s d e =
      rw (
        place_other ys o r q s.upper (λ k. omega (arith, e, k)),
        place-own ys o r q s.lower l (omega (arith, d.next, e)),
      )

  -- With another list for row r the segments from the row above it end where their points stand in that list.
  pub set-labelled : (segs : List Segment) → Descending ys segs → in_row (r - 1) (map (placed ys (set o r q)) segs) ≡ map (reordered q) (labelled_in ys segs o (r - 1))
  unfolding in_row
  set-labelled [] level = refl
  set-labelled (s ∷ segs) (descends d rest) = go (eqb (at ys s.upper) (r - 1)) refl (set-labelled segs rest)
    where
      go : (b : Bool) → eqb (at ys s.upper) (r - 1) ≡ b → in_row (r - 1) (map (placed ys (set o r q)) segs) ≡ map (reordered q) (labelled_in ys segs o (r - 1))
          → cond b (placed ys (set o r q) s ∷ in_row (r - 1) (map (placed ys (set o r q)) segs)) (in_row (r - 1) (map (placed ys (set o r q)) segs))
          ≡ map (reordered q) (cond b (labelled ys o s ∷ labelled_in ys segs o (r - 1)) (labelled_in ys segs o (r - 1)))
      go true e i = rw (one_set s d (eqb-true (at ys s.upper) (r - 1) e), i)
      go false e i = i

  -- So their crossings are those of the labelled segments with the row in that order.
  pub row-crossings : (segs : List Segment) → Descending ys segs → row_crossings ys segs o r q ≡ crossings_in (labelled_in ys segs o (r - 1)) q
  unfolding crossings_between crossings_in
  row-crossings segs d = ap crossing_pairs (set-labelled segs d)

-- ---- two points alone

module _ (p q : ℕ) where
  to-descends : (ys : List ℕ) (segs : List Segment) → Descending ys segs → Descending ys (segments_to p q segs)
  unfolding segments_to
  to-descends ys [] level = level
  to-descends ys (s ∷ segs) (descends d rest) = go (eqb s.lower p || eqb s.lower q) (to-descends ys segs rest)
    where
      go : (b : Bool) → Descending ys (segments_to p q segs) → Descending ys (cond b (s ∷ segments_to p q segs) (segments_to p q segs))
      go true i = descends d i
      go false i = i

  to-labelled : (ys : List ℕ) (o : List (List ℕ)) (r : ℕ) (segs : List Segment) → labelled_in ys (segments_to p q segs) o r ≡ only p q (labelled_in ys segs o r)
  unfolding in_row segments_to only
  to-labelled ys o r [] = refl
  to-labelled ys o r (s ∷ segs) = go (eqb s.lower p || eqb s.lower q) refl (eqb (at ys s.upper) r) refl (to-labelled ys o r segs)
    where
      go : (b : Bool) → (eqb s.lower p || eqb s.lower q) ≡ b → (c : Bool) → eqb (at ys s.upper) r ≡ c
          → labelled_in ys (segments_to p q segs) o r ≡ only p q (labelled_in ys segs o r)
          → in_row r (map (labelled ys o) (cond b (s ∷ segments_to p q segs) (segments_to p q segs))) ≡ only p q (cond c (labelled ys o s ∷ labelled_in ys segs o r) (labelled_in ys segs o r))
      go true e true f i = rw (e, f) (ap (λ (l : List PlacedSegment). labelled ys o s ∷ l) i)
      go true e false f i = rw f i
      go false e true f i = rw e i
      go false e false f i = i

  -- what a pair costs
  pub pair-above : (ys : List ℕ) (segs : List Segment) (o : List (List ℕ)) (r : ℕ) → 0 < r → r < length o → Descending ys segs
      → pair_above ys segs o r p q ≡ pair_crossings (labelled_in ys segs o (r - 1)) p q
  pair-above ys segs o r h l d =
      row-crossings ys o r (p ∷ q ∷ []) h l (segments_to p q segs) (to-descends ys segs d)
      ∙ ap (λ (ss : List PlacedSegment). crossings_in ss (p ∷ q ∷ [])) (to-labelled ys o (r - 1) segs)
