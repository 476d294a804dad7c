-- A chart in flat lists: its rows are found in the flat order, and its segments are labelled by where their points stand.
use mathlib.Core.Path.{◌≡◌, refl, sym, ap, ◌∙◌}
use mathlib.Core.Bool.{Bool, true, false, cond}
use mathlib.Core.List.{List, [], ◌∷◌, ◌++◌, map, flatten, append-nil}
use Prim.Native.Nat.{ℕ, zero, suc, ◌+◌, ◌-◌, ◌≤◌, ◌<◌}
use native.Mathlib.Omega.{arith}
use lib.Dec.{eqb, ltb}
use lib.ListN.{length, get_or}
use borrow.Author.Tests.{eqb-true, eq-eqb, ne_eqb, ltb-true, ltb-false}
use Rattle.graph.specs.Rows.{at}
use Rattle.buffers.specs.Lists.{Below, occurs}
use Rattle.buffers.proofs.OccursLaws.{at-occurs, flat-none, row_below}
use Rattle.points.specs.Limits.{max_points}
use Rattle.points.specs.Points.{Segment}
use Rattle.points.specs.Laying.{uppers, lowers}
use Rattle.points.specs.Positions.{position, place}
use Rattle.points.proofs.NeighbourLaws.{Joins}
use Rattle.crossings.specs.Crossings.{PlacedSegment, in_row}
use Rattle.passes.specs.Laid.{stored}
use Rattle.passes.proofs.PassLaws.{segments-in}
use Rattle.passes.proofs.PlaceLaws.{stored-length, stored_other, stored-own}
use Rattle.permutations.proofs.PointLaws.{one_same, occurs-cons}
use Rattle.exchange.proofs.AgreeLaws.{Once}
use Rattle.pairs.specs.Segments.{reordered}
use Rattle.reordering.specs.Stacked.{points_of, Stacked}
use Rattle.reordering.specs.Picking.{placed_in, starting_in}
use Rattle.reordering.proofs.LabelLaws.{labelled, labelled_in, Descending, level, descends}
use Rattle.reordering.proofs.PlaceLaws.{Single, Landing, nowhere, lands}

-- ---- the rows of a flat order

-- all points of a list stand in row s
record AllIn (row : List ℕ) (s : ℕ) (l : List ℕ) : Type 0 where
  stand : (p : ℕ) → 0 < occurs p l → at row p ≡ s

all_tail : (row : List ℕ) (s p : ℕ) (l : List ℕ) → AllIn row s (p ∷ l) → AllIn row s l
all_tail row s p l a = record { stand = λ q h. a.stand q (omega (arith, occurs-cons q p l)) }

all_head : (row : List ℕ) (s p : ℕ) (l : List ℕ) → AllIn row s (p ∷ l) → at row p ≡ s
all_head row s p l a = a.stand p (omega (arith, occurs-cons p p l, one_same p))

module _ (row : List ℕ) where
  points-append : (r : ℕ) (l m : List ℕ) → points_of row r (l ++ m) ≡ points_of row r l ++ points_of row r m
  unfolding points_of
  points-append r [] m = refl
  points-append r (p ∷ l) m = rw (points-append r l m) (go (eqb (at row p) r))
    where
      go : (b : Bool) → cond b (p ∷ (points_of row r l ++ points_of row r m)) (points_of row r l ++ points_of row r m)
          ≡ cond b (p ∷ points_of row r l) (points_of row r l) ++ points_of row r m
      go true = refl
      go false = refl

  own-points : (r : ℕ) (l : List ℕ) → AllIn row r l → points_of row r l ≡ l
  unfolding points_of
  own-points r [] a = refl
  own-points r (p ∷ l) a = rw (eq-eqb (at row p) r (all_head row r p l a), own-points r l (all_tail row r p l a))

  other-points : (r s : ℕ) (l : List ℕ) → (s ≡ r → ⊥) → AllIn row s l → points_of row r l ≡ []
  unfolding points_of
  other-points r s [] n a = refl
  other-points r s (p ∷ l) n a =
      rw (ne_eqb (at row p) r (λ e. n (sym (all_head row s p l a) ∙ e)), other-points r s l n (all_tail row s p l a))

  -- rows from row s on: none of them is an earlier row, and the one that is j further has its own points
  rows-later : (r s : ℕ) (o : List (List ℕ)) → r < s → ((i : ℕ) → AllIn row (s + i) (get_or o i [])) → points_of row r (flatten o) ≡ []
  unfolding points_of flatten
  rows-later r s [] h a = refl
  rows-later r s (l ∷ o) h a =
      points-append r l (flatten o)
      ∙ rw (
        other-points r (s + 0) l (λ e. omega (arith, e)) (a 0),
        rows-later r (suc s) o (omega arith) (λ i. record { stand = λ p g. (a (suc i)).stand p g ∙ omega arith }),
      )

  rows-here : (s j : ℕ) (o : List (List ℕ)) → ((i : ℕ) → AllIn row (s + i) (get_or o i [])) → points_of row (s + j) (flatten o) ≡ get_or o j []
  unfolding points_of flatten
  rows-here s j [] a = refl
  rows-here s zero (l ∷ o) a =
      points-append (s + 0) l (flatten o)
      ∙ rw (
        own-points (s + 0) l (a 0),
        rows-later (s + 0) (suc s) o (omega arith) (λ i. record { stand = λ p g. (a (suc i)).stand p g ∙ omega arith }),
        append-nil l,
      )
  rows-here s (suc j) (l ∷ o) a =
      let e : s + suc j ≡ suc s + j = omega arith in
      points-append (s + suc j) l (flatten o)
      ∙ rw (
        other-points (s + suc j) (s + 0) l (λ k. omega (arith, k)) (a 0),
        e,
        rows-here (suc s) j o (λ i. record { stand = λ p g. (a (suc i)).stand p g ∙ omega arith }),
      )

all-descend : (row : List ℕ) (segs : List Segment) → Below (length row) (uppers segs) → Below (length row) (lowers segs)
    → ((k : ℕ) → k < length (uppers segs) → at row (at (lowers segs) k) ≡ at row (at (uppers segs) k) + 1) → Descending row segs
all-descend row [] a b d = level
all-descend row (s ∷ segs) a b d =
    descends
    (record { upper_in = a.below 0 (omega arith); lower_in = b.below 0 (omega arith); next = d 0 (omega arith) ∙ omega arith })
    (all-descend row segs (record { below = λ k l. a.below (suc k) (omega arith) }) (record { below = λ k l. b.below (suc k) (omega arith) })
    (λ k l. d (suc k) (omega arith)))

placed-in : (row : List ℕ) (o : List (List ℕ)) (p s : ℕ) → at row p ≡ s → place row o p ≡ position p (get_or o s [])
unfolding place
placed-in row o p s e = ap (λ (t : ℕ). position p (get_or o t [])) e

-- ---- the chart

module _ {o : List (List ℕ)} {segs : List Segment} {row upper lower order : List ℕ} {r : ℕ} (h : Stacked o segs row upper lower order r) where
  -- what stands in a row is a point of it
  member : (s p : ℕ) → 0 < occurs p (get_or o s []) → (p < length row) × (at row p ≡ s)
  member s p g = go (ltb p (length row)) refl
    where
      own : p < length row → (b : Bool) → eqb (at row p) s ≡ b → occurs p (get_or o s []) ≡ cond b 1 0 → at row p ≡ s
      own l true e k = eqb-true (at row p) s e
      own l false e k = absurd (omega arith)

      go : (b : Bool) → ltb p (length row) ≡ b → (p < length row) × (at row p ≡ s)
      go true e =
          let l : p < length row = ltb-true p (length row) e in
          (l, own l (eqb (at row p) s) refl (h.once p s l))
      go false e = absurd (omega (arith, h.none p s (ltb-false p (length row) e)))

  pub row-points : (s : ℕ) → points_of row s order ≡ get_or o s []
  row-points s =
      let e : 0 + s ≡ s = omega arith in
      ap (points_of row s) h.flat ∙ ap (λ (k : ℕ). points_of row k (flatten o)) (sym e)
      ∙ rows-here row 0 s o (λ i. record { stand = λ p g. (member i p g).1 ∙ omega arith })

  pub order-low : Below (length row) order
  order-low = rw h.flat (record { below = row_below (length row) (flatten o) (λ p l. flat-none p o (λ s. h.none p s l)) })

  pub order-few : length order ≤ max_points
  order-few = omega (arith, h.long, h.few_points)

  -- a point stands once in its own row, and in no other
  own-once : (p : ℕ) → p < length row → occurs p (get_or o (at row p) []) ≡ 1
  own-once p l = h.once p (at row p) l ∙ rw (eq-eqb (at row p) (at row p) refl)

  other_none : (p s : ℕ) → p < length row → (at row p ≡ s → ⊥) → occurs p (get_or o s []) ≡ 0
  other_none p s l n = h.once p s l ∙ rw (ne_eqb (at row p) s n)

  pub single : Single (get_or o r [])
  single = record { once = once }
    where
      once : (i : ℕ) → i < length (get_or o r []) → occurs (at (get_or o r []) i) (get_or o r []) ≡ 1
      once i l =
          let m : (at (get_or o r []) i < length row) × (at row (at (get_or o r []) i) ≡ r) = member r (at (get_or o r []) i) (at-occurs (get_or o r []) i l) in
          ap (λ (s : ℕ). occurs (at (get_or o r []) i) (get_or o s [])) (sym m.1) ∙ own-once (at (get_or o r []) i) m.0

  pub points-once : Once (get_or o r [])
  points-once = record { once = λ p. go p (ltb p (length row)) refl }
    where
      at_most : (b : Bool) → cond b 1 0 ≤ suc zero
      at_most true = omega arith
      at_most false = omega arith

      go : (p : ℕ) (b : Bool) → ltb p (length row) ≡ b → occurs p (get_or o r []) ≤ 1
      go p true e = omega (arith, h.once p r (ltb-true p (length row) e), at_most (eqb (at row p) r))
      go p false e = omega (arith, h.none p r (ltb-false p (length row) e))

  pub descending : Descending row segs
  descending =
      all-descend row segs (rw (← h.uppers_are) h.upper_in) (rw (← h.lowers_are) h.lower_in)
      (λ k l. rw (h.uppers_are, h.lowers_are) at (h.down k (rw h.uppers_are l)))

  -- the segments from the row above, each by the position of its upper end and the point of row r that it ends at
  abbrev pub arriving : List PlacedSegment
  arriving = labelled_in row segs o (r - 1)

  arrive : (segs : List Segment) → Descending row segs → Landing (get_or o r []) (labelled_in row segs o (r - 1))
  unfolding in_row
  arrive [] level = nowhere
  arrive (s ∷ segs) (descends j rest) = go (eqb (at row s.upper) (r - 1)) refl (arrive segs rest)
    where
      go : (b : Bool) → eqb (at row s.upper) (r - 1) ≡ b → Landing (get_or o r []) (labelled_in row segs o (r - 1))
          → Landing (get_or o r []) (cond b (labelled row o s ∷ labelled_in row segs o (r - 1)) (labelled_in row segs o (r - 1)))
      go true e i =
          let k : at row s.lower ≡ r = omega (arith, j.next, eqb-true (at row s.upper) (r - 1) e, h.above) in
          lands {s = labelled row o s} (omega (arith, own-once s.lower j.lower_in, ap (λ (t : ℕ). occurs s.lower (get_or o t [])) k)) i
      go false e i = i

  pub arrive-row : Landing (get_or o r []) arriving
  arrive-row = arrive segs descending

  -- ---- positions stored for the two rows

  module _ (pos : List ℕ) (long : length row ≤ length pos) where
    abbrev both : List ℕ
    both = stored 0 (get_or o r []) (stored 0 (get_or o (r - 1) []) pos)

    upper-place : (p : ℕ) → p < length row → at row p ≡ r - 1 → at both p ≡ position p (get_or o (r - 1) [])
    upper-place p l e =
        stored_other 0 (get_or o r []) (stored 0 (get_or o (r - 1) []) pos) p (other_none p r l (λ k. omega (arith, e, k, h.above)))
        ∙ stored-own 0 (get_or o (r - 1) []) pos p (omega arith) (ap (λ (s : ℕ). occurs p (get_or o s [])) (sym e) ∙ own-once p l)
        ∙ omega arith

    lower-place : (p : ℕ) → p < length row → at row p ≡ r → at both p ≡ position p (get_or o r [])
    lower-place p l e =
        stored-own 0 (get_or o r []) (stored 0 (get_or o (r - 1) []) pos) p (omega (arith, stored-length 0 (get_or o (r - 1) []) pos))
        (ap (λ (s : ℕ). occurs p (get_or o s [])) (sym e) ∙ own-once p l)
        ∙ omega arith

    one-is : (s : Segment) → Joins row s → at row s.upper ≡ r - 1 → placed_in row both s ≡ reordered (get_or o r []) (labelled row o s)
    one-is s j e =
        let k : at row s.lower ≡ r = omega (arith, j.next, e, h.above) in
        rw (upper-place s.upper j.upper_in e, lower-place s.lower j.lower_in k, placed-in row o s.upper (r - 1) e)

    starts : (segs : List Segment) → Descending row segs → in_row (r - 1) (map (placed_in row both) segs) ≡ map (reordered (get_or o r [])) (labelled_in row segs o (r - 1))
    unfolding in_row
    starts [] level = refl
    starts (s ∷ segs) (descends j rest) = go (eqb (at row s.upper) (r - 1)) refl (starts segs rest)
      where
        go : (b : Bool) → eqb (at row s.upper) (r - 1) ≡ b
            → in_row (r - 1) (map (placed_in row both) segs) ≡ map (reordered (get_or o r [])) (labelled_in row segs o (r - 1))
            → cond b (placed_in row both s ∷ in_row (r - 1) (map (placed_in row both) segs)) (in_row (r - 1) (map (placed_in row both) segs))
            ≡ map (reordered (get_or o r [])) (cond b (labelled row o s ∷ labelled_in row segs o (r - 1)) (labelled_in row segs o (r - 1)))
        go true e i = rw (one-is s j (eqb-true (at row s.upper) (r - 1) e), i)
        go false e i = i

    -- By these positions the segments from the row above end where their points stand in row r.
    pub starting-is : starting_in upper lower row both (r - 1) ≡ map (reordered (get_or o r [])) arriving
    starting-is = rw (h.uppers_are, h.lowers_are, segments-in segs) (starts segs descending)
