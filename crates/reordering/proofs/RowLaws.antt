-- The answer for a row in positions is the answer of the definitions in points.
use mathlib.Core.Path.{◌≡◌, refl, sym, ap, ◌∙◌, subst}
use mathlib.Core.Bool.{Bool, true, false, cond}
use mathlib.Core.List.{List, [], ◌∷◌, map, map-map}
use Prim.Native.Nat.{ℕ, zero, suc, ◌≤◌, ◌<◌}
use native.Mathlib.Omega.{arith}
use lib.Dec.{eqb}
use lib.ListN.{length, get_or, take}
use borrow.Author.Tests.{eqb-true}
use lib.Seq.{get_or-take}
use Rattle.graph.specs.Rows.{at}
use Rattle.graph.specs.Search.{run}
use Rattle.buffers.specs.Lists.{Below, occurs}
use Rattle.buffers.proofs.OccursLaws.{at-occurs}
use Rattle.buffers.proofs.RunLaws.{run_length, run_at}
use Rattle.points.specs.Points.{Segment}
use Rattle.points.proofs.PositionLaws.{position_in}
use Rattle.crossings.specs.Crossings.{PlacedSegment, in_row}
use Rattle.permutations.specs.Orders.{arrangements, Permutation}
use Rattle.permutations.proofs.PointLaws.{below_each}
use Rattle.permutations.proofs.ArrangedLaws.{arranged-map, arranged-permutes, arranged-some}
use Rattle.exchange.specs.Costs.{floor_of}
use Rattle.exchange.specs.Best.{first_fewest}
use Rattle.exchange.proofs.AgreeLaws.{floor-agree, floor-map}
use Rattle.exchange.proofs.BestLaws.{IsFirstFewest, first-agree, first-map, first-is}
use Rattle.std.specs.Prelude.{All}
use Rattle.pairs.specs.declared.ends.Ends.{Ends}
use Rattle.pairs.specs.Segments.{reordered, crossings_in, pair_crossings, placed}
use Rattle.pairs.proofs.SegmentLaws.{run-once}
use Rattle.reordering.specs.RowOrder.{row_crossings, best_row, pair_above, row_floor}
use Rattle.reordering.specs.Stacked.{lower_places, Stacked}
use Rattle.reordering.proofs.LabelLaws.{row-crossings, pair-above}
use Rattle.reordering.proofs.PlaceLaws.{Landing, nowhere, lands, crossings-named, pair-named}
use Rattle.reordering.proofs.StackLaws.{single, descending, arriving, arrive-row}

-- ---- lists

pub take-few : {A : Type 0} (n : ℕ) (l : List A) → (length (take n l) ≤ n) × (length (take n l) ≤ length l)
take-few zero l = (omega arith, omega arith)
take-few (suc n) [] = (omega arith, omega arith)
take-few (suc n) (x ∷ l) = (omega (arith, take-few n l), omega (arith, take-few n l))

pub take-some : {A : Type 0} (n : ℕ) (l : List A) → 0 < length l → 0 < length (take (suc n) l)
take-some n [] h = absurd (omega arith)
take-some n (x ∷ l) h = omega arith

pub map-take : {A B : Type 0} (f : A → B) (n : ℕ) (l : List A) → map f (take n l) ≡ take n (map f l)
map-take f zero l = refl
map-take f (suc n) [] = refl
map-take f (suc n) (x ∷ l) = ap (λ m. f x ∷ m) (map-take f n l)

-- a list by its indices
run-later : (a k : ℕ) → run (suc a) k ≡ map suc (run a k)
unfolding run
run-later a zero = refl
run-later a (suc k) = ap (λ (l : List ℕ). suc a ∷ l) (run-later (suc a) k)

named-run : (l : List ℕ) → map (at l) (run 0 (length l)) ≡ l
unfolding run
named-run [] = refl
named-run (x ∷ l) =
    ap (λ (ks : List ℕ). x ∷ map (at (x ∷ l)) ks) (run-later 0 (length l))
    ∙ ap (λ (m : List ℕ). x ∷ m) (map-map (at (x ∷ l)) suc (run 0 (length l)) ∙ named-run l)

-- ---- segments

-- all of them start from row r
pub data AllFrom (r : ℕ) : List PlacedSegment → Type 0 where
  none_from : AllFrom r []
  one_from : {s : PlacedSegment} {ss : List PlacedSegment} → s.row ≡ r → AllFrom r ss → AllFrom r (s ∷ ss)

pub row_from : (r : ℕ) (ss : List PlacedSegment) → AllFrom r (in_row r ss)
unfolding in_row
row_from r [] = none_from
row_from r (s ∷ ss) = go (eqb s.row r) refl (row_from r ss)
  where
    go : (b : Bool) → eqb s.row r ≡ b → AllFrom r (in_row r ss) → AllFrom r (cond b (s ∷ in_row r ss) (in_row r ss))
    go true e i = one_from (eqb-true s.row r e) i
    go false e i = i

-- the lower ends of segments are below n where their places are
pub ends-low : (r n : ℕ) (ends : List Ends) → Below n (lower_places (placed r ends)) → All (λ e. e.lower < n) ends
ends-low r n [] h k d l = absurd (omega arith)
ends-low r n (e ∷ ends) h zero d l = h.below 0 (omega arith)
ends-low r n (e ∷ ends) h (suc k) d l = ends-low r n ends (record { below = λ i g. h.below (suc i) (omega arith) }) k d (omega arith)

-- those that end at points of a row end at positions in it
pub landing-low : (points : List ℕ) (ss : List PlacedSegment) → Landing points ss → Below (length points) (lower_places (map (reordered points) ss))
landing-low points [] nowhere = record { below = λ i h. absurd (omega arith) }
landing-low points (s ∷ ss) (lands h rest) = record { below = low (landing-low points ss rest) }
  where
    low : Below (length points) (lower_places (map (reordered points) ss)) → (i : ℕ) → i < suc (length (lower_places (map (reordered points) ss)))
        → at (lower_places (map (reordered points) (s ∷ ss))) i < length points
    low b zero g = position_in s.lower points h
    low b (suc i) g = b.below i (omega arith)

-- ---- the answer

pub permuted-low : (k : ℕ) (p : List ℕ) → Permutation (run 0 k) p → Below k p
permuted-low k p h =
    record { below = λ i l. below_each k (run 0 k) (λ j g. omega (arith, run_length 0 k, run_at 0 k j 0 (omega (arith, run_length 0 k)))) (at p i) (omega (arith, h.points (at p i), at-occurs p i l)) }

module _ {o : List (List ℕ)} {segs : List Segment} {row upper lower order : List ℕ} {r : ℕ} (h : Stacked o segs row upper lower order r) (tries : ℕ) where
  abbrev pub points : List ℕ
  points = get_or o r []

  abbrev pub ss : List PlacedSegment
  ss = map (reordered points) (arriving h)

  abbrev pub looked : List (List ℕ)
  looked = take (suc tries) (arrangements (run 0 (length points)))

  -- an order in positions has the crossings of the same order in points
  pub named-crossings : (p : List ℕ) → Permutation (run 0 (length points)) p → crossings_in ss p ≡ row_crossings row segs o r (map (at points) p)
  named-crossings p q =
      crossings-named points (single h) p (permuted-low (length points) p q) (arriving h) (arrive-row h)
      ∙ sym (row-crossings row o r (map (at points) p) h.above h.tall segs (descending h))

  looked-permutes : (i : ℕ) → i < length looked → Permutation (run 0 (length points)) (get_or looked i [])
  looked-permutes i l =
      subst (Permutation (run 0 (length points)))
      (sym (get_or-take (suc tries) (arrangements (run 0 (length points))) i [] (omega (arith, take-few (suc tries) (arrangements (run 0 (length points)))))))
      (arranged-permutes (run 0 (length points)) i (omega (arith, take-few (suc tries) (arrangements (run 0 (length points))))))

  -- The orders of the row that are looked at are those of its positions, in points.
  looked-named : map (map (at points)) looked ≡ take (suc tries) (arrangements points)
  looked-named =
      map-take (map (at points)) (suc tries) (arrangements (run 0 (length points)))
      ∙ ap (take (suc tries)) (sym (arranged-map (at points) (run 0 (length points))) ∙ ap arrangements (named-run points))

  pub first-named : map (at points) (first_fewest (crossings_in ss) looked) ≡ best_row row segs o r tries
  first-named =
      ap (map (at points)) (first-agree (crossings_in ss) (λ p. row_crossings row segs o r (map (at points) p)) looked (λ i l. named-crossings (get_or looked i []) (looked-permutes i l)))
      ∙ sym (first-map (row_crossings row segs o r) (map (at points)) refl looked)
      ∙ ap (first_fewest (row_crossings row segs o r)) looked-named

  pub first-permutes : Permutation (run 0 (length points)) (first_fewest (crossings_in ss) looked)
  first-permutes =
      let f : IsFirstFewest (crossings_in ss) looked (first_fewest (crossings_in ss) looked) = first-is (crossings_in ss) looked some in
      subst (Permutation (run 0 (length points))) (sym f.one) (looked-permutes f.which f.inside)
    where
      some : 0 < length looked
      some = omega (arith, take-some tries (arrangements (run 0 (length points))) (arranged-some (run 0 (length points))))

  pub floor-named : floor_of (pair_crossings ss) (run 0 (length points)) ≡ row_floor row segs o r
  floor-named =
      floor-agree (pair_crossings ss) (λ i j. pair_above row segs o r (at points i) (at points j)) (run 0 (length points)) (record { once = run-once 0 (length points) })
      (record { pairs = pairs })
      ∙ sym (floor-map (at points) (pair_above row segs o r) (run 0 (length points)))
      ∙ ap (floor_of (pair_above row segs o r)) (named-run points)
    where
      inside : (i : ℕ) → 0 < occurs i (run 0 (length points)) → i < length points
      inside i l = below_each (length points) (run 0 (length points)) (λ j g. omega (arith, run_length 0 (length points), run_at 0 (length points) j 0 (omega (arith, run_length 0 (length points))))) i l

      pairs : (i j : ℕ) → 0 < occurs i (run 0 (length points)) → 0 < occurs j (run 0 (length points)) → (i ≡ j → ⊥)
          → pair_crossings ss i j ≡ pair_above row segs o r (at points i) (at points j)
      pairs i j a b n =
          pair-named points (single h) i j (inside i a) (inside j b) (arriving h) (arrive-row h)
          ∙ sym (pair-above (at points i) (at points j) row segs o r h.above h.tall (descending h))
