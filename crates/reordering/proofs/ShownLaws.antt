-- What is shown of the best order of a row: it is an order of the row, no order is below the floor, more tries never give more crossings,
-- and with tries for all orders none has fewer.
use mathlib.Core.Path.{◌≡◌, sym, ap, ◌∙◌, subst}
use mathlib.Core.List.{List, [], ◌∷◌, map}
use Prim.Native.Nat.{ℕ, suc, ◌-◌, ◌≤◌, ◌<◌}
use native.Mathlib.Omega.{arith}
use lib.ListN.{length, get_or, take, length-take}
use lib.Seq.{get_or-take, take_all}
use Rattle.points.specs.Points.{Segment}
use Rattle.crossings.specs.Crossings.{PlacedSegment}
use Rattle.permutations.specs.Orders.{arrangements, factorial, Permutation}
use Rattle.permutations.proofs.ArrangedLaws.{arranged-permutes, arranged-count, arranged-some, Among, arranged-all}
use Rattle.exchange.proofs.AgreeLaws.{floor-agree}
use Rattle.exchange.proofs.BestLaws.{IsFirstFewest, first-is, more-no-worse}
use Rattle.exchange.proofs.CostLaws as costs
use Rattle.pairs.specs.Segments.{cost_from}
use Rattle.pairs.proofs.SegmentLaws as segments
use Rattle.pairs.proofs.SegmentLaws.{Between}
use Rattle.pairs.proofs.AnswerLaws.{pair-cost}
use Rattle.reordering.specs.RowOrder.{present_row, row_crossings, best_row, pair_above, row_floor}
use Rattle.reordering.specs.Stacked.{Stacked}
use Rattle.reordering.proofs.LabelLaws.{labelled, row-crossings, pair-above}
use Rattle.reordering.proofs.PlaceLaws.{Landing, nowhere, lands}
use Rattle.reordering.proofs.StackLaws.{points-once, descending, arriving, arrive-row}
use Rattle.reordering.proofs.RowLaws.{AllFrom, none_from, one_from, row_from, take-few, take-some}

-- ---- the orders that are looked at

module _ (ys : List ℕ) (segs : List Segment) (o : List (List ℕ)) (r tries : ℕ) where
  abbrev all : List (List ℕ)
  all = arrangements (present_row o r)

  first : IsFirstFewest (row_crossings ys segs o r) (take (suc tries) all) (best_row ys segs o r tries)
  first = first-is (row_crossings ys segs o r) (take (suc tries) all) (take-some tries all (arranged-some (present_row o r)))

  looked-at : (i : ℕ) → i < length (take (suc tries) all) → (i < length all) × (get_or (take (suc tries) all) i [] ≡ get_or all i [])
  looked-at i l = (omega (arith, take-few (suc tries) all), get_or-take (suc tries) all i [] (omega (arith, take-few (suc tries) all)))

  -- The answer has the points of the row.
  pub best-permutes : Permutation (present_row o r) (best_row ys segs o r tries)
  best-permutes =
      let l : (first.which < length all) × (get_or (take (suc tries) all) first.which [] ≡ get_or all first.which []) = looked-at first.which first.inside in
      subst (Permutation (present_row o r)) (sym (first.one ∙ l.1)) (arranged-permutes (present_row o r) first.which l.0)

  -- With as many orders looked at as the row has, no order of it has fewer crossings.
  pub best_of_all : factorial (length (present_row o r)) ≤ suc tries → (q : List ℕ) → Permutation (present_row o r) q
      → row_crossings ys segs o r (best_row ys segs o r tries) ≤ row_crossings ys segs o r q
  best_of_all enough q p =
      let a : Among q all = arranged-all (present_row o r) q p in
      let e : take (suc tries) all ≡ all = take_all (suc tries) all (omega (arith, arranged-count (present_row o r))) in
      let same : q ≡ get_or (take (suc tries) all) a.which [] = a.one ∙ ap (λ (ps : List (List ℕ)). get_or ps a.which []) (sym e) in
      subst (λ (x : List ℕ). row_crossings ys segs o r (best_row ys segs o r tries) ≤ row_crossings ys segs o r x) (sym same)
      (first.least a.which (omega (arith, a.inside, ap length e)))

-- More tries never give more crossings: the same orders are looked at, and some behind them.
pub more-tries : (ys : List ℕ) (segs : List Segment) (o : List (List ℕ)) (r tries more : ℕ) → tries ≤ more
    → row_crossings ys segs o r (best_row ys segs o r more) ≤ row_crossings ys segs o r (best_row ys segs o r tries)
more-tries ys segs o r tries more h =
    more-no-worse (row_crossings ys segs o r) (longer (suc tries) (suc more) (omega arith) (arrangements (present_row o r)))
    (λ i l. (looked-at ys segs o r tries i l).1 ∙ sym (get_or-take (suc more) (arrangements (present_row o r)) i [] (omega (arith, take-few (suc tries) (arrangements (present_row o r))))))
    (first ys segs o r tries) (first ys segs o r more)
  where
    longer : (m n : ℕ) → m ≤ n → (l : List (List ℕ)) → length (take m l) ≤ length (take n l)
    longer m n h l = omega (arith, length-take m l, length-take n l)

-- ---- the floor

module _ {o : List (List ℕ)} {segs : List Segment} {row upper lower order : List ℕ} {r : ℕ} (h : Stacked o segs row upper lower order r) where
  between : (ss : List PlacedSegment) → AllFrom (r - 1) ss → Landing (present_row o r) ss → Between (r - 1) (present_row o r) ss
  between [] none_from nowhere = segments.Between.none
  between (s ∷ ss) (one_from e i) (lands g l) = segments.Between.more {s = s} e g (between ss i l)

  arrivals : Between (r - 1) (present_row o r) (arriving h)
  arrivals = between (arriving h) (row_from (r - 1) (map (labelled row o) segs)) (arrive-row h)

  -- No order of the row has fewer crossings than the floor: each pair of points stands in one of its two orders.
  pub floor-below : (q : List ℕ) → Permutation (present_row o r) q → row_floor row segs o r ≤ row_crossings row segs o r q
  floor-below q p =
      omega (
        arith,
        floor-agree (pair_above row segs o r) (cost_from (arriving h)) (present_row o r) (points-once h)
            (record { pairs = λ i j a b n. pair-above i j row segs o r h.above h.tall (descending h) ∙ sym (pair-cost i j (arriving h) arrivals n) }),
        costs.floor-below (cost_from (arriving h)) (present_row o r) q p,
        segments.crossings-cost (r - 1) q (record { once = λ v. omega (arith, p.points v, (points-once h).once v) }) (arriving h)
            (segments.between-permuted (arriving h) p arrivals),
        row-crossings row o r q h.above h.tall segs (descending h),
      )
