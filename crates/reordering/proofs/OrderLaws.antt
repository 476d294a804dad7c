-- From what is gathered, stored and picked to the answer for a row.
use mathlib.Core.Path.{◌≡◌, sym, ap, ◌∙◌, subst}
use mathlib.Core.List.{List, [], map}
use Prim.Native.Nat.{ℕ, suc, ◌-◌, ◌≤◌}
use native.Mathlib.Omega.{arith}
use lib.ListN.{length, get_or, take, replicate, length-map, length-replicate}
use Rattle.graph.specs.Rows.{at}
use Rattle.graph.specs.Search.{run}
use Rattle.buffers.specs.Lists.{Below}
use Rattle.buffers.proofs.OccursLaws.{row_below}
use Rattle.points.specs.Limits.{max_points}
use Rattle.points.specs.Points.{Segment}
use Rattle.crossings.specs.Crossings.{PlacedSegment}
use Rattle.crossings.proofs.CountLaws.{in_row-most}
use Rattle.passes.specs.Laid.{segments_in, stored}
use Rattle.passes.proofs.PlaceLaws.{stored-length}
use Rattle.rooms.specs.Rooms.{segment_room}
use Rattle.permutations.specs.Orders.{arrangements}
use Rattle.exchange.specs.Limits.{max_row_points}
use Rattle.exchange.specs.Costs.{floor_of}
use Rattle.exchange.specs.Best.{first_fewest}
use Rattle.pairs.specs.declared.ends.Ends.{Ends}
use Rattle.pairs.specs.Segments.{reordered, crossings_in, pair_crossings, placed_end, placed}
use Rattle.pairs.specs.Filling.{FewEnds, CrossedIs}
use Rattle.reordering.specs.RowOrder.{row_crossings, best_row, row_floor}
use Rattle.reordering.specs.Stacked.{points_of, lower_places, Stacked, Stack, RowFoundIs}
use Rattle.reordering.specs.Picking.{placed_in, starting_in, Pickable}
use Rattle.reordering.proofs.PickLaws.{segments-count}
use Rattle.reordering.proofs.StackLaws.{row-points, arriving, arrive-row, starting-is}
use Rattle.reordering.proofs.RowLaws.{looked, ends-low, landing-low, permuted-low, named-crossings, first-named, first-permutes, floor-named}

module _ {row upper lower order points : List ℕ} {r : ℕ} (k : Stack row upper lower order r) (are : points ≡ points_of row r order) (few : length points ≤ max_row_points) where
  abbrev h : Stacked k.o k.segs row upper lower order r
  h = k.stacked

  -- ---- the rows

  row_low : (s : ℕ) → Below (length row) (get_or k.o s [])
  row_low s = record { below = row_below (length row) (get_or k.o s []) (λ p l. h.none p s l) }

  points_are : {o : List (List ℕ)} {segs : List Segment} → Stacked o segs row upper lower order r → points ≡ get_or o r []
  points_are g = are ∙ row-points g r

  module _ (above : List ℕ) (gathered : above ≡ points_of row (r - 1) order) where
    pub above_low : Below max_points above
    above_low =
        rw (gathered, row-points h (r - 1))
        (record { below = λ i l. omega (arith, (row_low (r - 1)).below i l, h.few_points) })

    -- ---- positions

    module _ (pos₁ : List ℕ) (first : pos₁ ≡ stored 0 above (replicate max_points 0)) where
      pos_long : length pos₁ ≡ max_points
      pos_long = ap length first ∙ stored-length 0 above (replicate max_points 0) ∙ length-replicate {A = ℕ} max_points 0

      pub points-low : Below (length pos₁) points
      points-low =
          rw (points_are h)
          (record { below = λ i l. omega (arith, (row_low r).below i l, h.few_points, pos_long) })

      module _ (pos₂ : List ℕ) (second : pos₂ ≡ stored 0 points pos₁) where
        pub pickable : Pickable upper lower row pos₂
        pickable =
            record {
              both = ap length h.lowers_are ∙ length-map k.segs (λ (s : Segment). s.lower)
                  ∙ sym (ap length h.uppers_are ∙ length-map k.segs (λ (s : Segment). s.upper));
              upper_in = h.upper_in;
              lower_in = h.lower_in;
              places = omega (arith, ap length second, stored-length 0 points pos₁, pos_long, h.few_points);
            }

        -- what is picked, whatever order the flat list stands for
        picked : {o : List (List ℕ)} {segs : List Segment} (g : Stacked o segs row upper lower order r)
            → starting_in upper lower row pos₂ (r - 1) ≡ map (reordered (get_or o r [])) (arriving g)
        picked {o} g =
            let e : pos₂ ≡ stored 0 (get_or o r []) (stored 0 (get_or o (r - 1) []) (replicate max_points 0)) =
            second ∙ ap (λ (l : List ℕ). stored 0 l pos₁) (points_are g)
            ∙ ap (stored 0 (get_or o r [])) (first ∙ ap (λ (l : List ℕ). stored 0 l (replicate max_points 0)) (gathered ∙ row-points g (r - 1))) in
            rw e (starting-is g (replicate max_points 0) (omega (arith, g.few_points, length-replicate {A = ℕ} max_points 0)))

        abbrev ss : List PlacedSegment
        ss = starting_in upper lower row pos₂ (r - 1)

        ss-few : length ss ≤ segment_room max_points
        ss-few =
            omega (
              arith,
              in_row-most (r - 1) (map (placed_in row pos₂) (segments_in upper lower)),
              length-map (segments_in upper lower) (placed_in row pos₂),
              segments-count upper lower,
              h.few_segments,
            )

        ss-low : Below (length points) (lower_places ss)
        ss-low =
            subst (λ (l : List ℕ). Below (length l) (lower_places ss)) (sym (points_are h))
            (rw (picked h) (landing-low (get_or k.o r []) (arriving h) (arrive-row h)))

        module _ (ends : List Ends) (chosen : placed (r - 1) ends ≡ starting_in upper lower row pos₂ (r - 1)) where
          pub few-ends : FewEnds (length points) ends
          few-ends = record {
            few = omega (arith, ap length chosen, length-map ends (placed_end (r - 1)), ss-few);
            inside = ends-low (r - 1) (length points) ends (rw chosen ss-low);
          }

          -- ---- the answer

          module _ (tries : ℕ) (found : List ℕ) (crossings floor : ℕ) (c : CrossedIs ends tries (length points) found crossings floor) where
            module _ {o : List (List ℕ)} {segs : List Segment} (g : Stacked o segs row upper lower order r) where
              count : length points ≡ length (get_or o r [])
              count = ap length (points_are g)

              ends_are : placed (r - 1) ends ≡ map (reordered (get_or o r [])) (arriving g)
              ends_are = chosen ∙ picked g

              found-is : found ≡ first_fewest (crossings_in (map (reordered (get_or o r [])) (arriving g))) (looked g tries)
              found-is =
                  c.order_is (r - 1) ∙ ap (λ (l : List PlacedSegment). first_fewest (crossings_in l) (take (suc tries) (arrangements (run 0 (length points))))) ends_are
                  ∙ ap (λ (n : ℕ). first_fewest (crossings_in (map (reordered (get_or o r [])) (arriving g))) (take (suc tries) (arrangements (run 0 n)))) count

              order-found : map (at points) found ≡ best_row row segs o r tries
              order-found =
                  ap (λ (l : List ℕ). map (at l) found) (points_are g) ∙ ap (map (at (get_or o r []))) found-is ∙ first-named g tries

              crossings-found : crossings ≡ row_crossings row segs o r (best_row row segs o r tries)
              crossings-found =
                  c.crossings_are (r - 1)
                  ∙ ap (λ (l : List PlacedSegment). crossings_in l found) ends_are
                  ∙ ap (crossings_in (map (reordered (get_or o r [])) (arriving g))) found-is
                  ∙ named-crossings g tries (first_fewest (crossings_in (map (reordered (get_or o r [])) (arriving g))) (looked g tries)) (first-permutes g tries)
                  ∙ ap (row_crossings row segs o r) (first-named g tries)

              floor-found : floor ≡ row_floor row segs o r
              floor-found =
                  c.floor_is (r - 1)
                  ∙ ap (λ (l : List PlacedSegment). floor_of (pair_crossings l) (run 0 (length points))) ends_are
                  ∙ ap (λ (n : ℕ). floor_of (pair_crossings (map (reordered (get_or o r [])) (arriving g))) (run 0 n)) count
                  ∙ floor-named g tries

            pub row-found : RowFoundIs row upper lower order points r tries found crossings floor
            row-found =
                record {
                  order_is = λ o segs g. order-found g;
                  crossings_are = λ o segs g. crossings-found g;
                  floor_is = λ o segs g. floor-found g;
                  places =
                      subst (λ (n : ℕ). Below n found) (sym (count h))
                      (rw (found-is h) (permuted-low (length (get_or k.o r [])) _ (first-permutes h tries)));
                }
