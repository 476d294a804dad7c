-- The ends of the search in flat lists: a row of too many points, too many tries, a short buffer, and an order.
use mathlib.Core.Path.{◌≡◌, sym, ap, ◌∙◌}
use mathlib.Core.List.{List, ◌++◌, map}
use Prim.Native.Nat.{ℕ, ◌≤◌, ◌<◌}
use native.Mathlib.Omega.{arith}
use borrow.Author.Tests.{le-leb, lt-leb}
use lib.ListN.{length, drop, length-map}
use Rattle.std.specs.Prelude.{Ok, Err}
use Rattle.graph.specs.Rows.{at}
use Rattle.buffers.specs.Lists.{Below}
use Rattle.buffers.proofs.OccursLaws.{row_below}
use Rattle.outcome.specs.declared.Refusal.{Refusal}
use Rattle.outcome.specs.declared.Refusal.TheVariants.{ShortBuffer, BadRow, ManyTries}
use Rattle.outcome.specs.Refusal.{done}
use Rattle.points.specs.Points.{Segment}
use Rattle.ordering.specs.Calls.{filled}
use Rattle.permutations.proofs.PointLaws.{same_length}
use Rattle.exchange.specs.Limits.{max_row_points, max_tries}
use Rattle.reordering.specs.RowOrder.{present_row, best_row}
use Rattle.reordering.specs.Stacked.{points_of, Stacked, Stack, RowFoundIs}
use Rattle.reordering.proofs.StackLaws.{row-points}
use Rattle.reordering.proofs.ShownLaws.{best-permutes}
use Rattle.rearranging.specs.Calls.{arranged, unless_wide, order_end, order_numbers}
use Rattle.rearranging.specs.Arranging.{LaidEnded}

module _ {row upper lower order : List ℕ} {r : ℕ} (k : Stack row upper lower order r) (tries : ℕ) (old : List ℕ) where
  -- a refusal leaves the buffer
  ended : (f : Refusal) → ((o : List (List ℕ)) (segs : List Segment) → Stacked o segs row upper lower order r
      → order_end (unless_wide row segs o r tries) old ≡ record { numbers = order_numbers (Err f); order = old })
      → LaidEnded row upper lower order r tries old old (Err f)
  ended f e =
      record { numbers = λ o segs g. sym (ap (λ x. x.numbers) (e o segs g)); order_is = λ o segs g. sym (ap (λ x. x.order) (e o segs g)) }

  module _ (points : List ℕ) (gathered : points ≡ points_of row r order) where
    -- the points of the row, whatever chart the lists stand for
    module _ {o : List (List ℕ)} {segs : List Segment} (g : Stacked o segs row upper lower order r) where
      row_is : points ≡ present_row o r
      row_is = gathered ∙ row-points g r

      row_count : length points ≡ length (present_row o r)
      row_count = ap length row_is

      best-long : length points ≡ length (best_row row segs o r tries)
      best-long = row_count ∙ same_length (present_row o r) (best_row row segs o r tries) (best-permutes row segs o r tries)

    -- each fits a buffer's entry
    pub points_low : Below 0x10000 points
    points_low =
        rw (row_is k.stacked)
        (record { below = λ i h. omega (arith, row_below (length row) (present_row k.o r) (λ p l. k.stacked.none p r l) i h, k.stacked.few_points) })

    pub ended_wide : max_row_points < length points → LaidEnded row upper lower order r tries old old (Err BadRow)
    ended_wide h = ended BadRow (λ o segs g. rw (lt-leb (length (present_row o r)) max_row_points (omega (arith, row_count g))))

    module _ (few : length points ≤ max_row_points) where
      pub ended_many : max_tries < tries → LaidEnded row upper lower order r tries old old (Err ManyTries)
      ended_many h =
          ended ManyTries (λ o segs g. rw (le-leb (length (present_row o r)) max_row_points (omega (arith, row_count g)), lt-leb tries max_tries h))

      module _ (enough : tries ≤ max_tries) where
        out-done : {o : List (List ℕ)} {segs : List Segment} → Stacked o segs row upper lower order r
            → unless_wide row segs o r tries ≡ done (arranged row segs o r tries)
        out-done {o} g = rw (le-leb (length (present_row o r)) max_row_points (omega (arith, row_count g)), le-leb tries max_tries enough)

        pub ended_short : length old < length points → LaidEnded row upper lower order r tries old old (Err ShortBuffer)
        ended_short h =
            ended ShortBuffer (λ o segs g. rw (out-done g, lt-leb (length (present_row o r)) (length old) (omega (arith, row_count g))))

        -- What is found are the places of the points in the best order, and the entries behind the row's stay.
        module _ (fits : length points ≤ length old) (found : List ℕ) (crossings floor : ℕ) (f : RowFoundIs row upper lower order points r tries found crossings floor) where
          found-long : {o : List (List ℕ)} {segs : List Segment} → Stacked o segs row upper lower order r → length found ≡ length (best_row row segs o r tries)
          found-long {o} {segs} g = sym (length-map found (at points)) ∙ ap length (f.order_is o segs g)

          pub found_fits : length found ≤ length old
          found_fits = omega (arith, found-long k.stacked, best-long k.stacked)

          pub ended_ordered : (new : List ℕ) → new ≡ map (at points) found ++ drop (length found) old
              → LaidEnded row upper lower order r tries old new (Ok (record { points = length points; crossings = crossings; floor = floor }))
          ended_ordered new e =
              record { numbers = λ o segs g. numbers-are g; order_is = λ o segs g. e ∙ stored-are g }
            where
              end_is : {o : List (List ℕ)} {segs : List Segment} → Stacked o segs row upper lower order r
                  → order_end (unless_wide row segs o r tries) old ≡ record { numbers = order_numbers (Ok (arranged row segs o r tries).figures); order = filled (best_row row segs o r tries) old }
              end_is {o} g = rw (out-done g, le-leb (length (present_row o r)) (length old) (omega (arith, row_count g)))

              numbers-are : {o : List (List ℕ)} {segs : List Segment} (g : Stacked o segs row upper lower order r)
                  → order_numbers (Ok (record { points = length points; crossings = crossings; floor = floor })) ≡ (order_end (unless_wide row segs o r tries) old).numbers
              numbers-are {o} {segs} g =
                  rw (row_count g, f.crossings_are o segs g, f.floor_is o segs g) (sym (ap (λ x. x.numbers) (end_is g)))

              stored-are : {o : List (List ℕ)} {segs : List Segment} (g : Stacked o segs row upper lower order r)
                  → map (at points) found ++ drop (length found) old ≡ (order_end (unless_wide row segs o r tries) old).order
              stored-are {o} {segs} g =
                  ap (λ (l : List ℕ). l ++ drop (length found) old) (f.order_is o segs g)
                  ∙ ap (λ (m : ℕ). best_row row segs o r tries ++ drop m old) (found-long g)
                  ∙ sym (ap (λ x. x.order) (end_is g))
