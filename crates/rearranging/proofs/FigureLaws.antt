-- The bounds of what the call tells, for callers that pack it.
use mathlib.Core.Path.{◌≡◌, refl, ap}
use mathlib.Core.Bool.{Bool, true, false, ◌&&◌, cond}
use mathlib.Core.List.{List, ◌∷◌, map}
use Prim.Native.Nat.{ℕ, ◌+◌, ◌*◌, ◌-◌, ◌≤◌}
use native.Mathlib.Nat.{mul-le-mul_left, mul_comm}
use native.Mathlib.Omega.{arith}
use borrow.Author.Tests.{leb-true}
use lib.Dec.{ltb, leb}
use lib.ListN.{length, get_or, set, take, length-map}
use Rattle.graph.specs.declared.Edge.{Edge}
use Rattle.outcome.specs.declared.Refusal.{Refusal}
use Rattle.outcome.specs.declared.Refusal.TheVariants.{ManyPoints, ShortBuffer, BadRow, ManyTries}
use Rattle.outcome.specs.Refusal.{Outcome, done, refused, then_do, demand, numbers_of, refusal_in}
use Rattle.outcome.proofs.ToldLaws.{number-some}
use Rattle.table.specs.Limits.{max_edges}
use Rattle.table.specs.Table.{Contents, read}
use Rattle.points.specs.Limits.{max_points}
use Rattle.points.specs.Points.{Segment, point_rows, segments, row_count}
use Rattle.points.proofs.PointLaws.{points-length, segments-length}
use Rattle.crossings.specs.Crossings.{PlacedSegment, placed, in_row, crossings_between}
use Rattle.crossings.proofs.CrossingsLaws.{pairs-most}
use Rattle.crossings.proofs.CountLaws.{in_row-most}
use Rattle.fewest.specs.Fewest.{drawing_of}
use Rattle.layering.specs.Calls.{table_rows_found}
use Rattle.layering.proofs.CallLaws.{read-oriented}
use Rattle.ordering.specs.Calls.{drawn_in, Placing, point_count, unless_many, chart_of_table, filled}
use Rattle.ordering.proofs.DrawnLaws.{drawn-among}
use Rattle.exchange.specs.Limits.{max_row_points, max_tries}
use Rattle.rearranging.specs.declared.RowFigures.{RowFigures}
use Rattle.rearranging.specs.Calls.{Arranged, arranged, unless_none, order_of_table, row_numbers, OrderEnd, order_end, order_call, chart_row, chart_crossings, OrderShown}

-- ---- how many segments a chart has

never : {A X : Type 0} {a : A} {f : Refusal} → refused f ≡ done a → X
never e = let z : ◌≡◌ {A = ℕ} 0 1 = cc in absurd (omega arith)

-- a table that has a chart has few points, and few edges are drawn of it
placing-few : (bytes : List ℕ) {p : Placing} → chart_of_table bytes ≡ done p → (point_count p.rows (drawn_in p.contents) ≤ max_points) × (length (drawn_in p.contents) ≤ max_edges)
unfolding chart_of_table
placing-few bytes {p} = go (read bytes) refl
  where
    Few : Type 0
    Few = (point_count p.rows (drawn_in p.contents) ≤ max_points) × (length (drawn_in p.contents) ≤ max_edges)

    many : (t : Contents) (ys : List ℕ) → read bytes ≡ done t → (b : Bool) → leb (point_count ys (drawn_in t)) max_points ≡ b
        → demand b ManyPoints (done (record { contents = t; rows = ys })) ≡ done p → Few
    many t ys r true l e =
        let c : t ≡ p.contents = cc in
        let w : ys ≡ p.rows = cc in
        rw (← c, ← w) (leb-true (point_count ys (drawn_in t)) max_points l, omega (arith, (read-oriented bytes r).few_edges, (drawn-among t).few))
    many t ys r false l e = never e

    found : (t : Contents) → read bytes ≡ done t → (o : Outcome (List ℕ)) → then_do o (λ ys. unless_many t ys) ≡ done p → Few
    found t r (done ys) e = many t ys r (leb (point_count ys (drawn_in t)) max_points) refl e
    found t r (refused g) e = never e

    go : (o : Outcome Contents) → read bytes ≡ o → then_do o (λ t. then_do (table_rows_found (length t.steps) t.edges) (λ ys. unless_many t ys)) ≡ done p → Few
    go (done t) r e = found t r (table_rows_found (length t.steps) t.edges) e
    go (refused g) r e = never e

-- Twice the crossings of a row with the row above are at most the square of the number of segments.
crossings-low : (rows : List ℕ) (drawn : List Edge) (r : ℕ) (q : List ℕ) → point_count rows drawn ≤ max_points → length drawn ≤ max_edges
    → 2 * chart_crossings rows drawn r q ≤ (max_points + max_edges) * (max_points + max_edges)
unfolding crossings_between segments
crossings-low rows drawn r q p m =
    let segs : List Segment = segments rows drawn in
    let ss : List PlacedSegment = map (placed (point_rows rows drawn) (set (drawing_of rows drawn).order r q)) segs in
    let few : length (in_row (r - 1) ss) ≤ max_points + max_edges =
    omega (arith, in_row-most (r - 1) ss, length-map segs (placed (point_rows rows drawn) (set (drawing_of rows drawn).order r q)), segments-length rows (length rows) drawn, points-length rows drawn) in
    omega (
      arith,
      pairs-most (in_row (r - 1) ss),
      mul-le-mul_left (length (in_row (r - 1) ss)) few,
      mul-le-mul_left (max_points + max_edges) few,
      mul_comm (length (in_row (r - 1) ss)) (max_points + max_edges),
    )

-- ---- what is told

-- an answer that is told has a chart, and few points in the row
record Told (bytes : List ℕ) (points : ℕ) : Type 0 where
  placing : Placing
  is : chart_of_table bytes ≡ done placing
  few : points ≤ max_row_points

-- the figures of an answer are no larger
pub record SmallRow (f : RowFigures) : Type 0 where
  pub few_points : f.points ≤ max_row_points
  pub few_crossings : 2 * f.crossings ≤ (max_points + max_edges) * (max_points + max_edges)
  pub low_floor : f.floor ≤ f.crossings

module _ (bytes : List ℕ) (r tries : ℕ) (old : List ℕ) (f : RowFigures) where
  no-refusal : {X : Type 0} (g : Refusal) → 0 ∷ row_numbers f ≡ numbers_of g → X
  no-refusal g e = absurd (omega (arith, number-some g, ap refusal_in e))

  told : 0 ∷ row_numbers f ≡ (order_call bytes r tries old).numbers → Told bytes f.points
  unfolding order_call order_of_table
  told e = go (chart_of_table bytes) refl e
    where
      stored : (p : Placing) → chart_of_table bytes ≡ done p → (a : Arranged) → a.figures.points ≤ max_row_points → (b : Bool)
          → 0 ∷ row_numbers f
          ≡ (cond {A = OrderEnd} b (record { numbers = 0 ∷ row_numbers a.figures; order = filled a.order old }) (record { numbers = numbers_of ShortBuffer; order = old })).numbers
          → Told bytes f.points
      stored p is a l true e = record { placing = p; is = is; few = omega (arith, ap (λ (n : List ℕ). get_or n 1 0) e) }
      stored p is a l false e = no-refusal ShortBuffer e

      row : (p : Placing) → chart_of_table bytes ≡ done p → (a b c : Bool) → leb (length (chart_row p.rows (drawn_in p.contents) r)) max_row_points ≡ b
          → 0 ∷ row_numbers f
          ≡ (order_end (demand a BadRow (demand b BadRow (demand c ManyTries (done (arranged (point_rows p.rows (drawn_in p.contents)) (segments p.rows (drawn_in p.contents)) (drawing_of p.rows (drawn_in p.contents)).order r tries))))) old).numbers
          → Told bytes f.points
      row p is true true true l e =
          stored p is
          (arranged (point_rows p.rows (drawn_in p.contents)) (segments p.rows (drawn_in p.contents)) (drawing_of p.rows (drawn_in p.contents)).order r tries)
          (leb-true (length (chart_row p.rows (drawn_in p.contents) r)) max_row_points l)
          (leb (length (chart_row p.rows (drawn_in p.contents) r)) (length old)) e
      row p is true true false l e = no-refusal ManyTries e
      row p is true false c l e = no-refusal BadRow e
      row p is false b c l e = no-refusal BadRow e

      go : (o : Outcome Placing) → chart_of_table bytes ≡ o → 0 ∷ row_numbers f ≡ (order_end (then_do o λ p. unless_none p r tries) old).numbers → Told bytes f.points
      go (done p) is e =
          row p is (ltb 0 r && ltb r (row_count p.rows)) (leb (length (chart_row p.rows (drawn_in p.contents) r)) max_row_points) (leb tries max_tries) refl e
      go (refused g) is e = no-refusal g e

  -- What the call promises of an answer bounds its figures: its order is one that the floor is below.
  pub row_small : {new : List ℕ} → 0 ∷ row_numbers f ≡ (order_call bytes r tries old).numbers → OrderShown bytes r tries (0 ∷ row_numbers f) new → SmallRow f
  row_small {new} e s =
      let t : Told bytes f.points = told e in
      let w = s.shown refl t.placing t.is in
      let few = placing-few bytes t.is in
      record {
        few_points = t.few;
        few_crossings = omega (arith, w.crosses, crossings-low t.placing.rows (drawn_in t.placing.contents) r (take f.points new) few.0 few.1);
        low_floor = omega (arith, w.crosses, w.none_below (take f.points new) w.permutes);
      }
