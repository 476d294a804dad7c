-- The best order of one row of a table's chart: what the call answers, and what its buffer holds at its end.
use Rattle.std.specs.Prelude.{◌≡◌, ◌&&◌, cond, List, [], ◌∷◌, ℕ, suc, ◌≤◌, ltb, leb, length, get_or, take, Result}
use Rattle.graph.specs.declared.Edge.{Edge}
use Rattle.outcome.specs.declared.Refusal.{Refusal}
use Rattle.outcome.specs.declared.Refusal.TheVariants.{ShortBuffer, BadRow, ManyTries}
use Rattle.outcome.specs.Refusal.{Outcome, done, refused, then_do, demand, numbers_of, answered, refusal_in}
use Rattle.points.specs.Points.{Segment, point_rows, segments, row_count}
use Rattle.fewest.specs.Fewest.{drawing_of}
use Rattle.ordering.specs.Calls.{drawn_in, Placing, chart_of_table, filled}
use Rattle.permutations.specs.Orders.{factorial, Permutation}
use Rattle.exchange.specs.Limits.{max_row_points, max_tries}
use Rattle.reordering.specs.RowOrder.{present_row, row_crossings, best_row, row_floor}
use Rattle.rearranging.specs.declared.RowFigures.{RowFigures}

-- ---- the best order of a row

-- the points in their order, and the numbers: how many points there are, the crossings with the row above, and the floor
pub record Arranged : Type 0 where
  pub order : List ℕ
  pub figures : RowFigures

abbrev pub arranged : List ℕ → List Segment → List (List ℕ) → ℕ → ℕ → Arranged
arranged ys segs o r tries =
    record {
      order = best_row ys segs o r tries;
      figures =
          record {
            points = length (present_row o r);
            crossings = row_crossings ys segs o r (best_row ys segs o r tries);
            floor = row_floor ys segs o r;
          };
    }

-- a row of too many points is refused (17), and then too many tries (18)
abbrev pub unless_wide : List ℕ → List Segment → List (List ℕ) → ℕ → ℕ → Outcome Arranged
unless_wide ys segs o r tries =
    demand (leb (length (present_row o r)) max_row_points) BadRow (demand (leb tries max_tries) ManyTries (done (arranged ys segs o r tries)))

-- of a table's edges as they are drawn, in the order that the whole chart has
abbrev pub chart_arranged : List ℕ → List Edge → ℕ → ℕ → Outcome Arranged
chart_arranged rows drawn r tries = unless_wide (point_rows rows drawn) (segments rows drawn) (drawing_of rows drawn).order r tries

-- row 0, above which there is none, and a row that the chart does not have are refused (17)
abbrev pub unless_none : Placing → ℕ → ℕ → Outcome Arranged
unless_none p r tries = demand (ltb 0 r && ltb r (row_count p.rows)) BadRow (chart_arranged p.rows (drawn_in p.contents) r tries)

-- the refusals of the whole chart, then 17, then 18
unfoldable pub order_of_table : List ℕ → ℕ → ℕ → Outcome Arranged
order_of_table bytes r tries = then_do (chart_of_table bytes) λ p. unless_none p r tries

-- ---- the buffer

abbrev pub row_numbers : RowFigures → List ℕ
row_numbers f = f.points ∷ f.crossings ∷ f.floor ∷ []

-- a call's answer in numbers, and the buffer at its end
pub record OrderEnd : Type 0 where
  pub numbers : List ℕ
  pub order : List ℕ

-- A buffer with fewer entries than the row has points is refused (13), after every other fault, and a refusal leaves it as it was.
abbrev pub order_end : Outcome Arranged → List ℕ → OrderEnd
order_end (refused r) old = record { numbers = numbers_of r; order = old }
order_end (done a) old =
    cond (leb a.figures.points (length old)) (record { numbers = 0 ∷ row_numbers a.figures; order = filled a.order old })
    (record { numbers = numbers_of ShortBuffer; order = old })

unfoldable pub order_call : List ℕ → ℕ → ℕ → List ℕ → OrderEnd
order_call bytes r tries old = order_end (order_of_table bytes r tries) old

-- what the code answers, in numbers
abbrev pub order_numbers : Result RowFigures Refusal → List ℕ
order_numbers r = answered row_numbers r

-- ---- what is shown of an answer

-- the numbers of points and crossings and the floor among those that are told
abbrev pub points_told : List ℕ → ℕ
points_told numbers = get_or numbers 1 0

abbrev pub crossings_told : List ℕ → ℕ
crossings_told numbers = get_or numbers 2 0

abbrev pub floor_told : List ℕ → ℕ
floor_told numbers = get_or numbers 3 0

-- row r of a chart, and its crossings with the row above where it stands in another order
abbrev pub chart_row : List ℕ → List Edge → ℕ → List ℕ
chart_row rows drawn r = present_row (drawing_of rows drawn).order r

abbrev pub chart_crossings : List ℕ → List Edge → ℕ → List ℕ → ℕ
chart_crossings rows drawn r q = row_crossings (point_rows rows drawn) (segments rows drawn) (drawing_of rows drawn).order r q

-- The first entries of the buffer, as many as are told, are an order of the row with the crossings that are told. No order of the row has
-- fewer than the floor. No smaller number of tries gives fewer. With tries for all its orders none of them has fewer.
pub record RowShown (rows : List ℕ) (drawn : List Edge) (r tries : ℕ) (numbers order : List ℕ) : Type 0 where
  pub permutes : Permutation (chart_row rows drawn r) (take (points_told numbers) order)
  pub crosses : crossings_told numbers ≡ chart_crossings rows drawn r (take (points_told numbers) order)
  pub none_below : (q : List ℕ) → Permutation (chart_row rows drawn r) q → floor_told numbers ≤ chart_crossings rows drawn r q
  pub no_worse : (fewer : ℕ) → fewer ≤ tries
      → crossings_told numbers ≤ chart_crossings rows drawn r (best_row (point_rows rows drawn) (segments rows drawn) (drawing_of rows drawn).order r fewer)
  pub best_of_all : factorial (length (chart_row rows drawn r)) ≤ suc tries → (q : List ℕ) → Permutation (chart_row rows drawn r) q
      → crossings_told numbers ≤ chart_crossings rows drawn r q

-- where the call tells 0, for the chart of the table that bytes write down
pub record OrderShown (bytes : List ℕ) (r tries : ℕ) (numbers order : List ℕ) : Type 0 where
  pub shown : refusal_in numbers ≡ 0 → (p : Placing) → chart_of_table bytes ≡ done p → RowShown p.rows (drawn_in p.contents) r tries numbers order
