-- The x of a chart: what the call answers, and what its buffer holds at its end.
use Rattle.std.specs.Prelude.{◌≡◌, cond, List, [], ◌∷◌, ℕ, ◌<◌, leb, length, take, Result}
use Rattle.graph.specs.declared.Edge.{Edge}
use Rattle.graph.specs.Rows.{at}
use Rattle.outcome.specs.declared.Refusal.{Refusal}
use Rattle.outcome.specs.declared.Refusal.TheVariants.{ShortBuffer, LargeChart}
use Rattle.outcome.specs.Refusal.{Outcome, done, refused, then_do, demand, numbers_of, answered, refusal_in}
use Rattle.table.specs.Table.{contents_of, read}
use Rattle.rows.specs.Answers.{rows_by}
use Rattle.layering.specs.Calls.{rows_of_table}
use Rattle.fewest.specs.Fewest.{drawing_of}
use Rattle.ordering.specs.Calls.{drawn_in, Placing, point_count, chart_of_table, filled}
use Rattle.spacing.specs.Limits.{max_xs}
use Rattle.spacing.specs.Coordinates.{BestX}
use Rattle.spacing.specs.Trial.{xs_of}
use Rattle.coordinates.specs.Costs.{chart_costed}

-- ---- the x of a chart

-- Of rows and edges as they are drawn: the best x for the order that the chart is drawn in, and a list that is these.
abbrev pub ChartX : List ℕ → List Edge → List ℕ → Type 0
ChartX rows drawn xs = BestX (point_count rows drawn) (drawing_of rows drawn).order (chart_costed rows drawn) xs

abbrev pub chart_xs : List ℕ → List Edge → List ℕ
chart_xs rows drawn = xs_of (point_count rows drawn) (drawing_of rows drawn).order (chart_costed rows drawn)

-- how many points there are, and the x of each
pub record Spacing : Type 0 where
  pub points : ℕ
  pub xs : List ℕ

abbrev pub spacing : List ℕ → List Edge → Spacing
spacing rows drawn = record { points = point_count rows drawn; xs = chart_xs rows drawn }

-- a chart of more points than get an x is refused (16)
abbrev pub unless_past : Placing → Outcome Spacing
unless_past p = demand (leb (point_count p.rows (drawn_in p.contents)) max_xs) LargeChart (done (spacing p.rows (drawn_in p.contents)))

-- the refusals of the whole chart, then 16
unfoldable pub xs_of_table : List ℕ → Outcome Spacing
xs_of_table bytes = then_do (chart_of_table bytes) λ p. unless_past p

-- ---- the buffer

-- a call's answer in numbers, and the buffer at its end
pub record XsEnd : Type 0 where
  pub numbers : List ℕ
  pub xs : List ℕ

-- A buffer with fewer entries than there are points is refused (13), after every other fault, and a refusal leaves it as it was. With the
-- x it is told how many points there are.
abbrev pub xs_end : Outcome Spacing → List ℕ → XsEnd
xs_end (refused r) old = record { numbers = numbers_of r; xs = old }
xs_end (done s) old =
    cond (leb s.points (length old)) (record { numbers = 0 ∷ s.points ∷ []; xs = filled s.xs old }) (record { numbers = numbers_of ShortBuffer; xs = old })

unfoldable pub xs_call : List ℕ → List ℕ → XsEnd
xs_call bytes old = xs_end (xs_of_table bytes) old

-- what the code answers, in numbers
abbrev pub xs_numbers : Result ℕ Refusal → List ℕ
xs_numbers r = answered (λ points. points ∷ []) r

-- ---- nobody can do better

-- the rows of the table that bytes write down, and its edges as they are drawn
abbrev pub rows_held : List ℕ → List ℕ
rows_held bytes = rows_by (rows_of_table bytes)

abbrev pub lines_in : List ℕ → List Edge
lines_in bytes = drawn_in (contents_of (read bytes))

-- each is below the number of points, and so below 128
abbrev pub LowX : ℕ → List ℕ → Type 0
LowX n xs = (p : ℕ) → p < n → at xs p < n

-- Where the call tells 0, the first entries of the buffer, one a point, are the best x.
abbrev pub XsBest : List ℕ → List ℕ → List ℕ → Type 0
XsBest bytes numbers xs =
    refusal_in numbers ≡ 0 → ChartX (rows_held bytes) (lines_in bytes) (take (point_count (rows_held bytes) (lines_in bytes)) xs) × LowX (point_count (rows_held bytes) (lines_in bytes)) xs
