-- The bounds of what the chart call tells, for callers that pack it.
use mathlib.Core.Path.{◌≡◌, refl, ap, subst}
use mathlib.Core.Bool.{Bool, true, false, ◌&&◌, cond}
use mathlib.Core.List.{List, [], ◌∷◌}
use Prim.Native.Nat.{ℕ, zero, suc, ◌+◌, ◌*◌, ◌-◌, ◌≤◌, ◌<◌, suc-le-suc}
use native.Mathlib.Nat.{mul-le-mul_left, mul_comm, zero-lt-suc}
use native.Mathlib.Omega.{arith}
use borrow.Author.Tests.{leb-true}
use lib.Dec.{leb}
use lib.ListN.{length, get_or, take}
use Rattle.graph.specs.declared.Edge.{Edge}
use Rattle.graph.specs.Rows.{at, no_edge, total}
use Rattle.outcome.specs.declared.Refusal.{Refusal}
use Rattle.outcome.specs.declared.Refusal.TheVariants.{ManyPoints, ShortBuffer}
use Rattle.table.specs.Limits.{max_edges, max_weight}
use Rattle.points.specs.Limits.{max_points}
use Rattle.outcome.specs.Refusal.{Outcome, done, refused, then_do, demand, numbers_of, refusal_in}
use Rattle.outcome.proofs.ToldLaws.{number-some}
use Rattle.table.specs.Table.{Contents, contents_of, read}
use Rattle.layering.specs.Calls.{table_rows_found, oriented_in}
use Rattle.layering.proofs.CallLaws.{read-oriented}
use Rattle.rows.specs.Limits.{top_row}
use Rattle.rows.proofs.PlacedLaws.{best-low}
use Rattle.ordering.specs.declared.types.Figures.{Figures}
use Rattle.points.specs.Points.{point_rows, segments, row_count}
use Rattle.fewest.specs.Fewest.{best_order, drawing_of}
use Rattle.ordering.specs.Calls.{ChartEnd, drawn_in, point_count, unless_many, chart_of_table, charted, chart_out, figures_numbers, filled, chart_end, chart_call, DrawnBest, ChartBest}
use Rattle.ordering.specs.Charting.{Small}
use Rattle.points.proofs.PointLaws.{points-length, segments-length}
use Rattle.ordering.proofs.DrawnLaws.{drawn-among}
use Rattle.crossings.proofs.CrossingsLaws.{crossings-most}
use Rattle.fewest.proofs.FewestLaws.{best_crossings}

-- Each edge has one segment more than dummies, so there are fewer segments than points and edges together, and twice the crossings are
-- at most the square of that number.
pub crossings-low : (ys : List ℕ) (edges : List Edge) → length edges ≤ max_edges → length (point_rows ys edges) ≤ max_points
    → 2 * (drawing_of ys edges).crossings ≤ (max_points + max_edges) * (max_points + max_edges)
unfolding drawing_of segments
crossings-low ys edges m p =
    let s = segments ys edges in
    let few : length s ≤ max_points + max_edges = omega (arith, segments-length ys (length ys) edges, points-length ys edges) in
    omega (
      arith,
      best_crossings (point_rows ys edges) s (row_count ys),
      crossings-most (point_rows ys edges) s (best_order (row_count ys) (point_rows ys edges) s).order,
      mul-le-mul_left (length s) few,
      mul-le-mul_left (max_points + max_edges) few,
      mul_comm (length s) (max_points + max_edges),
    )

-- a total of small weights over heads in low rows
pub total_low : (edges : List Edge) (y : ℕ → ℕ) (w t : ℕ) → ((i : ℕ) → i < length edges → ((get_or edges i no_edge).weight ≤ w) × (y (get_or edges i no_edge).to ≤ t))
    → total edges y ≤ length edges * (w * t)
unfolding total
total_low [] y w t h = omega arith
total_low (e ∷ edges) y w t h =
    let low = h zero (zero-lt-suc (length edges)) in
    let span : y e.to - y e.from ≤ t = omega arith in
    omega (
      arith,
      total_low edges y w t (λ i b. h (suc i) (suc-le-suc b)),
      mul-le-mul_left e.weight span,
      mul-le-mul_left t low.0,
      mul_comm e.weight t,
      mul_comm w t,
    )

-- the bounds in numbers: the largest total that rows can have, and the most crossings
pub largest-total : max_edges * (max_weight * top_row) ≡ 27907200
largest-total = refl

pub most-crossings : (f : Figures) → Small f → f.crossings ≤ 860672
most-crossings f small = omega (arith, small.few_crossings)

-- figures are told one by one
figures-same : (f g : Figures) → 0 ∷ figures_numbers f ≡ 0 ∷ figures_numbers g → f ≡ g
figures-same f g e =
    let a : f.points ≡ g.points = cc in
    let b : f.total ≡ g.total = cc in
    let c : f.crossings ≡ g.crossings = cc in
    rw (a, b, c)

module _ (bytes rows order : List ℕ) (f : Figures) (buffer : List ℕ) where
  -- what demand 3 says of the chart that has these figures
  abbrev Best-of : Contents → Type 0
  Best-of t = DrawnBest (length t.steps) (oriented_in t) (0 ∷ figures_numbers f) buffer

  never : {X : Type 0} (r : Refusal) → numbers_of r ≡ 0 ∷ figures_numbers f → X
  never r e = absurd (omega (arith, number-some r, ap refusal_in e))

  low : (t : Contents) → read bytes ≡ done t → Best-of t → (v : ℕ) → at (take (length t.steps) buffer) v ≤ top_row
  low t r b v = (best-low (length t.steps) (oriented_in t) (take (length t.steps) buffer) (read-oriented bytes r) (b refl).0).each v

  small : (t : Contents) (ys : List ℕ) → read bytes ≡ done t → length (point_rows ys (drawn_in t)) ≤ max_points
      → (charted ys (oriented_in t) (drawn_in t)).figures ≡ f → Best-of t → Small f
  small t ys r p e b =
      let fair = read-oriented bytes r in
      let n = length t.steps in
      record {
        few_points = subst (λ (x : Figures). x.points ≤ max_points) e p;
        few_crossings =
            subst (λ (x : Figures). 2 * x.crossings ≤ (max_points + max_edges) * (max_points + max_edges)) e
            (crossings-low ys (drawn_in t) (omega (arith, fair.few_edges, (drawn-among t).few)) p);
        low_total =
            omega (
              arith,
              (b refl).1,
              total_low (oriented_in t) (at (take n buffer)) max_weight top_row (λ i h. ((fair.each i h).weight_low, low t r b (get_or (oriented_in t) i no_edge).to)),
              mul-le-mul_left (max_weight * top_row) fair.few_edges,
              mul_comm (length (oriented_in t)) (max_weight * top_row),
              mul_comm max_edges (max_weight * top_row),
            );
      }

  end : (t : Contents) (ys : List ℕ) (b : Bool) → read bytes ≡ done t → length (point_rows ys (drawn_in t)) ≤ max_points
      → (cond {A = ChartEnd} b
      (record { numbers = 0 ∷ figures_numbers (charted ys (oriented_in t) (drawn_in t)).figures; rows = filled ys rows; order = filled (charted ys (oriented_in t) (drawn_in t)).order order })
      (record { numbers = numbers_of ShortBuffer; rows = rows; order = order })).numbers ≡ 0 ∷ figures_numbers f
      → Best-of t → Small f
  end t ys true r p e b = small t ys r p (figures-same (charted ys (oriented_in t) (drawn_in t)).figures f e) b
  end t ys false r p e b = never ShortBuffer e

  -- a chart that is handed out has small figures
  pub figures-small : (chart_call bytes rows order).numbers ≡ 0 ∷ figures_numbers f → ChartBest bytes (0 ∷ figures_numbers f) buffer → Small f
  unfolding chart_call chart_of_table
  figures-small = go (read bytes) refl
    where
      many : (t : Contents) (ys : List ℕ) (b : Bool) → read bytes ≡ done t → leb (point_count ys (drawn_in t)) max_points ≡ b
          → (chart_end (chart_out (demand b ManyPoints (done (record { contents = t; rows = ys })))) rows order).numbers ≡ 0 ∷ figures_numbers f
          → Best-of t → Small f
      many t ys true r p e b =
          end t ys (leb (length ys) (length rows) && leb (length (charted ys (oriented_in t) (drawn_in t)).order) (length order)) r (leb-true _ _ p) e b
      many t ys false r p e b = never ManyPoints e

      found : (t : Contents) (o : Outcome (List ℕ)) → read bytes ≡ done t
          → (chart_end (chart_out (then_do o (λ ys. unless_many t ys))) rows order).numbers ≡ 0 ∷ figures_numbers f → Best-of t → Small f
      found t (done ys) r e b = many t ys (leb (point_count ys (drawn_in t)) max_points) r refl e b
      found t (refused g) r e b = never g e

      go : (o : Outcome Contents) → read bytes ≡ o
          → (chart_end (chart_out (then_do o (λ t. then_do (table_rows_found (length t.steps) t.edges) (λ ys. unless_many t ys)))) rows order).numbers
          ≡ 0 ∷ figures_numbers f → Best-of (contents_of o) → Small f
      go (done t) r e b = found t (table_rows_found (length t.steps) t.edges) r e b
      go (refused g) r e b = never g e
