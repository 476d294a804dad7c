-- A chart handed out: that the rows handed out are the best.
use mathlib.Core.Path.{◌≡◌, refl, sym, ap, ◌∙◌, subst}
use mathlib.Core.Bool.{Bool, true, false, cond, ◌&&◌}
use mathlib.Core.List.{List, ◌∷◌}
use Prim.Native.Nat.{ℕ}
use native.Mathlib.Omega.{arith}
use lib.Dec.{leb}
use lib.ListN.{length, take}
use lib.Seq.{take_at}
use Rattle.std.specs.Prelude.{Result, Ok, Err}
use Rattle.graph.specs.declared.Edge.{Edge}
use Rattle.graph.specs.Rows.{at, total, Best}
use Rattle.outcome.specs.declared.Refusal.{Refusal}
use Rattle.outcome.specs.declared.Refusal.TheVariants.{ShortBuffer}
use Rattle.outcome.specs.Refusal.{Outcome, numbers_of, refusal_in}
use Rattle.outcome.proofs.ToldLaws.{number-some}
use Rattle.ordering.specs.declared.types.Figures.{Figures}
use Rattle.ordering.specs.declared.types.ChartFound.{ChartFound}
use Rattle.ordering.specs.Calls.{Charted, figures_numbers, ChartEnd, filled, chart_numbers, total_told, DrawnBest}
use Rattle.ordering.specs.Charting.{charted_by, held_chart, ChartHeld, ChartHandedOut}

-- the end of a call that found a chart, by the test of the buffers
abbrev ends : Charted → List ℕ → List ℕ → Bool → ChartEnd
ends c rows order b =
    cond b (record { numbers = 0 ∷ figures_numbers c.figures; rows = filled c.rows rows; order = filled c.order order })
    (record { numbers = numbers_of ShortBuffer; rows = rows; order = order })

-- a refusal leaves both buffers as they were
pub handed-refused : (rows order : List ℕ) (f : Result ChartFound Refusal) {r : Refusal} → f ≡ Err r → ChartHandedOut (held_chart f) rows order rows order (Err r)
handed-refused rows order f e = rw e (record { numbers = refl; rows_are = refl; order_is = refl })

module _ (n : ℕ) (edges : List Edge) {rows order rows' order' : List ℕ} where
  -- By what was found, and by the test of the buffers: where the answer is a chart, the first entries of the buffer are its rows.
  found-best : {what : Outcome Charted} (f : Result ChartFound Refusal) → ChartHeld n edges what f → (r : Result Figures Refusal)
      → ChartHandedOut (held_chart f) rows order rows' order' r → DrawnBest n edges (chart_numbers r) rows'
  found-best (Ok f) found r h zero =
      fits (leb (length f.rows.items) (length rows) && leb (length f.order.items) (length order)) h.numbers h.rows_are
    where
      fits : (b : Bool) → chart_numbers r ≡ (ends (charted_by f) rows order b).numbers → rows' ≡ (ends (charted_by f) rows order b).rows
          → Best n edges (take n rows') × (total_told (chart_numbers r) ≡ total edges (at (take n rows')))
      fits true x y =
          let e : take n rows' ≡ f.rows.items = ap (take n) y ∙ take_at f.rows.items _ n found.placed.best.one_a_node in
          rw (x, e) (found.placed.best, found.placed.summed)
      fits false x y = absurd (omega (arith, zero, ap refusal_in x))
  found-best (Err k) found r h zero = absurd (omega (arith, zero, ap refusal_in h.numbers, number-some k))

  pub handed-best : {what : Outcome Charted} {f : Result ChartFound Refusal} → ChartHeld n edges what f → {r : Result Figures Refusal}
      → ChartHandedOut what rows order rows' order' r → DrawnBest n edges (chart_numbers r) rows'
  handed-best {what} {f} found {r} h = found-best f found r (subst (λ o. ChartHandedOut o rows order rows' order' r) (sym found.says) h)
