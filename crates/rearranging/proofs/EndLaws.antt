-- What an answer shows, by the end that it makes.
use mathlib.Core.Path.{◌≡◌, sym, ap, subst}
use mathlib.Core.Bool.{Bool, true, false, cond}
use mathlib.Core.List.{List, ◌∷◌}
use Prim.Native.Nat.{ℕ}
use native.Mathlib.Omega.{arith}
use lib.Dec.{leb}
use lib.ListN.{length, take, drop}
use lib.Seq.{take_at}
use Rattle.graph.specs.declared.Edge.{Edge}
use Rattle.outcome.specs.declared.Refusal.{Refusal}
use Rattle.outcome.specs.declared.Refusal.TheVariants.{ShortBuffer, BadRow, ManyTries}
use Rattle.outcome.specs.Refusal.{done, demand, numbers_of, refusal_in}
use Rattle.outcome.proofs.ToldLaws.{number-some}
use Rattle.points.specs.Points.{point_rows, segments}
use Rattle.fewest.specs.Fewest.{drawing_of}
use Rattle.ordering.specs.Calls.{filled}
use Rattle.permutations.specs.Orders.{Permutation}
use Rattle.permutations.proofs.PointLaws.{same_length}
use Rattle.exchange.specs.Limits.{max_row_points, max_tries}
use Rattle.reordering.specs.RowOrder.{best_row}
use Rattle.reordering.specs.Stacked.{Stacked}
use Rattle.reordering.proofs.ShownLaws as rows
use Rattle.rearranging.specs.Calls.{Arranged, arranged, chart_arranged, row_numbers, OrderEnd, order_end, chart_row, chart_crossings, RowShown}

-- a refusal tells no 0
pub never : {X : Type 0} (f : Refusal) {numbers : List ℕ} → numbers ≡ numbers_of f → refusal_in numbers ≡ 0 → X
never f e z = absurd (omega (arith, number-some f, ap refusal_in e))

module _ (ys : List ℕ) (drawn : List Edge) {upper lower order : List ℕ} {r : ℕ}
    (h : Stacked (drawing_of ys drawn).order (segments ys drawn) (point_rows ys drawn) upper lower order r) (tries : ℕ) (old : List ℕ) where
  abbrev best : List ℕ
  best = best_row (point_rows ys drawn) (segments ys drawn) (drawing_of ys drawn).order r tries

  abbrev found : Arranged
  found = arranged (point_rows ys drawn) (segments ys drawn) (drawing_of ys drawn).order r tries

  permuted : Permutation (chart_row ys drawn r) best
  permuted = rows.best-permutes (point_rows ys drawn) (segments ys drawn) (drawing_of ys drawn).order r tries

  -- the order in front of the buffer is the best one
  front : take (length (chart_row ys drawn r)) (filled best old) ≡ best
  front = take_at best (drop (length best) old) (length (chart_row ys drawn r)) (sym (same_length (chart_row ys drawn r) best permuted))

  shown : RowShown ys drawn r tries (0 ∷ row_numbers found.figures) (filled best old)
  shown =
      record {
        permutes = subst (Permutation (chart_row ys drawn r)) (sym front) permuted;
        crosses = ap (chart_crossings ys drawn r) (sym front);
        none_below = λ q p. rows.floor-below h q p;
        no_worse = λ fewer l. rows.more-tries (point_rows ys drawn) (segments ys drawn) (drawing_of ys drawn).order r fewer tries l;
        best_of_all = λ enough q p. rows.best_of_all (point_rows ys drawn) (segments ys drawn) (drawing_of ys drawn).order r tries enough q p;
      }

  -- the end where nothing but the buffer may be short
  abbrev last_end : Bool → OrderEnd
  last_end c = cond c (record { numbers = 0 ∷ row_numbers found.figures; order = filled best old }) (record { numbers = numbers_of ShortBuffer; order = old })

  -- Where the end tells 0, all this is shown of it.
  pub end-shown : {numbers new : List ℕ} → numbers ≡ (order_end (chart_arranged ys drawn r tries) old).numbers → new ≡ (order_end (chart_arranged ys drawn r tries) old).order
      → refusal_in numbers ≡ 0 → RowShown ys drawn r tries numbers new
  end-shown {numbers} {new} e f z =
      go (leb (length (chart_row ys drawn r)) max_row_points) (leb tries max_tries) e f
    where
      stored : (c : Bool) → numbers ≡ (last_end c).numbers → new ≡ (last_end c).order → RowShown ys drawn r tries numbers new
      stored true e f = rw (e, f) shown
      stored false e f = never ShortBuffer e z

      go : (a b : Bool) → numbers ≡ (order_end (demand a BadRow (demand b ManyTries (done found))) old).numbers
          → new ≡ (order_end (demand a BadRow (demand b ManyTries (done found))) old).order → RowShown ys drawn r tries numbers new
      go true true e f = stored (leb (length (chart_row ys drawn r)) (length old)) e f
      go true false e f = never ManyTries e z
      go false b e f = never BadRow e z
