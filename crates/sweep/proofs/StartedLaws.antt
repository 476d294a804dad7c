-- The start of a drawing: the lists hold the start order, which is the best so far.
use mathlib.Core.Path.{◌≡◌, sym, ap, ◌∙◌, subst}
use mathlib.Core.List.{List, flatten}
use Prim.Native.Nat.{ℕ, ◌-◌, ◌≤◌}
use native.Mathlib.Omega.{arith}
use lib.ListN.{length, take}
use Rattle.graph.specs.Rows.{at}
use Rattle.passes.specs.Order.{downward, start_order}
use Rattle.fewest.specs.Fewest.{pass_count}
use Rattle.buffers.specs.Written.{written}
use Rattle.passes.specs.Starts.{starts}
use Rattle.passes.specs.Laid.{segments_in, rows_held, Ranked, Placeable, Positioned}
use Rattle.points.specs.Lists.{Linked}
use Rattle.crossings.specs.Placing.{Countable, ChartCrossings}
use Rattle.fewest.specs.Drafts.{Segmented, Roomy, Scratch, Improving}
use Rattle.buffers.proofs.WriteLaws.{written-length, written-take, written_at}
use Rattle.passes.proofs.StartLaws.{order-length, starts-length, starts-at}
use Rattle.passes.proofs.OnceLaws.{order-count}
use Rattle.passes.proofs.RankedLaws.{start-ranked}
use Rattle.fewest.proofs.FewestLaws.{rest-start}
use Rattle.fewest.proofs.CountableLaws.{laid-lists, laid-countable}
use Rattle.fewest.proofs.DraftLaws.{laid-crossings}

-- the lists hold the start order once it is written
module _ {row first₀ order₀ pos₀ saved₀ first order : List ℕ} (r : Roomy row first₀ order₀ pos₀ saved₀)
    (e : order ≡ written order₀ 0 (flatten (start_order (rows_held first₀) row))) (f : first ≡ written first₀ 0 (starts (start_order (rows_held first₀) row))) where
  rows_same : rows_held first₀ ≡ rows_held first
  rows_same = ap (λ (n : ℕ). n - 1) (sym (ap length f ∙ written-length first₀ 0 (starts (start_order (rows_held first₀) row))))

  ranked-first : Ranked row (rows_held first₀) (start_order (rows_held first₀) row) order first
  ranked-first =
      start-ranked (rows_held first₀) row order first r.rows_in
      (ap (λ (n : ℕ). take n order) (sym all) ∙ ap (take (length (flatten o))) e ∙ written-take order₀ (flatten o) (omega (arith, all, r.order_long)))
      (omega (arith, ap length e, written-length order₀ 0 (flatten o), r.order_long))
      (omega (arith, ap length f, written-length first₀ 0 (starts o), r.first_long))
      (λ i h. ap (λ (l : List ℕ). at l i) f ∙ written_at first₀ (starts o) (omega (arith, starts-length (rows_held first₀) row, r.first_long)) i (omega (arith, starts-length (rows_held first₀) row)) ∙ starts-at o i (omega (arith, order-length (rows_held first₀) row)))
    where
      o : List (List ℕ)
      o = start_order (rows_held first₀) row

      all : length (flatten o) ≡ length row
      all = order-count (rows_held first₀) row r.rows_in

  pub started-ranked : Ranked row (rows_held first) (start_order (rows_held first) row) order first
  started-ranked = subst (λ (n : ℕ). Ranked row n (start_order n row) order first) rows_same ranked-first

  pub started-placeable : Placeable (rows_held first) order first pos₀
  started-placeable =
      record { ys = row; o = start_order (rows_held first) row; ranked = started-ranked; pos_long = r.pos_long }

  module _ {upper lower head next pos : List ℕ} (g : Segmented row upper lower) (linked : Linked upper head next) (heads : length row ≤ length head)
      (p : Positioned (rows_held first) order first pos) where
    -- its crossings can be counted
    pub started-countable : {totals moved : List ℕ} → Scratch row totals moved → Countable order first head next lower pos moved totals
    started-countable s =
        laid-countable g linked heads (p.laid row (start_order (rows_held first) row) started-ranked) s.moved_long s.blocks_long

    -- the start order is the best so far, and all passes are left
    pub started-improving : {saved : List ℕ} {n : ℕ} → saved ≡ order → ChartCrossings order first head next lower pos n
        → Improving row upper lower first pass_count downward order pos saved n
    started-improving s q =
        let laid = p.laid row (start_order (rows_held first) row) started-ranked in
        record {
          o = start_order (rows_held first) row;
          best = start_order (rows_held first) row;
          laid = laid;
          same = ap length s;
          best_flat = ap (take (length row)) s ∙ started-ranked.flat;
          best_crossings = q.counted upper row (laid-lists g linked heads laid) ∙ laid-crossings g laid;
          rest = rest-start row (segments_in upper lower) (rows_held first);
        }
