-- The turns of the search for the best order.
use mathlib.Core.Path.{◌≡◌, sym, ap, ◌∙◌}
use mathlib.Core.Bool.{true, false, cond}
use mathlib.Core.List.{List, ◌++◌}
use Prim.Native.Nat.{ℕ, suc, ◌+◌, ◌-◌, ◌≤◌, ◌<◌}
use native.Mathlib.Omega.{arith}
use lib.Dec.{ltb}
use lib.ListN.{length, get_or, take, drop, take-append-drop}
use borrow.Author.Tests.{lt-ltb, le-ltb}
use Rattle.buffers.proofs.OccursLaws.{at-occurs}
use Rattle.permutations.specs.Orders.{Permutation}
use Rattle.exchange.specs.Costs.{cost_of}
use Rattle.permutations.specs.Next.{last, next_order, following}
use Rattle.exchange.specs.Best.{fewest_by, cheapest}
use Rattle.permutations.specs.Places.{Advanced}
use Rattle.exchange.specs.Limits.{max_row_points}
use Rattle.exchange.specs.Tables.{cost_in, PairCosts, RowPoints, CostIs, Moved}
use Rattle.exchange.specs.Turns.{BestIs}
use Rattle.buffers.specs.Keeping.{Keeping, kept, replaced}
use Rattle.permutations.proofs.PointLaws.{same_length, same_rest, below_each}
use Rattle.exchange.proofs.CostLaws.{ends-differ}
use Rattle.permutations.proofs.NextLaws.{next-same}
use Rattle.exchange.proofs.SumLaws.{total_limit, total-bound, rest-bound, rest-points}
use Rattle.std.proofs.lemmas.List.{take_rest}

-- ---- the next order and its cost

points-same : (p q : List ℕ) → Permutation p q → RowPoints p → RowPoints q
points-same p q h c = record {
  few = omega (arith, same_length p q h, c.few);
  points = λ i g. below_each max_row_points p c.points (get_or q i 0) (omega (arith, h.points (get_or q i 0), at-occurs q i g));
}

pub moved-points : (p costs q : List ℕ) (r total : ℕ) → CostIs p costs total → Advanced p r q → RowPoints q
moved-points p costs q r total c a = points-same p q (next-same p q a.next) c.row_points

-- the points from the one that changes on
pub after-points : (p costs q : List ℕ) (r total : ℕ) → CostIs p costs total → Advanced p r q → RowPoints (take (length q - (r - 1)) (drop (r - 1) q))
after-points p costs q r total c a = rw (take_rest q) (rest-points q (r - 1) (moved-points p costs q r total c a))

module _ (p costs q : List ℕ) (r total before after : ℕ) (c : CostIs p costs total) (a : Advanced p r q)
    (t : PairCosts costs) (b : before ≡ cost_of (cost_in costs) (take (length p - (r - 1)) (drop (r - 1) p)))
    (f : after ≡ cost_of (cost_in costs) (take (length q - (r - 1)) (drop (r - 1) q))) where
  same : Permutation p q
  same = next-same p q a.next

  -- What the moved points cost in their new order takes the place of what they cost in the old one.
  balance : cost_of (cost_in costs) q + before ≡ total + after
  balance =
      let w : cost_of (cost_in costs) (take (r - 1) p ++ drop (r - 1) p) + cost_of (cost_in costs) (drop (r - 1) q)
      ≡ cost_of (cost_in costs) (take (r - 1) p ++ drop (r - 1) q) + cost_of (cost_in costs) (drop (r - 1) p) =
      ends-differ (cost_in costs) (take (r - 1) p) (drop (r - 1) p) (drop (r - 1) q) (same_rest (r - 1) p q same a.begins) in
      let u : take (r - 1) p ++ drop (r - 1) q ≡ q = ap (λ (l : List ℕ). l ++ drop (r - 1) q) (sym a.begins) ∙ take-append-drop (r - 1) q in
      omega (
        arith,
        w,
        b ∙ ap (cost_of (cost_in costs)) (take_rest p (r - 1)),
        f ∙ ap (cost_of (cost_in costs)) (take_rest q (r - 1)),
        ap (cost_of (cost_in costs)) (take-append-drop (r - 1) p),
        ap (cost_of (cost_in costs)) u,
        c.total_is,
      )

  pub moved-room : (total + after ≤ total_limit + total_limit) × (before ≤ total + after)
  moved-room =
      (omega (arith, c.total_is, total-bound p costs c.row_points t, rest-bound q costs (r - 1) (moved-points p costs q r total c a) t, f, ap (cost_of (cost_in costs)) (take_rest q (r - 1))), omega (arith, balance))

  pub moved : Moved p costs q (total + after - before)
  moved = record { next = a.next; costed = record { row_points = moved-points p costs q r total c a; total_is = omega (arith, balance) } }

-- ---- the loop

-- The best so far and the orders that are left make the answer.
pub record Trying (costs : List ℕ) (tries : ℕ) (row order saved : List ℕ) (total lowest t : ℕ) : Type 0 where
  pub costed : CostIs order costs total
  pub long : length saved ≡ length order
  pub lowest_is : lowest ≡ cost_of (cost_in costs) saved
  pub whole : cheapest (cost_in costs) tries row ≡ fewest_by (cost_of (cost_in costs)) saved (following (tries - t) (next_order order))

pub trying_start : (costs : List ℕ) (tries : ℕ) (row saved : List ℕ) (total : ℕ) → RowPoints row → saved ≡ row → total ≡ cost_of (cost_in costs) row
    → Trying costs tries row row saved total total 0
unfolding cheapest
trying_start costs tries row saved total p e f =
    let z : tries - 0 ≡ tries = omega arith in
    record {
      costed = record { row_points = p; total_is = f };
      long = ap length e;
      lowest_is = rw e f;
      whole = rw (z, e);
    }

module _ (costs : List ℕ) (tries : ℕ) (row order saved : List ℕ) (total lowest t : ℕ) (s : Trying costs tries row order saved total lowest t) where
  pub trying-last : t < tries → next_order order ≡ last → BestIs costs tries row saved lowest
  unfolding following fewest_by
  trying-last h e =
      let z : tries - t ≡ suc (tries - (t + 1)) = omega arith in
      record { order_is = sym (s.whole ∙ rw (z, e)); cost_is = s.lowest_is }

  pub trying-end : tries ≤ t → BestIs costs tries row saved lowest
  unfolding following fewest_by
  trying-end h =
      let z : tries - t ≡ 0 = omega arith in
      record { order_is = sym (s.whole ∙ rw z); cost_is = s.lowest_is }

  module _ (q kept-order : List ℕ) (total' lowest' : ℕ) (h : t < tries) (m : Moved order costs q total') (k : Keeping q total' saved lowest kept-order lowest') where
    pub trying-more : Trying costs tries row q kept-order total' lowest' (t + 1)
    unfolding following fewest_by
    trying-more = go k
      where
        z : tries - t ≡ suc (tries - (t + 1))
        z = omega arith

        turn : cheapest (cost_in costs) tries row
            ≡ fewest_by (cost_of (cost_in costs)) (cond (ltb (cost_of (cost_in costs) q) (cost_of (cost_in costs) saved)) q saved) (following (tries - (t + 1)) (next_order q))
        turn = s.whole ∙ rw (z, m.next)

        as_long : length order ≡ length q
        as_long = same_length order q (next-same order q m.next)

        go : Keeping q total' saved lowest kept-order lowest' → Trying costs tries row q kept-order total' lowest' (t + 1)
        go (replaced l f e) =
            let w : ltb (cost_of (cost_in costs) q) (cost_of (cost_in costs) saved) ≡ true = lt-ltb (cost_of (cost_in costs) q) (cost_of (cost_in costs) saved) (omega (arith, s.lowest_is, m.costed.total_is)) in
            record {
              costed = m.costed;
              long = ap length e;
              lowest_is = rw (e, f) m.costed.total_is;
              whole = turn ∙ rw (w, e);
            }
        go (kept l f e) =
            let w : ltb (cost_of (cost_in costs) q) (cost_of (cost_in costs) saved) ≡ false = le-ltb (cost_of (cost_in costs) q) (cost_of (cost_in costs) saved) (omega (arith, s.lowest_is, m.costed.total_is)) in
            record {
              costed = m.costed;
              long = ap length e ∙ s.long ∙ as_long;
              lowest_is = rw (e, f) s.lowest_is;
              whole = turn ∙ rw (w, e);
            }
