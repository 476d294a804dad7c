-- Best rows of the auxiliary network, at the points, are the best x.
use mathlib.Core.Path.{◌≡◌, sym, ◌∙◌}
use mathlib.Core.List.{List}
use Prim.Native.Nat.{ℕ, suc, ◌≤◌, ◌<◌}
use native.Mathlib.Omega.{arith}
use lib.ListN.{length, take}
use lib.Seq.{get_or-take, length-take-le, ext_get_or}
use Rattle.graph.specs.Rows.{at, Kept, Feasible, total, Best}
use Rattle.spacing.specs.Coordinates.{Costed, row_in, Spaced, x_total, BestX, Among}
use Rattle.spacing.specs.Auxiliary.{order_edges, pull_edges, aux, aux_nodes}
use Rattle.spacing.proofs.EdgeListLaws.{every-left, every-right, total-join}
use Rattle.spacing.proofs.AuxiliaryLaws.{
  feasible-spaced,
  order-free,
  x-total-least,
  x-total-same,
  lifted,
  lifted-long,
  lifted-point,
  lifted-rows,
  lifted-sum,
}

module _ (n : ℕ) (order : List (List ℕ)) (costed : List Costed) (among : Among n order costed) where
  module _ (ys : List ℕ) (long : length ys ≡ aux_nodes n costed) (feasible : Feasible (aux n order costed) (at ys)) where
    taken : (p : ℕ) → p < n → at (take n ys) p ≡ at ys p
    taken p h = get_or-take n ys p 0 h

    -- (a) Feasible rows of the network are spaced at the points, and cost no less than their x.
    pub rows-spaced : Spaced order (at (take n ys))
    unfolding aux
    rows-spaced =
        record {
          apart = λ r i h k.
              rw (taken (at (row_in order r) i) (among.points_in r i h (omega arith)), taken (at (row_in order r) (suc i)) (among.points_in r (suc i) h k))
              ((feasible-spaced order (at ys) (every-left (order_edges order) (pull_edges n costed) (Kept (at ys)) feasible)).apart r i h k);
        }

    pub rows-cost : x_total costed (at (take n ys)) ≤ total (aux n order costed) (at ys)
    unfolding aux
    rows-cost =
        omega (
          arith,
          x-total-same n costed (at ys) (at (take n ys)) among.ends_in taken,
          x-total-least n costed (at ys) (every-right (order_edges order) (pull_edges n costed) (Kept (at ys)) feasible),
          order-free order (at ys),
          total-join (order_edges order) (pull_edges n costed) (at ys),
        )

  -- (c) Best rows of the network are best x at the points. Any other spaced x extend to rows that cost what the x cost, so the best rows
  -- cost no more, and their x no more than they do: least. Where the sums are equal, so are the costs, and then no row of the extension
  -- is below the best one: lowest.
  pub best_x : (ys : List ℕ) → Best (aux_nodes n costed) (aux n order costed) ys → BestX n order costed (take n ys)
  best_x ys best =
      record {
        one_a_point = length-take-le n ys (omega (arith, best.one_a_node));
        spaced = rows-spaced ys best.one_a_node best.feasible;
        least = λ zs long s. omega (arith, cost, lifted-sum n order costed among zs long, no_more zs long s);
        lowest = λ zs long s e p h.
            let same : total (aux n order costed) (at (lifted zs costed)) ≡ total (aux n order costed) (at ys) =
            omega (arith, cost, lifted-sum n order costed among zs long, no_more zs long s) in
            omega (
              arith,
              best.lowest (lifted zs costed) (lifted-long n order costed among zs long) (lifted-rows n order costed among zs long s) same p (omega arith),
              lifted-point n order costed among zs long p h,
              taken ys best.one_a_node best.feasible p h,
            );
      }
    where
      cost : x_total costed (at (take n ys)) ≤ total (aux n order costed) (at ys)
      cost = rows-cost ys best.one_a_node best.feasible

      no_more : (zs : List ℕ) → length zs ≡ n → Spaced order (at zs)
          → total (aux n order costed) (at ys) ≤ total (aux n order costed) (at (lifted zs costed))
      no_more zs long s = best.least (lifted zs costed) (lifted-long n order costed among zs long) (lifted-rows n order costed among zs long s)

-- Best x are unique: two of them have the same sum, and then neither is anywhere above the other.
pub best-x-unique : (n : ℕ) (order : List (List ℕ)) (costed : List Costed) (xs zs : List ℕ) → BestX n order costed xs → BestX n order costed zs → xs ≡ zs
best-x-unique n order costed xs zs p q =
    let e : x_total costed (at zs) ≡ x_total costed (at xs) = omega (arith, p.least zs q.one_a_point q.spaced, q.least xs p.one_a_point p.spaced) in
    ext_get_or 0 xs zs (p.one_a_point ∙ sym q.one_a_point) (λ i b.
    let h : i < n = omega (arith, p.one_a_point) in
    omega (arith, p.lowest zs q.one_a_point q.spaced e i h, q.lowest xs p.one_a_point p.spaced (sym e) i h))
