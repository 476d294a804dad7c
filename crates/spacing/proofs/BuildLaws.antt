-- The network that is built in flat lists is the auxiliary one, and meets what the solver asks for.
use mathlib.Core.Path.{◌≡◌, sym, ap, ◌∙◌}
use mathlib.Core.List.{List, [], ◌++◌}
use Prim.Native.Nat.{ℕ, ◌+◌, ◌-◌, ◌≤◌, ◌<◌}
use native.Mathlib.Nat.{zero-add}
use native.Mathlib.Decide.{dec_lt}
use native.Mathlib.Omega.{arith}
use lib.ListN.{length, take, length-append, get_or-eq_default}
use lib.Seq.{get_or-take, take-take}
use Rattle.graph.specs.declared.Edge.{Edge}
use Rattle.graph.specs.Rows.{at, Best, Within}
use Rattle.relaxation.specs.Limits.{gap_limit, row_limit}
use Rattle.relaxation.specs.Network.{edges_of, Network, Bounded}
use Rattle.relaxation.proofs.EdgesLaws.{length-edges_of, edge_at}
use Rattle.buffers.proofs.SumLaws.{sum_low}
use Rattle.spacing.specs.Limits.{max_xs, max_nodes, max_links, cost_limit}
use Rattle.spacing.specs.Coordinates.{Costed, Among, BestX}
use Rattle.spacing.specs.Auxiliary.{pull_edges, aux, aux_nodes}
use Rattle.flatten.specs.declared.EdgeLists.{EdgeLists}
use Rattle.flatten.specs.Flat.{flat_edges}
use Rattle.spacing.specs.Flat.{costed_of, besides, Ordered, Priced, Spaceable, FoundX}
use Rattle.spacing.proofs.EdgeListLaws.{Every}
use Rattle.spacing.proofs.AuxiliaryLaws.{aux-every, aux-within, lifted, lifted-low, lifted-rows}
use Rattle.spacing.proofs.BestLaws.{best_x}
use Rattle.spacing.proofs.TrialLaws.{best-is-xs_of}
use Rattle.spacing.proofs.BoundLaws.{x_below}
use Rattle.spacing.proofs.ExtendLaws.{length-costed_of, costed-at, pulls-count, besides-few}
use Rattle.spacing.proofs.OrderLaws.{besides-order}
use Rattle.spacing.proofs.SeatLaws.{seats, seats-long, seats-low, seats-spaced}

-- ---- rows and segments speak of the points only

pub drawn-among : (o : List (List ℕ)) (row order upper lower cost : List ℕ) → Ordered o row order → Priced (length order) upper lower cost
    → Among (length order) o (costed_of upper lower cost)
drawn-among o row order upper lower cost h p =
    record {
      points_in = h.points_in;
      ends_in = λ k b.
          let l : k < length upper = omega (arith, length-costed_of upper lower cost) in
          rw (costed-at upper lower cost k l) (p.upper_in.below k l, p.lower_in.below k (omega (arith, p.lower_long)));
    }

module _ (o : List (List ℕ)) (row order upper lower cost : List ℕ) (h : Ordered o row order) (p : Priced (length order) upper lower cost)
    (few : length order ≤ max_xs) where
  abbrev n : ℕ
  n = length order

  abbrev costed : List Costed
  costed = costed_of upper lower cost

  among : Among n o costed
  among = drawn-among o row order upper lower cost h p

  nodes : aux_nodes n costed ≡ n + length upper
  nodes = ap (λ (k : ℕ). n + k) (length-costed_of upper lower cost)

  pub built-within : Within (n + length upper) (aux n o costed)
  built-within j b =
      let k = aux-within n o costed among j b in
      (omega (arith, k.0, nodes), omega (arith, k.1, nodes))

  low-gaps : Every (aux n o costed) (λ e. e.gap ≤ 1)
  low-gaps = aux-every (λ e. e.gap ≤ 1) n o costed (λ r i b k. omega arith) (λ k b. (omega arith, omega arith))

  low-weights : Every (aux n o costed) (λ e. e.weight ≤ cost_limit)
  low-weights =
      aux-every (λ e. e.weight ≤ cost_limit) n o costed (λ r i b k. omega arith) (λ k b.
      let l : k < length upper = omega (arith, length-costed_of upper lower cost) in
      rw (costed-at upper lower cost k l) (cheap k l, cheap k l))
    where
      cheap : (k : ℕ) → k < length upper → at cost k ≤ cost_limit
      cheap k l = omega (arith, p.cost_low.below k (omega (arith, p.cost_long)))

  -- the network in lists of one length
  module _ (from to gap weight : List ℕ) (to_long : length to ≡ length from) (gap_long : length gap ≡ length from)
      (weight_long : length weight ≡ length from) (short : length from ≤ max_links) (is : edges_of from to gap weight ≡ aux n o costed) where
    each : (P : Edge → Type 0) → Every (aux n o costed) P → (i : ℕ) → i < length from
        → P (record { from = at from i; to = at to i; gap = at gap i; weight = at weight i })
    each P f i b = rw (edge_at from to gap weight i b) at (every i (omega (arith, length-edges_of from to gap weight)))
      where
        every : Every (edges_of from to gap weight) P
        every = rw is f

    gap-narrow : (i : ℕ) → at gap i < gap_limit
    gap-narrow i = go (dec_lt i (length from))
      where
        go : Dec (i < length from) → at gap i < gap_limit
        go (yes b) = omega (arith, each (λ e. e.gap ≤ 1) low-gaps i b)
        go (no b) = omega (arith, get_or-eq_default gap 0 (past b))
          where
            past : (i < length from → ⊥) → length gap ≤ i
            past b = omega arith

    pub built-network : Network from to gap weight (n + length upper)
    built-network =
        record {
          shape =
              record {
                to_long = to_long;
                gap_long = gap_long;
                from_in = λ i b. rw nodes at (each (λ e. e.from < aux_nodes n costed) (λ j c. (aux-within n o costed among j c).0) i b);
                to_in = λ i b. rw nodes at (each (λ e. e.to < aux_nodes n costed) (λ j c. (aux-within n o costed among j c).1) i b);
              };
          weight_long = weight_long;
          weights = omega (arith, sum_low weight cost_limit (λ i b. each (λ e. e.weight ≤ cost_limit) low-weights i (omega arith)));
          narrow = record { few = omega (arith, p.few); gaps = gap-narrow };
        }

    -- the positions in the rows extend to feasible rows
    pub built-bounded : Bounded from to gap (n + length upper) row_limit
    built-bounded =
        record {
          rows = at (lifted (seats o row n) costed);
          kept = λ i b.
              each (λ e. at (lifted (seats o row n) costed) e.from + e.gap ≤ at (lifted (seats o row n) costed) e.to)
              (lifted-rows n o costed among (seats o row n) (seats-long o row order h) (seats-spaced o row order h)) i b;
          low = λ v b. omega (arith, lifted-low n (seats o row n) costed (seats-low o row order h) v);
        }

-- ---- what is written

-- two parts behind none
pub written : (x y : List Edge) {none first all : List Edge} → none ≡ [] → first ≡ none ++ x → all ≡ first ++ y → all ≡ x ++ y
written x y {none} {first} {all} e f g = g ∙ ap (λ (l : List Edge). l ++ y) (f ∙ ap (λ (l : List Edge). l ++ x) e)

module _ (order row upper lower cost : List ℕ) (d : Spaceable order row upper lower cost) where
  abbrev edges : List Edge
  edges = besides row order (length order - 1) ++ pull_edges (length order) (costed_of upper lower cost)

  -- there are few of them
  pub edges_few : length edges ≤ max_links
  edges_few =
      omega (
        arith,
        length-append (besides row order (length order - 1)) (pull_edges (length order) (costed_of upper lower cost)),
        besides-few row order (length order - 1),
        pulls-count (length order) (costed_of upper lower cost),
        length-costed_of upper lower cost,
        d.few,
        d.priced.few,
      )

  -- and they are the auxiliary network, whatever rows the flat order stands for
  pub edges-aux : (o : List (List ℕ)) → Ordered o row order → edges ≡ aux (length order) o (costed_of upper lower cost)
  unfolding aux
  edges-aux o h =
      ap (λ (l : List Edge). l ++ pull_edges (length order) (costed_of upper lower cost))
      (besides-order row order o h.flat (λ r i b k. h.rows r i b k ∙ sym (zero-add r)))

  module _ (l : EdgeLists max_links) (e : flat_edges l ≡ edges) where
    count : length l.from.items ≡ length edges
    count = sym (length-edges_of l.from.items l.to.items l.gap.items l.weight.items) ∙ ap length e

    short : length l.from.items ≤ max_links
    short = omega (arith, count, edges_few)

    is : flat_edges l ≡ aux (length order) d.o (costed_of upper lower cost)
    is = e ∙ edges-aux d.o d.ordered

    pub links-within : Within (length order + length upper) (flat_edges l)
    links-within = rw is (built-within d.o row order upper lower cost d.ordered d.priced d.few)

    pub links-network : Network l.from.items l.to.items l.gap.items l.weight.items (length order + length upper)
    links-network =
        built-network d.o row order upper lower cost d.ordered d.priced d.few l.from.items l.to.items l.gap.items l.weight.items
        l.even.to_long l.even.gap_long l.even.weight_long short is

    pub links-bounded : Bounded l.from.items l.to.items l.gap.items (length order + length upper) row_limit
    links-bounded =
        built-bounded d.o row order upper lower cost d.ordered d.priced d.few l.from.items l.to.items l.gap.items l.weight.items
        l.even.to_long l.even.gap_long l.even.weight_long short is

    pub links-sizes : (length order + length upper ≤ max_nodes) × (length l.from.items ≤ max_links)
    links-sizes = (omega (arith, d.few, d.priced.few), short)

    -- The solver's rows of the network, at the points, are the best x.
    pub found-x : (xs : List ℕ) → Best (length order + length upper) (flat_edges l) (take (length order + length upper) xs) → length xs ≡ max_nodes
        → FoundX order row upper lower cost xs
    found-x xs solved-rows long =
        record {
          best = best;
          is = λ o h. best-is-xs_of (length order) o costed (among o h) (take (length order) xs) (best o h);
          low = λ p b.
              omega (
                arith,
                get_or-take (length order) xs p 0 b,
                x_below (length order) d.o costed (among d.o d.ordered) (take (length order) xs) (best d.o d.ordered) p b,
              );
          long = long;
        }
      where
        costed : List Costed
        costed = costed_of upper lower cost

        -- the rows of all nodes, of which the first are those of the points
        rows : List ℕ
        rows = take (aux_nodes (length order) costed) xs

        front : take (length order) rows ≡ take (length order) xs
        front = take-take (length order) (aux_nodes (length order) costed) xs (omega arith)

        among : (o : List (List ℕ)) → Ordered o row order → Among (length order) o costed
        among o h = drawn-among o row order upper lower cost h d.priced

        solved : (o : List (List ℕ)) → Ordered o row order → Best (aux_nodes (length order) costed) (aux (length order) o costed) rows
        solved o h =
            let n : aux_nodes (length order) costed ≡ length order + length upper = ap (λ (k : ℕ). length order + k) (length-costed_of upper lower cost) in
            rw n (rw (e ∙ edges-aux o h) at solved-rows)

        best : (o : List (List ℕ)) → Ordered o row order → BestX (length order) o costed (take (length order) xs)
        best o h = rw front at (best_x (length order) o costed (among o h) rows (solved o h))
