-- A loop is refused. Without one some low rows exist, which is all that the solver asks, and the best rows are the outcome.
use mathlib.Core.Path.{◌∙◌}
use Rattle.rows.proofs.TotalLaws.{total-gaps}
use Rattle.rows.proofs.PlacedLaws.{best-low}
use Rattle.ranking.proofs.SumLaws.{kept-best, best-summable}
use Rattle.ranking.proofs.PlaceLaws.{fair-gaps, fair-network, fair-bounded, placed-loop, placed-free}
use Rattle.ranking.proofs.place_edges.Goals as goal

pub invariant_of-net : goal.invariant_of-net
invariant_of-net c =
    let e = c.arcs.ensures in
    record { network = rw (e.from, e.to, e.gap, e.nodes, c.deref.ensures.0) (fair-network _ _ _ _ _ c.requires c.args.flat.now.even) }

pub find_loop-requires-clause-gaps : goal.find_loop-requires-clause-gaps
find_loop-requires-clause-gaps c =
    let e = c.arcs.ensures in
    rw (e.from, e.gap) (fair-gaps _ _ _ _ _ c.requires c.args.flat.now.even)

pub returns-in-Some : goal.returns-in-Some
returns-in-Some c =
    let e = c.arcs.ensures in
    placed-loop _ _ _ _ _ c.requires c.args.flat.now.even _ (rw (e.from, e.to, e.gap, e.nodes) at c.find_loop.ensures) c.in-Some.is

pub best_rows-requires-clause-bounded : goal.best_rows-requires-clause-bounded
best_rows-requires-clause-bounded c =
    let e = c.arcs.ensures in
    rw (e.from, e.to, e.gap, e.nodes) (fair-bounded _ _ _ _ _ c.requires c.args.flat.now.even _ (rw (e.from, e.to, e.gap, e.nodes) at c.find_loop.ensures) c.in_default.is)

pub total_rows-total-requires : goal.total_rows-total-requires
total_rows-total-requires c =
    let f = c.args.flat.now in
    let e = c.arcs.ensures in
    let best = kept-best (rw (e.from, e.to, e.gap, e.nodes, c.deref.ensures.0) at c.best_rows.ensures.1.best) c.from-rows.ensures.0 c.truncate.ensures.items in
    rw (c.deref-2.ensures.0, c.deref-3.ensures.0, c.deref-4.ensures.0, c.deref-5.ensures.0) (best-summable _ _ _ _ _ c.requires f.even _ best)

pub invariant_of-result : goal.invariant_of-result
invariant_of-result c =
    let e = c.arcs.ensures in
    let best = kept-best (rw (e.from, e.to, e.gap, e.nodes, c.deref.ensures.0) at c.best_rows.ensures.1.best) c.from-rows.ensures.0 c.truncate.ensures.items in
    record { low = best-low _ _ _ c.requires best }

pub returns : goal.returns
returns c =
    let e = c.arcs.ensures in
    let best = kept-best (rw (e.from, e.to, e.gap, e.nodes, c.deref.ensures.0) at c.best_rows.ensures.1.best) c.from-rows.ensures.0 c.truncate.ensures.items in
    record {
      says = placed-free _ _ _ _ _ c.requires c.args.flat.now.even _ (rw (e.from, e.to, e.gap, e.nodes) at c.find_loop.ensures) c.in_default.is _ best;
      placed = record {
        best = best;
        summed =
            (rw (c.deref-2.ensures.0, c.deref-3.ensures.0, c.deref-4.ensures.0, c.deref-5.ensures.0) at c.total_rows-total.ensures)
            ∙ total-gaps _ _ _ _ _ _;
      };
    }
