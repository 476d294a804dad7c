-- The list holds the auxiliary network; the solver takes it, and its rows at the points are the best x.
use mathlib.Core.Path.{ap, ◌∙◌}
use mathlib.Core.List.{List, ◌++◌}
use Prim.Native.Nat.{◌-◌}
use native.Mathlib.Omega.{arith}
use lib.ListN.{length}
use Rattle.graph.specs.declared.Edge.{Edge}
use Rattle.spacing.specs.Flat.{besides}
use Rattle.spacing.proofs.ExtendLaws.{besides-few}
use Rattle.spacing.proofs.BuildLaws.{written, links-within, links-network, links-bounded, links-sizes, found-x}
use Rattle.spacing.proofs.find_x.Goals as goal

pub link_segments-requires-clause-room : goal.link_segments-requires-clause-room
link_segments-requires-clause-room c =
    let row = c.args.row.now in
    let order = c.args.order.now in
    omega (
      arith,
      ap length (c.link_points.ensures ∙ ap (λ (l : List Edge). l ++ besides row order (length order - 1)) c.new-links.ensures),
      besides-few row order (length order - 1),
      c.requires.few,
      c.requires.priced.few,
    )

pub arcs-requires : goal.arcs-requires
arcs-requires c =
    let l = written _ _ c.new-links.ensures c.link_points.ensures c.link_segments.ensures in
    (omega arith, links-within _ _ _ _ _ c.requires c.link_segments.new.links l)

pub invariant_of-net : goal.invariant_of-net
invariant_of-net c =
    let l = written _ _ c.new-links.ensures c.link_points.ensures c.link_segments.ensures in
    let e = c.arcs.ensures in
    record { network = rw (e.from, e.to, e.gap, e.nodes, c.deref.ensures.0) (links-network _ _ _ _ _ c.requires c.link_segments.new.links l) }

pub best_rows-requires-clause-bounded : goal.best_rows-requires-clause-bounded
best_rows-requires-clause-bounded c =
    let l = written _ _ c.new-links.ensures c.link_points.ensures c.link_segments.ensures in
    let e = c.arcs.ensures in
    rw (e.from, e.to, e.gap, e.nodes) (links-bounded _ _ _ _ _ c.requires c.link_segments.new.links l)

pub best_rows-requires-clause-few_nodes : goal.best_rows-requires-clause-few_nodes
best_rows-requires-clause-few_nodes c =
    let l = written _ _ c.new-links.ensures c.link_points.ensures c.link_segments.ensures in
    rw c.arcs.ensures.nodes (links-sizes _ _ _ _ _ c.requires c.link_segments.new.links l).0

pub best_rows-requires-clause-few_edges : goal.best_rows-requires-clause-few_edges
best_rows-requires-clause-few_edges c =
    let l = written _ _ c.new-links.ensures c.link_points.ensures c.link_segments.ensures in
    rw c.arcs.ensures.from (links-sizes _ _ _ _ _ c.requires c.link_segments.new.links l).1

pub best_rows-requires-clause-n_in_bounds : goal.best_rows-requires-clause-n_in_bounds
best_rows-requires-clause-n_in_bounds c =
    let l = written _ _ c.new-links.ensures c.link_points.ensures c.link_segments.ensures in
    rw c.arcs.ensures.nodes (links-sizes _ _ _ _ _ c.requires c.link_segments.new.links l).0

pub returns : goal.returns
returns c =
    let l = written _ _ c.new-links.ensures c.link_points.ensures c.link_segments.ensures in
    let e = c.arcs.ensures in
    found-x _ _ _ _ _ c.requires c.link_segments.new.links l _ (rw (e.from, e.to, e.gap, e.nodes, c.deref.ensures.0) at c.best_rows.ensures.1.best) c.best_rows.auto.y
