-- The lists hold the must edges, and the loop finder answers for these.
use native.Mathlib.Omega.{arith}
use Rattle.orientation.proofs.MustLaws.{must-within, must-gaps, must-found}
use Rattle.orientation.proofs.find_must_loop.Goals as goal

pub arcs-requires : goal.arcs-requires
arcs-requires c = (omega arith, let f = c.gather_must-must.result in must-within c.requires f.from.items f.to.items f.gap.items f.weight.items f.even c.gather_must-must.ensures)

pub find_loop-requires-clause-gaps : goal.find_loop-requires-clause-gaps
find_loop-requires-clause-gaps c =
    let f = c.gather_must-must.result in
    rw (c.arcs.ensures.from, c.arcs.ensures.gap) (must-gaps c.requires f.from.items f.to.items f.gap.items f.weight.items f.even c.gather_must-must.ensures)

pub returns : goal.returns
returns c =
    let f = c.gather_must-must.result in
    must-found c.requires f.from.items f.to.items f.gap.items f.weight.items f.even c.gather_must-must.ensures c.find_loop.result
    (rw (c.arcs.ensures.from, c.arcs.ensures.to, c.arcs.ensures.gap, c.arcs.ensures.nodes) at c.find_loop.ensures)
