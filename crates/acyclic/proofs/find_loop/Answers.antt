-- Rows at rest leave no loop, and no loop leaves low rows.
use mathlib.Core.List.{[]}
use Rattle.relaxation.specs.Network.{edges_of}
use Rattle.std.specs.Prelude.{None}
use Rattle.acyclic.proofs.FoundLaws.{found-is, found-ends, shaped-ends}
use Rattle.acyclic.proofs.SettleLaws.{rests-free}
use Rattle.acyclic.proofs.WalkLaws.{ends-within}
use Rattle.acyclic.proofs.find_loop.Goals as goal

pub returns-then-settle_rows : goal.returns-then-settle_rows
returns-then-settle_rows c =
    let F = c.args.arcs.now.from.now in
    let T = c.args.arcs.now.to.now in
    let G = c.args.arcs.now.gap.now in
    found-is c.args.arcs.now.n (edges_of F T G []) (ends-within F T G [] (shaped-ends c.args.arcs.now.shaped)) None
    (rests-free F T G [] _ _ (c.settle_rows.ensures c.if-settle_rows.true) c.requires.gaps)

pub returns : goal.returns
returns c =
    let low = c.lowest_on_loop in
    let arcs = c.args.arcs.now in
    found-ends arcs.n arcs.from.now arcs.to.now [] [] arcs.gap.now [] low.result (shaped-ends arcs.shaped) low.ensures
