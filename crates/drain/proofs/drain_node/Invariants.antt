use mathlib.Core.Path.{◌≡◌}
use Rattle.graph.specs.Rows.{at}
use Rattle.relaxation.specs.Loans.{TreeKept, HintsKept}
use Rattle.transport.specs.Stocks.{StockKept}
use Rattle.drain.proofs.DrainLaws.{Draining}
use Rattle.drain.proofs.drain_node.Given as goal

abbrev pub invariant-loop-amount : goal.invariant-loop-amount
invariant-loop-amount l =
    Draining l.net.arcs.from.now l.net.arcs.to.now l.net.arcs.gap.now l.net.weight.now l.net.arcs.n l.s l.initial.y l.initial.stock.supply.now l.y l.flow
    l.stock.supply.now l.stock.demand.now l.tree.rank.now l.tree.parent.now l.tree.capacity.now
    × (l.amount ≡ at l.stock.supply.now l.s)
    × TreeKept l.initial.tree l.tree × StockKept l.initial.stock l.stock × HintsKept l.initial.hints l.hints

abbrev pub decreases-loop-amount : goal.decreases-loop-amount
decreases-loop-amount l = at l.stock.supply.now l.s
