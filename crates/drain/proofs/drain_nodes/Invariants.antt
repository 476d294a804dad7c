use Rattle.buffers.specs.Lists.{sum}
use Rattle.relaxation.specs.Loans.{TreeKept, HintsKept}
use Rattle.transport.specs.Stocks.{StockKept}
use Rattle.drain.specs.Drain.{Calm}
use Rattle.drain.proofs.drain_nodes.Given as goal

abbrev pub invariant-loop-s : goal.invariant-loop-s
invariant-loop-s l =
    Calm l.net.arcs.from.now l.net.arcs.to.now l.net.arcs.gap.now l.net.weight.now l.net.arcs.n l.initial.y l.y l.flow l.stock.supply.now l.stock.demand.now
    l.tree.rank.now l.tree.parent.now l.tree.capacity.now
    × TreeKept l.initial.tree l.tree × StockKept l.initial.stock l.stock × HintsKept l.initial.hints l.hints

abbrev pub decreases-loop-s : goal.decreases-loop-s
decreases-loop-s l = sum l.stock.supply.now
