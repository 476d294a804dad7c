use Rattle.transport.specs.Flow.{Flows}
use Rattle.transport.specs.Stocks.{StockKept}
use Rattle.transport.proofs.shift.sweep_forest.Given as goal

abbrev pub invariant-loop-v : goal.invariant-loop-v
invariant-loop-v l =
    Flows l.rows.arcs.from.now l.rows.arcs.to.now l.rows.arcs.gap.now l.weight l.rows.arcs.n l.rows.y.now l.flow l.stock.supply.now l.stock.demand.now
    × StockKept l.initial.stock l.stock
