use Rattle.transport.proofs.LoadLaws.{Loading}
use Rattle.transport.specs.Stocks.{StockKept}
use Rattle.transport.proofs.load.load_edges.Given as goal

abbrev pub invariant-loop-e : goal.invariant-loop-e
invariant-loop-e l =
    Loading l.rows.arcs.from.now l.rows.arcs.to.now l.rows.arcs.gap.now l.weight l.rows.arcs.n l.rows.y.now l.flow l.stock.supply.now l.stock.demand.now l.e
    × StockKept l.initial.stock l.stock
