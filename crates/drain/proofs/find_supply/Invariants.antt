use Rattle.drain.specs.Drain.{NextSupply}
use Rattle.drain.proofs.find_supply.Given as goal

abbrev pub invariant-loop-v : goal.invariant-loop-v
invariant-loop-v l = NextSupply l.v l.stock.supply.now l.best
