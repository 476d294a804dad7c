use Rattle.exchange.specs.Tables.{cost_in}
use Rattle.exchange.proofs.costs.Costs.add_up.Given as goal

abbrev pub ghost-add_pairs : goal.ghost-add_pairs
ghost-add_pairs a = cost_in a.cost.0.now.table.now
