use Rattle.exchange.specs.Tables.{cost_in}
use Rattle.exchange.specs.Costs.{cheaper}
use Rattle.exchange.proofs.costs.Costs.find_floor.Given as goal

abbrev pub ghost-add_pairs : goal.ghost-add_pairs
ghost-add_pairs a = cheaper (cost_in a.cost.0.now.table.now)
