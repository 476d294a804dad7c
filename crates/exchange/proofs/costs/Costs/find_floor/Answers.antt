use Rattle.exchange.specs.Costs.{floor_of}
use Rattle.exchange.proofs.costs.Costs.find_floor.Goals as goal

pub returns : goal.returns
unfolding floor_of
returns c = c.add_pairs.ensures
