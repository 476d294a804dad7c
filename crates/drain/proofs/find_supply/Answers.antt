use Rattle.drain.proofs.DriveLaws.{found_turn}
use Rattle.drain.proofs.find_supply.Goals as goal

pub loop-v-preserved : goal.loop-v-preserved
loop-v-preserved c = found_turn _ _ _ _ c.loop-v.invariant c.pick_node-best.ensures
