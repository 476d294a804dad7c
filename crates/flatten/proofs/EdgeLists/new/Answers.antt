use mathlib.Core.Path.{refl}
use Rattle.relaxation.specs.Network.{edges_of}
use Rattle.flatten.proofs.EdgeLists.new.Goals as goal

pub returns : goal.returns
unfolding edges_of
returns g c = rw c.new.ensures refl
