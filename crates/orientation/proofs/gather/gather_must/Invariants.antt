-- The must edges of the first edges are gathered.
use mathlib.Core.Path.{◌≡◌}
use lib.ListN.{take}
use Rattle.acyclic.specs.Oriented.{must_of}
use Rattle.flatten.specs.Flat.{flat_edges}
use Rattle.orientation.proofs.gather.gather_must.Given as goal

abbrev pub invariant-loop-e : goal.invariant-loop-e
invariant-loop-e l = flat_edges l.must ≡ must_of (take l.e-index l.edges)
