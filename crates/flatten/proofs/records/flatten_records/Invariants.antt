-- The first records are copied.
use mathlib.Core.Path.{◌≡◌}
use lib.ListN.{take}
use Rattle.flatten.specs.Flat.{flat_edges}
use Rattle.flatten.proofs.records.flatten_records.Given as goal

abbrev pub invariant-loop-e : goal.invariant-loop-e
invariant-loop-e l = flat_edges l.flat ≡ take l.e-index l.records
