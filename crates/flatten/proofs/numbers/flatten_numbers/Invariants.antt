-- The first i edges are copied.
use mathlib.Core.Path.{◌≡◌}
use lib.ListN.{take}
use Rattle.flatten.specs.Flat.{flat_edges}
use Rattle.flatten.specs.Records.{records_of}
use Rattle.flatten.proofs.numbers.flatten_numbers.Given as goal

abbrev pub invariant-loop-i : goal.invariant-loop-i
invariant-loop-i l = flat_edges l.flat ≡ take l.i (records_of l.numbers)
