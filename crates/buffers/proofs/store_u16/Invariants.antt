-- The first i numbers are pasted over the front of the buffer, each of which fits its entry.
use mathlib.Core.Path.{◌≡◌}
use mathlib.Core.List.{◌++◌}
use lib.ListN.{take, drop}
use Rattle.buffers.proofs.store_u16.Given as goal

abbrev pub invariant-loop-i : goal.invariant-loop-i
invariant-loop-i l = (l.out ≡ take l.i l.values ++ drop l.i l.initial.out)
