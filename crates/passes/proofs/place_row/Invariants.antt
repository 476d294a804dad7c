-- What is left to store, from point i on, gives the whole.
use Rattle.passes.proofs.PlaceLaws.{Storing}
use Rattle.passes.proofs.place_row.Given as goal

abbrev pub invariant-loop-i : goal.invariant-loop-i
invariant-loop-i l = Storing l.row l.initial.pos l.i l.pos
