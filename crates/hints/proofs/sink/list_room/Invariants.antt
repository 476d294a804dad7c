use Rattle.hints.proofs.sink.list_room.Given as goal

abbrev pub decreases-loop-k : goal.decreases-loop-k
decreases-loop-k l = l.k
