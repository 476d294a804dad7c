use Rattle.std.proofs.Common.{◌≡◌, drop}
use Rattle.hints.proofs.sink.sink_nodes.Given as goal

abbrev pub invariant-loop-v : goal.invariant-loop-v
invariant-loop-v l = drop l.net.arcs.n l.y ≡ drop l.net.arcs.n l.initial.y
