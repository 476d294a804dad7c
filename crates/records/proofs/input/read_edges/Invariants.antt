-- The first i edges stand in the list.
use Rattle.std.proofs.Common.{◌≡◌, ◌≤◌, length}
use Rattle.records.specs.Input.{first_edges, count_of}
use Rattle.records.proofs.input.read_edges.Given as goal

abbrev pub invariant-loop-i : goal.invariant-loop-i
invariant-loop-i l = (l.i ≤ count_of (length l.bytes)) × (length l.edges.items ≡ l.i) × (l.edges.items ≡ first_edges l.bytes l.i)
