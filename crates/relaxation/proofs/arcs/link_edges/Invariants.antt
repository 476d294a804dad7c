use mathlib.Core.Path.{◌≡◌}
use lib.ListN.{drop}
use Rattle.relaxation.specs.Arcs.{lists_of, link_from}
use Rattle.relaxation.proofs.arcs.link_edges.Given as goal

abbrev pub invariant-loop-a : goal.invariant-loop-a
invariant-loop-a l =
    link_from 0 l.ends (lists_of l.initial.head l.initial.next) ≡ link_from l.a (drop l.a l.ends) (lists_of l.head l.next)
