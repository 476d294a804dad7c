-- The segments of the row that are left are still to be picked.
use lib.ListN.{length}
use Rattle.reordering.proofs.PickLaws.{Picking}
use Rattle.reordering.proofs.pick.pick_segments.Given as goal

abbrev pub invariant-loop-u : goal.invariant-loop-u
invariant-loop-u l =
    (goal.iterator-loop-u).can_next l.u-iterator × (goal.iterator-loop-u).is_finite l.u-iterator
    × Picking l.chart.upper.now l.chart.lower.now l.chart.row.now l.pos l.r l.picked.items (length l.yielded)
