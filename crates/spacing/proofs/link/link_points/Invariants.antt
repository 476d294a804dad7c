-- The edges of the points before those that are left are written.
use Rattle.std.specs.Slice.Iter.{windows_rest, windows_size}
use Rattle.flatten.specs.Flat.{flat_edges}
use Rattle.spacing.proofs.ExtendLaws.{Siding}
use Rattle.spacing.proofs.link.link_points.Given as goal

abbrev pub invariant-loop-pair : goal.invariant-loop-pair
invariant-loop-pair l =
    Siding l.row l.order (windows_rest l.pair-iterator) (windows_size l.pair-iterator) (flat_edges l.initial.links) (flat_edges l.links)
