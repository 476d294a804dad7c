-- The arrays have room for the chart, and what is laid in them is what the search for x takes.
use mathlib.Core.Path.{sym}
use lib.Seq.{length-take-le}
use Rattle.coordinates.proofs.SpaceLaws.{rows_room, segments-room, costs-room, spaceable, lines-spaced, row_fits, upper_fits, lower-fits}
use Rattle.coordinates.proofs.space.space_lines.Goals as goal

pub lay_rows-p-requires : goal.lay_rows-p-requires
lay_rows-p-requires c = rw (c.deref.ensures.0, c.deref-2.ensures.0) (rows_room _ _ _ c.requires)

pub lay_segments-s-requires-clause-upper_room : goal.lay_segments-s-requires-clause-upper_room
lay_segments-s-requires-clause-upper_room c = rw (c.deref.ensures.0, c.deref-2.ensures.0) (segments-room _ _ _ c.requires)

pub lay_segments-s-requires-clause-lower_room : goal.lay_segments-s-requires-clause-lower_room
lay_segments-s-requires-clause-lower_room c = rw (c.deref.ensures.0, c.deref-2.ensures.0) (segments-room _ _ _ c.requires)

pub lay_costs-cost-requires-clause-room : goal.lay_costs-cost-requires-clause-room
lay_costs-cost-requires-clause-room c = costs-room _ c.args.ends.now _ c.requires

pub slice_bounds-row-end : goal.slice_bounds-row-end
slice_bounds-row-end c =
    row_fits _ c.args.ends.now _ c.requires (rw (c.deref.ensures.0, c.deref-2.ensures.0) at c.lay_rows-p.ensures)
    (rw (c.deref.ensures.0, c.deref-2.ensures.0) at c.lay_segments-s.ensures.stored) (rw (c.deref.ensures.0, c.deref-2.ensures.0) at c.lay_segments-s.ensures.stored_2) c.lay_costs-cost.ensures

pub slice_bounds-find_x-end : goal.slice_bounds-find_x-end
slice_bounds-find_x-end c = sym (length-take-le _ _ (
    row_fits _ c.args.ends.now _ c.requires (rw (c.deref.ensures.0, c.deref-2.ensures.0) at c.lay_rows-p.ensures)
    (rw (c.deref.ensures.0, c.deref-2.ensures.0) at c.lay_segments-s.ensures.stored) (rw (c.deref.ensures.0, c.deref-2.ensures.0) at c.lay_segments-s.ensures.stored_2) c.lay_costs-cost.ensures))

pub slice_bounds-upper-end : goal.slice_bounds-upper-end
slice_bounds-upper-end c =
    upper_fits _ c.args.ends.now _ c.requires (rw (c.deref.ensures.0, c.deref-2.ensures.0) at c.lay_rows-p.ensures)
    (rw (c.deref.ensures.0, c.deref-2.ensures.0) at c.lay_segments-s.ensures.stored) (rw (c.deref.ensures.0, c.deref-2.ensures.0) at c.lay_segments-s.ensures.stored_2) c.lay_costs-cost.ensures

pub slice_bounds-find_x-end-2 : goal.slice_bounds-find_x-end-2
slice_bounds-find_x-end-2 c = sym (length-take-le _ _ (
    upper_fits _ c.args.ends.now _ c.requires (rw (c.deref.ensures.0, c.deref-2.ensures.0) at c.lay_rows-p.ensures)
    (rw (c.deref.ensures.0, c.deref-2.ensures.0) at c.lay_segments-s.ensures.stored) (rw (c.deref.ensures.0, c.deref-2.ensures.0) at c.lay_segments-s.ensures.stored_2) c.lay_costs-cost.ensures))

pub slice_bounds-lower-end : goal.slice_bounds-lower-end
slice_bounds-lower-end c =
    lower-fits _ c.args.ends.now _ c.requires (rw (c.deref.ensures.0, c.deref-2.ensures.0) at c.lay_rows-p.ensures)
    (rw (c.deref.ensures.0, c.deref-2.ensures.0) at c.lay_segments-s.ensures.stored) (rw (c.deref.ensures.0, c.deref-2.ensures.0) at c.lay_segments-s.ensures.stored_2) c.lay_costs-cost.ensures

pub slice_bounds-find_x-end-3 : goal.slice_bounds-find_x-end-3
slice_bounds-find_x-end-3 c = sym (length-take-le _ _ (
    lower-fits _ c.args.ends.now _ c.requires (rw (c.deref.ensures.0, c.deref-2.ensures.0) at c.lay_rows-p.ensures)
    (rw (c.deref.ensures.0, c.deref-2.ensures.0) at c.lay_segments-s.ensures.stored) (rw (c.deref.ensures.0, c.deref-2.ensures.0) at c.lay_segments-s.ensures.stored_2) c.lay_costs-cost.ensures))

pub find_x-requires : goal.find_x-requires
find_x-requires c =
    rw c.deref-3.ensures.0
    (spaceable _ c.args.ends.now _ c.requires (rw (c.deref.ensures.0, c.deref-2.ensures.0) at c.lay_rows-p.ensures)
    (rw (c.deref.ensures.0, c.deref-2.ensures.0) at c.lay_segments-s.ensures.stored) (rw (c.deref.ensures.0, c.deref-2.ensures.0) at c.lay_segments-s.ensures.stored_2) c.lay_costs-cost.ensures)

pub returns : goal.returns
returns c =
    lines-spaced _ c.args.ends.now _ c.requires (rw (c.deref.ensures.0, c.deref-2.ensures.0) at c.lay_rows-p.ensures)
    (rw (c.deref.ensures.0, c.deref-2.ensures.0) at c.lay_segments-s.ensures.stored) (rw (c.deref.ensures.0, c.deref-2.ensures.0) at c.lay_segments-s.ensures.stored_2) c.lay_costs-cost.ensures _
    (rw c.deref-3.ensures.0 at c.find_x.ensures)
