-- The array has room for the rows, and what is read of it and of the x is the stroke of the definition.
use native.Mathlib.Omega.{arith}
use Rattle.coordinates.proofs.SpaceLaws.{rows_room}
use Rattle.strokes.proofs.PlaceLaws.{row_low, x_low, point_few, stroke-placed}
use Rattle.strokes.proofs.place.place_stroke.Goals as goal

pub lay_rows-requires : goal.lay_rows-requires
lay_rows-requires c = rw (c.deref.ensures.0, c.deref-2.ensures.0) (rows_room _ _ _ c.requires.lined)

pub bounds-xs-v : goal.bounds-xs-v
bounds-xs-v c = omega (arith, point_few _ _ _ c.requires.lined c.args.v c.requires.point_in_bounds)

pub bounds-row-v : goal.bounds-row-v
bounds-row-v c = omega (arith, point_few _ _ _ c.requires.lined c.args.v c.requires.point_in_bounds)

pub offset_bounds-row-v : goal.offset_bounds-row-v
offset_bounds-row-v c = omega (arith, point_few _ _ _ c.requires.lined c.args.v c.requires.point_in_bounds)

pub offset_bounds-xs-v : goal.offset_bounds-xs-v
offset_bounds-xs-v c = omega (arith, point_few _ _ _ c.requires.lined c.args.v c.requires.point_in_bounds)

pub stroke_to-requires : goal.stroke_to-requires
stroke_to-requires c =
    let x = x_low _ _ _ c.requires.lined _ _ (rw (c.deref.ensures.0, c.deref-2.ensures.0) at c.lay_rows.ensures) c.requires.below c.args.v c.requires.point_in_bounds _ c.space_lines-xs.ensures in
    let row = row_low _ _ _ c.requires.lined _ _ (rw (c.deref.ensures.0, c.deref-2.ensures.0) at c.lay_rows.ensures) c.requires.below c.args.v c.requires.point_in_bounds in
    (omega (arith, x, row), omega (arith, x, row))

pub returns : goal.returns
returns c =
    stroke-placed _ _ _ c.requires.lined _ _ (rw (c.deref.ensures.0, c.deref-2.ensures.0) at c.lay_rows.ensures) c.requires.below _ c.requires.point_in_bounds _ c.space_lines-xs.ensures _
    c.stroke_to.ensures.value c.stroke_to.ensures.stands
