-- The lists in which a chart is laid can be drawn, and their drawing is that of the chart.
use native.Mathlib.Omega.{arith}
use Rattle.drawing.proofs.DrawLaws as laws
use Rattle.drawing.proofs.draw_in.Goals as goal

pub lay_segments-s-requires-clause-upper_room : goal.lay_segments-s-requires-clause-upper_room
lay_segments-s-requires-clause-upper_room g c = laws.segments_fit c.args.layout.now.chart c.requires.drawable g.row.POINTS g.row.SEGMENTS c.requires.points_fit c.requires.sizes.1

pub lay_segments-s-requires-clause-lower_room : goal.lay_segments-s-requires-clause-lower_room
lay_segments-s-requires-clause-lower_room g c = laws.segments_fit c.args.layout.now.chart c.requires.drawable g.row.POINTS g.row.SEGMENTS c.requires.points_fit c.requires.sizes.1

pub shared_whole_as_front-upper : goal.shared_whole_as_front-upper
shared_whole_as_front-upper g c = (
  laws.upper_within c.args.layout.now.chart c.requires.drawable c.requires.points_fit c.requires.sizes.1
      c.lay_rows-p.ensures c.lay_segments-s.ensures.stored c.lay_segments-s.ensures.stored_2,
  omega (arith, c.requires.sizes.0, c.requires.sizes.1),
)

pub invariant_of-sketch : goal.invariant_of-sketch
invariant_of-sketch g c = record {
  segmented =
      laws.laid-segmented c.args.layout.now.chart c.requires.drawable c.requires.points_fit c.requires.sizes.1
      c.lay_rows-p.ensures c.lay_segments-s.ensures.stored c.lay_segments-s.ensures.stored_2;
}

pub draw_order-requires-clause-sketched : goal.draw_order-requires-clause-sketched
draw_order-requires-clause-sketched g c =
    laws.laid-sketched c.args.layout.now.chart c.requires.drawable c.requires.points_fit c.requires.sizes.1
    c.lay_rows-p.ensures c.lay_segments-s.ensures.stored c.lay_segments-s.ensures.stored_2 _ c.count_rows.ensures

pub returns : goal.returns
returns g c =
    laws.laid-drawn c.args.layout.now.chart c.requires.drawable c.requires.points_fit c.requires.sizes.1
    c.lay_rows-p.ensures c.lay_segments-s.ensures.stored c.lay_segments-s.ensures.stored_2 _ c.count_rows.ensures _ _ _ c.draw_order.ensures
