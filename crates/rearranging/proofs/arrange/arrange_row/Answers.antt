-- The arrays have room for the chart, and what is laid in them is what the search takes.
use Rattle.rearranging.proofs.ArrangeLaws as laws
use Rattle.rearranging.proofs.arrange.arrange_row.Goals as goal

pub lay_rows-p-requires : goal.lay_rows-p-requires
lay_rows-p-requires c = laws.rows_room c.requires

pub lay_segments-s-requires-clause-upper_room : goal.lay_segments-s-requires-clause-upper_room
lay_segments-s-requires-clause-upper_room c = laws.segments-room c.requires

pub lay_segments-s-requires-clause-lower_room : goal.lay_segments-s-requires-clause-lower_room
lay_segments-s-requires-clause-lower_room c = laws.segments-room c.requires

pub slice_bounds-row-end : goal.slice_bounds-row-end
slice_bounds-row-end c = laws.row_fits c.requires c.lay_rows-p.ensures c.lay_segments-s.ensures.stored c.lay_segments-s.ensures.stored_2

pub slice_bounds-upper-end : goal.slice_bounds-upper-end
slice_bounds-upper-end c = laws.upper_fits c.requires c.lay_rows-p.ensures c.lay_segments-s.ensures.stored c.lay_segments-s.ensures.stored_2

pub slice_bounds-lower-end : goal.slice_bounds-lower-end
slice_bounds-lower-end c = laws.lower-fits c.requires c.lay_rows-p.ensures c.lay_segments-s.ensures.stored c.lay_segments-s.ensures.stored_2

pub slice_bounds-chart-end : goal.slice_bounds-chart-end
slice_bounds-chart-end c = laws.row_count c.requires c.lay_rows-p.ensures c.lay_segments-s.ensures.stored c.lay_segments-s.ensures.stored_2

pub slice_bounds-chart-end-2 : goal.slice_bounds-chart-end-2
slice_bounds-chart-end-2 c = laws.upper-count c.requires c.lay_rows-p.ensures c.lay_segments-s.ensures.stored c.lay_segments-s.ensures.stored_2

pub slice_bounds-chart-end-3 : goal.slice_bounds-chart-end-3
slice_bounds-chart-end-3 c = laws.lower-count c.requires c.lay_rows-p.ensures c.lay_segments-s.ensures.stored c.lay_segments-s.ensures.stored_2

pub arrange_laid-requires : goal.arrange_laid-requires
arrange_laid-requires c = laws.stack c.requires c.lay_rows-p.ensures c.lay_segments-s.ensures.stored c.lay_segments-s.ensures.stored_2

pub returns : goal.returns
returns c = laws.row-ended c.requires c.lay_rows-p.ensures c.lay_segments-s.ensures.stored c.lay_segments-s.ensures.stored_2 c.arrange_laid.ensures
