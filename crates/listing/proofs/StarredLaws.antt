-- The starred cases, all of them, computed from the definitions.
use mathlib.Core.Path.{◌≡◌, refl}
use mathlib.Core.List.{map}
use Rattle.graph.specs.Rows.{total}
use Rattle.graph.specs.Search.{run, keeps_one, keeps, sieve, extend, placements, lightest, first_lightest, widest, rows_of}
use Rattle.table.specs.Number.{byte_at, number_at, number_in, many}
use Rattle.table.specs.Table.{adjust_at, wait_at, kind_at, name_byte_at, name_at, named_at, step_at, end_at, edge_between, edge_at, firmness_at, table_edge_at, steps_within, edges_within, lists_within, table_within, read_within}
use Rattle.table.specs.Starred.{Case}
use Rattle.acyclic.specs.Loops.{mark, sweep, sweeps, reached, on_loop, first_from, lowest_on_loop}
use Rattle.acyclic.specs.Oriented.{must_of, leads, turns, stand_after, oriented_from, oriented}
use Rattle.layering.specs.Calls.{table_rows_found}
use Rattle.points.specs.Points.{dummies, point_rows, chain, segments_from, segments, row_count}
use Rattle.points.specs.Positions.{position, place}
use Rattle.buffers.specs.Lists.{sum}
use Rattle.barycentre.specs.Means.{mean_of, insert, sort_onto, moving, fill, reorder}
use Rattle.passes.specs.Order.{points_in, start_order, settle_row, down_from, up_from, results}
use Rattle.barycentre.specs.PointEnds.{ends}
use Rattle.crossings.specs.Crossings.{crossings_with, crossing_pairs, crossings}
use Rattle.fewest.specs.Fewest.{drawn, fewest, best_order, drawing_of}
use Rattle.ordering.specs.Calls.{chart_of_table}
use Rattle.labels.specs.Text.{digits, blanked}
use Rattle.merging.specs.Merged.{has_ends, like, none_like, largest_gap, added_weight, merged_from, merged, drawn_edges}
use Rattle.lines.specs.Printing.{numbered}
use Rattle.listing.specs.Listing.{row_lines, chart_text, listing}
use Rattle.listing.specs.Starred.{starred_listings}

-- each case prints what it says
pub starred-listings : map (λ (c : Case). listing c.input) starred_listings ≡ map (λ (c : Case). c.expected) starred_listings
unfolding total run keeps_one keeps sieve extend placements lightest first_lightest widest rows_of byte_at number_at number_in many adjust_at wait_at kind_at name_byte_at name_at named_at step_at end_at edge_between edge_at firmness_at table_edge_at steps_within edges_within lists_within table_within read_within mark sweep sweeps reached on_loop first_from lowest_on_loop must_of leads turns stand_after oriented_from oriented table_rows_found has_ends like none_like largest_gap added_weight merged_from merged drawn_edges dummies point_rows chain segments_from segments row_count sum mean_of insert sort_onto moving fill reorder points_in start_order position place ends settle_row down_from up_from results crossings_with crossing_pairs crossings drawn fewest best_order drawing_of chart_of_table digits blanked numbered row_lines chart_text listing
starred-listings = refl
