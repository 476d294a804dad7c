-- The starred cases, computed from the definitions.
use mathlib.Core.Path.{◌≡◌, refl}
use mathlib.Core.List.{map}
use Rattle.graph.specs.Rows.{total}
use Rattle.graph.specs.Search.{run, keeps_one, keeps, sieve, extend, placements, lightest, first_lightest, widest, rows_of}
use Rattle.table.specs.Number.{byte_at, number_at, number_in, many}
use Rattle.table.specs.Table.{adjust_at, wait_at, kind_at, name_byte_at, name_at, named_at, step_at, end_at, edge_between, edge_at, firmness_at, table_edge_at, steps_within, edges_within, lists_within, table_within, read_within}
use Rattle.acyclic.specs.Loops.{mark, sweep, sweeps, reached, on_loop, first_from, lowest_on_loop}
use Rattle.acyclic.specs.Oriented.{must_of, leads, turns, stand_after, oriented_from, oriented}
use Rattle.layering.specs.Calls.{table_rows_found, rows_of_table}
use Rattle.layering.specs.Starred.{tell_rows, starred_rows}

-- finding the rows of each case tells what the case says
pub starred-rows : map (λ c. tell_rows c.input) starred_rows ≡ map (λ c. c.expected) starred_rows
unfolding total run keeps_one keeps sieve extend placements lightest first_lightest widest rows_of byte_at number_at number_in many adjust_at wait_at kind_at name_byte_at name_at named_at step_at end_at edge_between edge_at firmness_at table_edge_at steps_within edges_within lists_within table_within read_within mark sweep sweeps reached on_loop first_from lowest_on_loop must_of leads turns stand_after oriented_from oriented table_rows_found rows_of_table
starred-rows = refl
