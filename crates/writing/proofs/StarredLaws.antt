-- Tables and their shortest tables, computed from the definitions.
use mathlib.Core.Path.{◌≡◌, refl}
use mathlib.Core.List.{map}
use Rattle.outcome.specs.Refusal.{done}
use Rattle.table.specs.Number.{byte_at, number_at, number_in, many}
use Rattle.table.specs.Table.{adjust_at, wait_at, kind_at, name_byte_at, name_at, named_at, step_at, end_at, edge_between, edge_at, firmness_at, table_edge_at, steps_within, edges_within, lists_within, table_within, read_within}
use Rattle.table.specs.Starred.{Case}
use Rattle.acyclic.specs.Oriented.{any_soft}
use Rattle.encoding.specs.Shortest.{groups, short_number, short_name, short_step, short_firmness, short_edge, each, short_list, shortest}
use Rattle.writing.specs.Calls.{shortened_by, shortened}
use Rattle.writing.specs.Starred.{starred_shortest}

pub starred-shortest : map (λ (c : Case). shortened c.input) starred_shortest ≡ map (λ (c : Case). done c.expected) starred_shortest
unfolding byte_at number_at number_in many adjust_at wait_at kind_at name_byte_at name_at named_at step_at end_at edge_between edge_at firmness_at table_edge_at steps_within edges_within lists_within table_within read_within any_soft groups short_number short_name short_step short_firmness short_edge each short_list shortest shortened_by
starred-shortest = refl
