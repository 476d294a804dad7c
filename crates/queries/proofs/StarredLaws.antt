-- The starred cases that the reader alone decides, computed from the definitions.
use mathlib.Core.Path.{◌≡◌, refl}
use mathlib.Core.List.{map}
use Rattle.table.specs.Number.{byte_at, number_at, number_in, many}
use Rattle.table.specs.Table.{adjust_at, wait_at, kind_at, name_byte_at, name_at, named_at, step_at, end_at, edge_between, edge_at, firmness_at, table_edge_at, steps_within, edges_within, lists_within, table_within, read_within}
use Rattle.queries.specs.Calls.{counts_call}
use Rattle.table.specs.Starred.{Case}
use Rattle.queries.specs.Starred.{starred_counts}

pub starred-counts : map (λ (c : Case). counts_call c.input) starred_counts ≡ map (λ (c : Case). c.expected) starred_counts
unfolding byte_at number_at number_in many adjust_at wait_at kind_at name_byte_at name_at named_at step_at end_at edge_between edge_at firmness_at table_edge_at steps_within edges_within lists_within table_within read_within counts_call
starred-counts = refl
