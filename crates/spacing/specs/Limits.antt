-- How large a chart may be to get an x, each number named once for the definitions; `src/limits.rt` names the same for the code.
use Rattle.std.specs.Prelude.{ℕ, ◌+◌, ◌*◌}
use Rattle.table.specs.Limits.{max_edges, max_weight}

-- points (document 02, request 7)
abbrev pub max_xs : ℕ
max_xs = 128

-- segments between so many: one more than dummies on each line
abbrev pub max_segments : ℕ
max_segments = max_xs + max_edges

-- the nodes of the auxiliary network: the points, and one for each segment
abbrev pub max_nodes : ℕ
max_nodes = max_xs + max_segments

-- and its edges: fewer than points, and two for each segment
abbrev pub max_links : ℕ
max_links = max_xs + 2 * max_segments

-- the factors of request 7: between two steps, with one dummy, between two dummies
abbrev pub plain_factor : ℕ
plain_factor = 1

abbrev pub end_factor : ℕ
end_factor = 2

abbrev pub inner_factor : ℕ
inner_factor = 8

-- costs are below it: the weights of all edges may be added on one line
abbrev pub cost_limit : ℕ
cost_limit = max_edges * max_weight * inner_factor + 1
