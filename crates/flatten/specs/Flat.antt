-- Edges in flat lists, one list a field.
use Rattle.std.specs.Prelude.{List, ℕ}
use Rattle.graph.specs.declared.Edge.{Edge}
use Rattle.relaxation.specs.Network.{edges_of}
use Rattle.table.specs.Limits.{max_edges}
use Rattle.flatten.specs.declared.EdgeLists.{EdgeLists}

-- as many as a table can have
abbrev pub Flat : Type 0
Flat = EdgeLists max_edges

-- the edges that flat lists write down
abbrev pub flat_edges : {most : ℕ} → EdgeLists most → List Edge
flat_edges f = edges_of f.from.items f.to.items f.gap.items f.weight.items
