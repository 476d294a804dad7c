-- Edges that are fair are so in each direction, and the flat lists hold them as their flags say.
use mathlib.Core.Path.{sym, subst}
use Rattle.rows.specs.Placed.{FairEdges, EdgesPlaced}
use Rattle.layering.proofs.RankLaws.{directed-edges-fair}
use Rattle.layering.proofs.place.rank_directed.Goals as goal

pub place_edges-requires : goal.place_edges-requires
place_edges-requires c =
    subst (FairEdges c.args.n) (sym c.flatten_edges-flat.ensures) (directed-edges-fair c.args.n c.args.edges.now c.requires.orientable c.args.turned.now)

pub returns : goal.returns
returns c = subst (λ l. EdgesPlaced c.args.n l c.place_edges.result) c.flatten_edges-flat.ensures c.place_edges.ensures
