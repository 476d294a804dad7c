use mathlib.Core.Path.{◌∙◌}
use borrow.Author.Rules.{rules}
use Rattle.std.proofs.lemmas.Iterator.{YieldsList-from_slice}
use Rattle.std.proofs.lemmas.Iterator.Search.{any_from_yields_List}
use Rattle.graph.specs.declared.TableEdge.{TableEdge}
use Rattle.orientation.proofs.GatherLaws.{soft-any}
use Rattle.orientation.proofs.has_soft.Goals as goal

pub returns : goal.returns
returns c =
    any_from_yields_List (λ (e : TableEdge). e.soft) _ _ _ c.any.ensures.ran (YieldsList-from_slice c.args.edges.now (search rules)) (λ x b q k. search rules)
    ∙ soft-any c.args.edges.now
