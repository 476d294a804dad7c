-- Edges of which none is soft are all as they are. Of others a loop of must edges is refused, and the flags are found.
use mathlib.Core.Path.{sym, ◌∙◌}
use Rattle.layering.proofs.RankLaws.{turned-firm, turned-loop, turned-soft}
use Rattle.layering.proofs.turn.turn_edges.Goals as goal

pub returns-then-not-has_soft : goal.returns-then-not-has_soft
returns-then-not-has_soft c = turned-firm _ _ c.requires (sym c.has_soft.ensures ∙ c.if-not-has_soft.true) c.from-turned.ensures.0 c.truncate.ensures.items

pub returns-in-Some : goal.returns-in-Some
returns-in-Some c = turned-loop _ _ c.requires (sym c.find_must_loop.ensures ∙ c.in-Some.is)

pub returns : goal.returns
returns c = turned-soft _ _ c.requires (sym c.find_must_loop.ensures ∙ c.in_default.is) _ c.orient_edges.ensures
