use mathlib.Core.Path.{refl, ◌∙◌}
use native.Mathlib.Omega.{arith}
use Rattle.orientation.proofs.JudgeLaws.{judging-none, judging-more, judging-all}
use Rattle.orientation.proofs.judge.judge_edges.Goals as goal

pub loop-e-init : goal.loop-e-init
loop-e-init c = rw c.new-turned.ensures (refl, refl, judging-none _ _ _ c.requires.closure)

pub loop-e-preserved : goal.loop-e-preserved
loop-e-preserved c =
    let held = c.loop-e.invariant in
    (c.judge_edge.ensures.nodes ∙ held.0, omega (arith, c.push.ensures.len, held.1), rw c.push.ensures.items (judging-more held.2 c.loop-e-test.true (rw held.0 at c.judge_edge.ensures.judged)))

pub returns : goal.returns
returns c = judging-all c.loop-e.invariant.2 (omega arith)
