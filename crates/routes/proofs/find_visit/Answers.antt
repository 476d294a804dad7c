use native.Mathlib.Omega.{arith}
use Rattle.routes.proofs.FindLaws.{seeking-start, leads-down, dummies-few, found_here, found-later, found_nowhere}
use Rattle.routes.proofs.find_visit.Goals as goal

pub loop-line-init : goal.loop-line-init
loop-line-init c = seeking-start _ _ _ _

pub count_between-k-requires-clause-a_in_bounds : goal.count_between-k-requires-clause-a_in_bounds
count_between-k-requires-clause-a_in_bounds c = (leads-down _ _ _ c.requires _ c.loop-line-test.true _ c.directed-drawn.ensures).0

pub count_between-k-requires-clause-b_in_bounds : goal.count_between-k-requires-clause-b_in_bounds
count_between-k-requires-clause-b_in_bounds c = (leads-down _ _ _ c.requires _ c.loop-line-test.true _ c.directed-drawn.ensures).1.0

pub count_between-k-requires-clause-a_bound : goal.count_between-k-requires-clause-a_bound
count_between-k-requires-clause-a_bound c = (leads-down _ _ _ c.requires _ c.loop-line-test.true _ c.directed-drawn.ensures).1.1

pub visit_line-requires-clause-k_bound : goal.visit_line-requires-clause-k_bound
visit_line-requires-clause-k_bound c = dummies-few _ _ _ c.requires _ c.loop-line-test.true _ c.directed-drawn.ensures _ c.count_between-k.ensures _ _ _ c.loop-line.invariant

pub returns-then-left-k : goal.returns-then-left-k
returns-then-left-k c =
    found_here _ _ _ c.requires _ c.loop-line-test.true _ c.directed-drawn.ensures _ c.count_between-k.ensures _ _ _ c.loop-line.invariant c.if-left-k.true _
    c.visit_line.ensures

pub loop-line-preserved : goal.loop-line-preserved
loop-line-preserved c =
    found-later _ _ _ c.requires _ c.loop-line-test.true _ c.directed-drawn.ensures _ c.count_between-k.ensures _ _ _ c.loop-line.invariant (omega arith)

pub returns : goal.returns
returns c = found_nowhere _ _ _ c.requires _ _ _ _ c.loop-line.invariant (omega arith)
