-- Each turn writes one cost more.
use native.Mathlib.Omega.{arith}
use mathlib.Core.Path.{refl, ap, ◌∙◌}
use mathlib.Core.List.{List, ◌++◌}
use Prim.Native.Nat.{ℕ}
use lib.Seq.{take_all}
use Rattle.coordinates.specs.Costing.{line_costs}
use Rattle.coordinates.proofs.LayLaws.{line-length, line-more}
use Rattle.coordinates.proofs.cost.cost_line.Goals as goal

pub loop-j-preserved : goal.loop-j-preserved
loop-j-preserved c =
    line-more c.args.weight c.args.k c.args.costs.now.items c.loop-j.j c.loop-j.invariant c.loop-j-test.true c.factor_at.ensures refl c.push.ensures.items

pub returns : goal.returns
returns c =
    let l = line_costs c.args.weight c.args.k in
    c.loop-j.invariant ∙ ap (λ (x : List ℕ). c.args.costs.now.items ++ x) (take_all c.loop-j.j l (omega (arith, line-length c.args.weight c.args.k)))
