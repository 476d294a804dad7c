use mathlib.Core.Path.{ap, ◌∙◌}
use native.Mathlib.Omega.{arith}
use Rattle.flatten.specs.Flat.{flat_edges}
use Rattle.orientation.proofs.GatherLaws.{must-start, must-room, must-past, must-more}
use Rattle.orientation.proofs.gather.gather_must.Goals as goal
use Rattle.orientation.proofs.gather.gather_must.Goals.{then-not-e, else-not-e}

pub loop-e-init : goal.loop-e-init
loop-e-init c = must-start c.args.edges.now _ c.new-must.ensures

pub push-requires : goal.push-requires
push-requires c = (omega arith, must-room c.args.edges.now _ _ c.loop-e.invariant c.loop-e-test.true c.requires)

pub loop-e-preserved : goal.loop-e-preserved
loop-e-preserved c =
    let edges = c.args.edges.now in
    elim c.if-not-e.branch [
      | then-not-e w ↦ must-more edges _ _ c.loop-e.invariant _ w.from.result c.loop-e-test.true w.if-not-e.true w.from.ensures (ap flat_edges w.must-is ∙ w.push.ensures)
      | else-not-e w ↦ ap flat_edges w.must-is ∙ must-past edges _ _ c.loop-e.invariant c.loop-e-test.true w.if-not-e.false
    ]
