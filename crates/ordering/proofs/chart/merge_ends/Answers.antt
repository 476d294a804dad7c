-- Each turn writes a merged edge in the direction of its first edge.
use mathlib.Core.Path.{◌∙◌}
use native.Mathlib.Omega.{arith}
use Rattle.ordering.proofs.DrawnLaws.{first-in, drawn-more, drawn-room, drawn-all}
use Rattle.ordering.proofs.chart.merge_ends.Goals as goal

pub bounds-turned-first : goal.bounds-turned-first
bounds-turned-first c =
    omega (arith, first-in c.args.edges.now (c.as_slice-line-items.ensures.value ∙ c.merge_edges-lines.ensures) c.loop-line.line-index c.loop-line-test.true, c.requires.turned_len)

pub push-requires : goal.push-requires
push-requires c = (
  omega arith,
  drawn-room c.args.edges.now (c.as_slice-line-items.ensures.value ∙ c.merge_edges-lines.ensures) c.loop-line.line-index c.loop-line-test.true c.args.turned.now
      c.requires.mergeable.few c.loop-line.invariant,
)

pub loop-line-preserved : goal.loop-line-preserved
loop-line-preserved c =
    drawn-more c.args.edges.now (c.as_slice-line-items.ensures.value ∙ c.merge_edges-lines.ensures) c.loop-line.line-index c.loop-line-test.true c.args.turned.now
    c.loop-line.invariant c.directed.ensures c.push.ensures

pub returns : goal.returns
returns c =
    drawn-all c.args.edges.now (c.as_slice-line-items.ensures.value ∙ c.merge_edges-lines.ensures) (omega arith) c.args.turned.now c.loop-line.invariant
