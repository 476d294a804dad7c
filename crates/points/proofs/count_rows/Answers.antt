use mathlib.Core.Path.{◌≡◌, sym, ◌∙◌}
use Prim.Native.Nat.{◌+◌, max}
use borrow.Author.Rules.{rules}
use Rattle.graph.specs.Rows.{at}
use Rattle.points.proofs.RowCountLaws.{count_turn, count-end}
use Rattle.points.proofs.count_rows.Goals as goal

pub loop-row-preserved : goal.loop-row-preserved
loop-row-preserved c =
    let e : c.max-count.result ≡ max c.loop-row.count (at c.args.rows.now c.loop-row.row-index + 1) = search rules in
    rw e (sym (count_turn c.args.rows.now c.loop-row.row-index c.loop-row.count c.loop-row-test.true) ∙ c.loop-row.invariant)

pub returns : goal.returns
returns c = sym (count-end c.args.rows.now c.loop-row.row-index c.loop-row.count c.loop-row-test.false) ∙ c.loop-row.invariant
