use Rattle.std.proofs.Common.{arith, ◌++◌, ◌∙◌, ap, sym, length}
use Rattle.lines.specs.Printing.{dummy_rows}
use Rattle.lines.proofs.PrintLaws.{leading-turn, leading-other, leading_end}
use Rattle.lines.proofs.sheet.Sheet.count_leading.Goals as goal

pub returns-then-row_of-r : goal.returns-then-row_of-r
returns-then-row_of-r c =
    let s = c.args in
    let none = leading-other (s.self.now.ys.now ++ dummy_rows s.self.now.labels.dummies.now) s.r s.points.now c.loop-i.i c.loop-i-test.true (λ q. c.if-row_of-r.true (c.row_of.ensures ∙ q)) in
    omega (arith, c.loop-i.invariant, ap length none)

pub loop-i-preserved : goal.loop-i-preserved
loop-i-preserved c =
    let s = c.args in
    let more = leading-turn (s.self.now.ys.now ++ dummy_rows s.self.now.labels.dummies.now) s.r s.points.now c.loop-i.i c.loop-i-test.true (sym c.row_of.ensures ∙ c.if-row_of-r.false) in
    omega (arith, c.loop-i.invariant, ap length more)

pub returns : goal.returns
returns c =
    let s = c.args in
    let none = leading_end (s.self.now.ys.now ++ dummy_rows s.self.now.labels.dummies.now) s.r s.points.now c.loop-i.i c.loop-i-test.false in
    omega (arith, c.loop-i.invariant, ap length none)
