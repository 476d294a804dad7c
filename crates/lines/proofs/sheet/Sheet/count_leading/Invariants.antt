-- All points in front of the index stand in the row.
use Rattle.std.proofs.Common.{◌≡◌, ◌++◌, ◌+◌, drop, length}
use Rattle.lines.specs.Printing.{leading, dummy_rows}
use Rattle.lines.proofs.sheet.Sheet.count_leading.Given as goal

abbrev pub invariant-loop-i : goal.invariant-loop-i
invariant-loop-i l =
    let rows = l.self.ys.now ++ dummy_rows l.self.labels.dummies.now in
    l.i + length (leading rows l.r (drop l.i l.points)) ≡ length (leading rows l.r l.points)
