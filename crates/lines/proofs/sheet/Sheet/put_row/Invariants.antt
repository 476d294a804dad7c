-- The points from the index on are still to be put.
use Rattle.std.proofs.Common.{map, drop}
use Rattle.labels.specs.Text.{blanked}
use Rattle.labels.specs.Labels.{label_text}
use Rattle.labels.proofs.PageLaws.{Putting}
use Rattle.lines.proofs.sheet.Sheet.put_row.Given as goal

abbrev pub invariant-loop-p : goal.invariant-loop-p
invariant-loop-p g l =
    let show = label_text l.self.labels.bytes.now l.self.labels.steps.now l.self.labels.dummies.now l.self.labels.turned.now in
    Putting l.initial.page.items (blanked (map show l.row)) l.page.items (blanked (map show (drop l.p-index l.row)))
