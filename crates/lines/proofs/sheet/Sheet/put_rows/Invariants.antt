-- The lines from row r on are still to be put, and the rest of the points stand in them.
use Rattle.std.proofs.Common.{◌++◌, ◌+◌, ◌-◌, length}
use Rattle.buffers.specs.Lists.{Below}
use Rattle.labels.specs.Labels.{label_text}
use Rattle.labels.proofs.PageLaws.{Putting}
use Rattle.lines.specs.Printing.{lines_from, dummy_rows}
use Rattle.lines.proofs.sheet.Sheet.put_rows.Given as goal

abbrev pub invariant-loop-r : goal.invariant-loop-r
invariant-loop-r g l =
    let show = label_text l.self.labels.bytes.now l.self.labels.steps.now l.self.labels.dummies.now l.self.labels.turned.now in
    let rows = l.self.ys.now ++ dummy_rows l.self.labels.dummies.now in
    record {
      below : Below (length l.self.ys.now + length l.self.labels.dummies.now) l.rest;
      putting : Putting l.initial.page.items (lines_from show rows 0 l.height l.self.order.now) l.page.items (lines_from show rows l.r (l.height - l.r) l.rest);
    }
