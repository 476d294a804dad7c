use Rattle.std.proofs.Common.{arith, rules, ℕ, List, ap, map, length, length-append}
use Rattle.labels.specs.Text.{decimal}
use Rattle.labels.specs.Labels.{label_text}
use Rattle.labels.specs.declared.Labels.{Labels}
use Rattle.labels.proofs.PageLaws.{putting-room, putting-part, putting-end, parts-put}
use Rattle.lines.proofs.PrintLaws.{next-field, last-field, line-parts, field-parts, line-length}
use Rattle.lines.proofs.sheet.Sheet.put_row.Goals as goal

-- the text of a point
abbrev show : Labels → ℕ → List ℕ
show a = label_text a.bytes.now a.steps.now a.dummies.now a.turned.now

pub put_point-requires : goal.put_point-requires
put_point-requires g c =
    let a = c.args.self.now.labels in
    let room = putting-room c.loop-p.invariant (next-field (show a) c.args.row.now c.loop-p.p-index c.loop-p-test.true) in
    let whole = line-length (decimal c.args.r) (map (show a) c.args.row.now) in
    let number = simp length-append at (ap length c.put_number.ensures) in
    (search rules, (omega (arith, c.requires.row_below.below c.loop-p.p-index c.loop-p-test.true, c.args.self.now.printable.one_a_step), omega (arith, room, whole, number)))

pub loop-p-preserved : goal.loop-p-preserved
loop-p-preserved g c =
    putting-part c.loop-p.invariant (next-field (show c.args.self.now.labels) c.args.row.now c.loop-p.p-index c.loop-p-test.true) c.put_point.ensures

pub push-requires : goal.push-requires
push-requires g c =
    let a = c.args.self.now.labels in
    let done = putting-end c.loop-p.invariant (last-field (show a) c.args.row.now c.loop-p.p-index c.loop-p-test.false) in
    let whole = line-length (decimal c.args.r) (map (show a) c.args.row.now) in
    let number = simp length-append at (ap length c.put_number.ensures) in
    (search rules, omega (arith, whole, number, simp length-append at (ap length done)))

pub returns : goal.returns
returns g c =
    let a = c.args.self.now.labels in
    let fields = map (show a) c.args.row.now in
    let done = putting-end c.loop-p.invariant (last-field (show a) c.args.row.now c.loop-p.p-index c.loop-p-test.false) in
    parts-put c.args.page.now.items (line-parts (decimal c.args.r) fields)
    (parts-put c.args.page.now.items (field-parts (decimal c.args.r) fields) c.put_number.ensures done) c.push.ensures.items
