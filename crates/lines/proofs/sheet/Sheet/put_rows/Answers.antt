use Rattle.std.proofs.Common.{arith, rules, ◌++◌, ◌+◌, ◌-◌, ◌∙◌, ℕ, List, ap, sym, subst, length}
use Rattle.buffers.specs.Lists.{Below}
use Rattle.labels.specs.Labels.{label_text}
use Rattle.labels.specs.declared.Labels.{Labels}
use Rattle.labels.proofs.PageLaws.{Putting, putting-room, putting-part, putting-end}
use Rattle.lines.specs.Printing.{lines_from, dummy_rows}
use Rattle.lines.proofs.PrintLaws.{leading-few, leading-below, behind-below, parted-front, parted-back, line-of, next-line, last-line}
use Rattle.lines.proofs.sheet.Sheet.put_rows.Goals as goal

-- the text of a point
abbrev show : Labels → ℕ → List ℕ
show a = label_text a.bytes.now a.steps.now a.dummies.now a.turned.now

pub split_at-requires : goal.split_at-requires
split_at-requires g c =
    let s = c.args.self.now in
    omega (arith, leading-few (s.ys.now ++ dummy_rows s.labels.dummies.now) c.loop-r.r c.loop-r.rest.now, c.count_leading.ensures)

pub put_row-requires : goal.put_row-requires
put_row-requires g c =
    let s = c.args.self.now in
    let rows = s.ys.now ++ dummy_rows s.labels.dummies.now in
    let row = parted-front rows c.loop-r.r c.loop-r.rest.now c.count_leading.ensures c.split_at.ensures.front in
    let room = putting-room c.loop-r.invariant.putting (next-line (show s.labels) rows c.loop-r.r c.args.height c.loop-r.rest.now c.loop-r-test.true) in (
      search rules,
      (subst (Below (length s.ys.now + length s.labels.dummies.now)) (sym row) (leading-below rows c.loop-r.r c.loop-r.invariant.below), omega (arith, room, ap length (line-of (show s.labels) rows c.loop-r.r c.loop-r.rest.now row))),
    )

pub loop-r-preserved : goal.loop-r-preserved
loop-r-preserved g c =
    let s = c.args.self.now in
    let rows = s.ys.now ++ dummy_rows s.labels.dummies.now in
    let row = parted-front rows c.loop-r.r c.loop-r.rest.now c.count_leading.ensures c.split_at.ensures.front in
    let rest = parted-back rows c.loop-r.r c.loop-r.rest.now c.count_leading.ensures c.split_at.ensures.back in
    let put = c.put_row.ensures ∙ ap (λ l. c.loop-r.page.items ++ l) (line-of (show s.labels) rows c.loop-r.r c.loop-r.rest.now row) in
    record {
      below = subst (Below (length s.ys.now + length s.labels.dummies.now)) (sym rest) (behind-below rows c.loop-r.r c.loop-r.invariant.below);
      putting =
          subst (λ ps. Putting c.args.page.now.items (lines_from (show s.labels) rows 0 c.args.height s.order.now) c.put_row.new.page.items (lines_from (show s.labels) rows (c.loop-r.r + 1) (c.args.height - (c.loop-r.r + 1)) ps)) (sym rest)
          (putting-part c.loop-r.invariant.putting (next-line (show s.labels) rows c.loop-r.r c.args.height c.loop-r.rest.now c.loop-r-test.true) put);
    }

pub returns : goal.returns
returns g c =
    let s = c.args.self.now in
    putting-end c.loop-r.invariant.putting
    (last-line (show s.labels) (s.ys.now ++ dummy_rows s.labels.dummies.now) c.loop-r.r c.args.height c.loop-r.rest.now c.loop-r-test.false)
