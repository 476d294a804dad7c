use mathlib.Core.Path.{sym, ap, ◌∙◌}
use Rattle.std.proofs.Common.{rules}
use native.Mathlib.Omega.{arith}
use Rattle.table.specs.Number.{read_of}
use Rattle.table.proofs.ManyLaws.{kept_next, kept-fault, kept-end}
use Rattle.reading.proofs.lists.many.Goals as goal

pub returns-in_err-read : goal.returns-in_err-read
returns-in_err-read g c read h =
    let is = sym (h c.loop.next c.item.result c.loop.invariant.2 c.item.ensures) ∙ ap read_of c.in_err-read.was in
    let e = kept-fault read _ _ _ _ _ (c.loop.invariant.3 read h) _ c.loop-test.true is in
    search (rules, e)

pub loop-preserved : goal.loop-preserved
loop-preserved g c = (
  omega (arith, c.loop-test.true),
  omega (arith, c.push.ensures.len, c.loop.invariant.1),
  search rules,
  λ read h.
      let is = sym (h c.loop.next c.item.result c.loop.invariant.2 c.item.ensures) ∙ ap read_of c.in_ok-read.was in
      rw c.push.ensures.items (kept_next read _ _ _ _ _ (c.loop.invariant.3 read h) _ _ c.loop-test.true is),
)

pub returns : goal.returns
returns g c read h = sym (kept-end read _ _ _ _ _ (c.loop.invariant.3 read h) c.loop-test.false)
