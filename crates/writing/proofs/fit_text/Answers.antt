-- A short buffer stays, and one with room gets the bytes at its front.
use Rattle.std.proofs.Common.{arith, ◌++◌, ap, drop, length}
use Rattle.writing.proofs.FittedLaws.{end_short, end-written}
use Rattle.writing.proofs.fit_text.Goals as goal

pub returns-then-out-len-clause-result_value : goal.returns-then-out-len-clause-result_value
returns-then-out-len-clause-result_value c = (end_short c.args.text.now c.args.out.now (omega (arith, c.if-out-len.true))).0

pub returns-then-out-len-clause-out_after : goal.returns-then-out-len-clause-out_after
returns-then-out-len-clause-out_after c = (end_short c.args.text.now c.args.out.now (omega (arith, c.if-out-len.true))).1

pub returns-clause-result_value : goal.returns-clause-result_value
returns-clause-result_value c = (end-written c.args.text.now c.args.out.now (omega (arith, c.if-out-len.false)) (ap (λ l. l ++ drop (length c.args.text.now) c.args.out.now) c.copy_from_slice.ensures.after)).0

pub returns-clause-out_after : goal.returns-clause-out_after
returns-clause-out_after c = (end-written c.args.text.now c.args.out.now (omega (arith, c.if-out-len.false)) (ap (λ l. l ++ drop (length c.args.text.now) c.args.out.now) c.copy_from_slice.ensures.after)).1
