use native.Mathlib.Omega.{arith}
use Rattle.buffers.proofs.CopyLaws.{paste_entry}
use Rattle.buffers.proofs.copy_all.Goals as goal

pub loop-i-preserved : goal.loop-i-preserved
loop-i-preserved g c = rw c.loop-i.invariant (paste_entry c.args.values.now c.args.out.now c.loop-i.i _ c.index-values-i.is c.loop-i-test.true (omega (arith, c.loop-i-test.true, c.requires)))
