use mathlib.Core.Path.{sym}
use Rattle.std.proofs.Common.{rules}
use Prim.Native.Nat.{zero-le}
use native.Mathlib.Nat.{le_antisymm}
use Rattle.table.specs.Table.{name_at}
use Rattle.buffers.proofs.IndexLaws.{next_le}
use Rattle.table.proofs.ManyLaws.{counted_start, counted_next, counted-fault, counted-end}
use Rattle.table.proofs.source.Source.name_at.Goals as goal

pub loop-init : goal.loop-init
unfolding name_at
loop-init c = (zero-le, counted_start _ _ _)

pub returns-in_err-after : goal.returns-in_err-after
returns-in_err-after c = search (rules, counted-fault _ _ _ _ _ c.loop.invariant.1 _ c.loop-test.true (sym c.in_err-after.ensures))

pub loop-preserved : goal.loop-preserved
loop-preserved c = (next_le _ _ c.loop-test.true, counted_next _ _ _ _ _ c.loop.invariant.1 _ _ c.loop-test.true (sym c.in_ok-after.ensures))

pub returns : goal.returns
returns c = sym (counted-end _ _ _ _ _ c.loop.invariant.1 (le_antisymm c.loop.invariant.0 c.loop-test.false))
