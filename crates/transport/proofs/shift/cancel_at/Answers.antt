use mathlib.Core.Path.{refl}
use native.Mathlib.Omega.{arith}
use Rattle.transport.specs.Shift.{Cancels}
use Rattle.transport.proofs.shift.cancel_at.Goals as goal

pub returns-clause-cancels : goal.returns-clause-cancels
returns-clause-cancels c = Cancels.off c.min-d.result (omega (arith, c.min-d.ensures)) (omega (arith, c.min-d.ensures)) refl refl
