use Rattle.graph.specs.Rows.{at}
use mathlib.Core.Path.{refl}
use native.Mathlib.Omega.{arith}
use Rattle.transport.specs.Shift.{CarriesOn}
use Rattle.transport.proofs.SumLaws.{sum-ge}
use Rattle.transport.proofs.shift.carry_on.Goals as goal

pub overflow_add-x : goal.overflow_add-x
overflow_add-x c = record { fits = omega (arith, sum-ge c.args.xs.now c.args.u, c.requires.xs_bound_2) }

pub returns : goal.returns
returns c =
    CarriesOn.moves (at c.args.xs.now c.args.u) (omega arith) c.if-x-gt-FLOW_LIMIT.false refl c.shift_at.ensures
