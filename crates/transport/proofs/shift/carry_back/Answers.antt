use mathlib.Core.Path.{refl}
use native.Mathlib.Omega.{arith}
use Rattle.transport.specs.Shift.{CarriesBack}
use Rattle.transport.proofs.shift.carry_back.Goals as goal

pub returns : goal.returns
returns c =
    CarriesBack.moves c.min-d.result (omega (arith, c.min-d.ensures)) (omega (arith, c.min-d.ensures)) refl c.shift_at.ensures
