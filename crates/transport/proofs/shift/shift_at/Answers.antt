use mathlib.Core.Path.{refl}
use Rattle.transport.specs.Shift.{shifted}
use Rattle.transport.proofs.ShiftLaws.{shift_fits}
use Rattle.transport.proofs.shift.shift_at.Goals as goal

pub overflow_add-xs : goal.overflow_add-xs
overflow_add-xs c =
    record {
      fits = shift_fits c.args.xs.now c.args.u c.args.w c.args.d c.requires.u_in_bounds c.requires.w_in_bounds c.requires.d_bound
          c.requires.xs_bound;
    }

pub returns : goal.returns
unfolding shifted
returns c = refl
