-- What a pass leaves of the room for its work.
use Rattle.std.specs.Prelude.{◌≡◌, length}
use Rattle.passes.specs.declared.Work.{Work}

-- The same slices are lent still, and each is as long as it was.
pub record WorkKept (old new : Work) : Type 0 where
  pub totals_lent : new.totals.ghost_name ≡ old.totals.ghost_name
  pub moved_lent : new.moved.ghost_name ≡ old.moved.ghost_name
  pub totals_kept : length new.totals.now ≡ length old.totals.now
  pub moved_kept : length new.moved.now ≡ length old.moved.now
