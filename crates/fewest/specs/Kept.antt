-- What an order on its way is still lent when a search ends.
use Rattle.std.specs.Prelude.{◌≡◌, length}
use Rattle.fewest.specs.declared.lent.Draft.{Draft}

-- The same slices are lent still, and each is as long as it was.
pub record DraftKept (old new : Draft) : Type 0 where
  pub first_lent : new.first.ghost_name ≡ old.first.ghost_name
  pub order_lent : new.order.ghost_name ≡ old.order.ghost_name
  pub before_lent : new.before.ghost_name ≡ old.before.ghost_name
  pub pos_lent : new.pos.ghost_name ≡ old.pos.ghost_name
  pub first_kept : length new.first.now ≡ length old.first.now
  pub order_kept : length new.order.now ≡ length old.order.now
  pub before_kept : length new.before.now ≡ length old.before.now
  pub pos_kept : length new.pos.now ≡ length old.pos.now
