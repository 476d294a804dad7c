-- What a search leaves of the room for the segments on one side of the points.
use Rattle.std.specs.Prelude.{◌≡◌, length}
use Rattle.sweep.specs.declared.SideRoom.{SideRoom}

-- The same slices are lent still, and each is as long as it was.
pub record RoomKept (old new : SideRoom) : Type 0 where
  pub head_lent : new.head.ghost_name ≡ old.head.ghost_name
  pub next_lent : new.next.ghost_name ≡ old.next.ghost_name
  pub counts_lent : new.counts.ghost_name ≡ old.counts.ghost_name
  pub head_kept : length new.head.now ≡ length old.head.now
  pub next_kept : length new.next.now ≡ length old.next.now
  pub counts_kept : length new.counts.now ≡ length old.counts.now
