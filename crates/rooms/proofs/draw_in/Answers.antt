-- Arrays of 0s are room enough, and the points of the order that is found fit the buffer.
use Rattle.rooms.proofs.RoomLaws as laws
use Rattle.rooms.proofs.draw_in.Goals as goal

pub find_in-crossings-requires-clause-room : goal.find_in-crossings-requires-clause-room
find_in-crossings-requires-clause-room g c =
    let r = laws.zeros-room g.row.POINTS (laws.few-blocks g.row.POINTS c.requires.sizes.0) c.requires.sketched in
    rw (c.requires.sizes.2, c.requires.sizes.3) r

pub store_u16-requires-clause-by_index : goal.store_u16-requires-clause-by_index
store_u16-requires-clause-by_index g c = laws.found-low c.requires.sketched c.requires.sizes.1 c.args.sketch.now.lower.now c.find_in-crossings.ensures

pub returns : goal.returns
returns g c = laws.found-drawn c.requires.sketched c.requires.sizes.1 c.args.sketch.now.lower.now c.find_in-crossings.ensures _ _ c.store_u16.ensures
