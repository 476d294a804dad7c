-- Room for all of it is room for each part of the work.
use Rattle.rooms.proofs.RoomLaws as laws
use Rattle.rooms.proofs.find_in.Goals as goal

pub find_fewest-requires-clause-room_above : goal.find_fewest-requires-clause-room_above
find_fewest-requires-clause-room_above g c = let a = c.args.sketch.now in laws.room-above a.row.now a.upper.now c.requires.room a.segmented.both

pub find_fewest-requires-clause-room_below : goal.find_fewest-requires-clause-room_below
find_fewest-requires-clause-room_below g c = let a = c.args.sketch.now in laws.room-below a.row.now a.upper.now c.requires.room

pub find_fewest-requires-clause-roomy : goal.find_fewest-requires-clause-roomy
find_fewest-requires-clause-roomy g c = let a = c.args.sketch.now in laws.room-start a.row.now a.upper.now c.requires.room c.requires.rows_in

pub find_fewest-requires-clause-scratch : goal.find_fewest-requires-clause-scratch
find_fewest-requires-clause-scratch g c = let a = c.args.sketch.now in laws.room-scratch a.row.now a.upper.now c.requires.room

pub find_fewest-requires-clause-first_in_bounds : goal.find_fewest-requires-clause-first_in_bounds
find_fewest-requires-clause-first_in_bounds g c = let a = c.args.sketch.now in laws.room-rows a.row.now a.upper.now c.requires.room

pub returns : goal.returns
returns g c = let a = c.args.sketch.now in laws.room-held a.row.now a.upper.now c.requires.room a.lower.now _ _ c.find_fewest.ensures.held
