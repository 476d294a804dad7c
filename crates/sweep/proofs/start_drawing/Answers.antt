-- The start order in its lists, with its positions and its crossings, is the best so far.
use native.Mathlib.Omega.{arith}
use Rattle.fewest.proofs.DraftLaws.{scratch-same}
use Rattle.sweep.proofs.StartedLaws as laws
use Rattle.sweep.proofs.start_drawing.Goals as goal

pub place_all-requires : goal.place_all-requires
place_all-requires c = laws.started-placeable c.requires.roomy c.start_order.ensures.order_after c.start_order.ensures.first_after

pub count_crossings-requires : goal.count_crossings-requires
count_crossings-requires c =
    rw c.requires.far (laws.started-countable c.requires.roomy c.start_order.ensures.order_after c.start_order.ensures.first_after c.args.sketch.now.segmented c.requires.linked c.requires.row_in_bounds c.place_all.ensures (scratch-same c.requires.scratch (omega arith) (omega arith)))

pub returns-clause-improving : goal.returns-clause-improving
returns-clause-improving c =
    let q = rw c.requires.far at c.count_crossings.ensures in
    laws.started-improving c.requires.roomy c.start_order.ensures.order_after c.start_order.ensures.first_after c.args.sketch.now.segmented c.requires.linked c.requires.row_in_bounds c.place_all.ensures c.copy_all.ensures q
