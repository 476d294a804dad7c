-- After each pass some order is in the lists still, and the better of it and the best so far is kept.
use native.Mathlib.Omega.{arith}
use Rattle.fewest.proofs.DraftLaws as laws
use Rattle.fewest.proofs.pass_both.Goals as goal

pub pass_down-requires : goal.pass_down-requires
pass_down-requires c = laws.passable-stands c.args.sides.now.prepared.ends_above c.requires

pub keep_better-kept-requires-clause-countable : goal.keep_better-kept-requires-clause-countable
keep_better-kept-requires-clause-countable c =
    let d = laws.passed c.args.sides.now.prepared.ends_above c.requires.laid c.pass_down.ensures.changed in
    laws.passable-countable c.args.sides.now.prepared
    (laws.still-passable {saved' = c.args.saved.now} c.requires d (omega arith) c.pass_down.ensures.work_kept.totals_kept c.pass_down.ensures.work_kept.moved_kept (omega arith))

pub pass_up-requires : goal.pass_up-requires
pass_up-requires c =
    let d = laws.passed c.args.sides.now.prepared.ends_above c.requires.laid c.pass_down.ensures.changed in
    laws.passable-stands c.args.sides.now.prepared.ends_below
    (laws.still-passable {saved' = c.args.saved.now} c.requires d (omega arith) (omega (arith, c.pass_down.ensures.work_kept.totals_kept)) (omega (arith, c.pass_down.ensures.work_kept.moved_kept)) (omega arith))

pub keep_better-requires-clause-countable : goal.keep_better-requires-clause-countable
keep_better-requires-clause-countable c =
    let d = laws.passed c.args.sides.now.prepared.ends_above c.requires.laid c.pass_down.ensures.changed in
    let u = laws.passed c.args.sides.now.prepared.ends_below (d.laid _ _ c.requires.laid) c.pass_up.ensures.changed in
    laws.passable-countable c.args.sides.now.prepared
    (laws.twice-passable {saved'' = c.args.saved.now} c.requires d u (omega arith) (omega (arith, c.pass_down.ensures.work_kept.totals_kept, c.pass_up.ensures.work_kept.totals_kept)) (omega (arith, c.pass_down.ensures.work_kept.moved_kept, c.pass_up.ensures.work_kept.moved_kept)) (omega arith))

pub returns-clause-bettered : goal.returns-clause-bettered
returns-clause-bettered c =
    let d = laws.passed c.args.sides.now.prepared.ends_above c.requires.laid c.pass_down.ensures.changed in
    let u = laws.passed c.args.sides.now.prepared.ends_below (d.laid _ _ c.requires.laid) c.pass_up.ensures.changed in
    laws.bettered-twice c.args.sides.now.prepared d (omega arith) c.keep_better-kept.ensures u (omega arith) c.keep_better.ensures
