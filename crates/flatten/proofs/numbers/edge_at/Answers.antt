-- Edge i takes the four numbers from 4 i on.
use native.Mathlib.Omega.{arith}
use Rattle.flatten.proofs.NumberLaws.{record-inside, record_is}
use Rattle.flatten.proofs.numbers.edge_at.Goals as goal

pub overflow_mul-at : goal.overflow_mul-at
overflow_mul-at c = omega (arith, record-inside c.args.numbers.now c.args.i c.requires, c.well_formed)

pub offset_bounds-numbers-at : goal.offset_bounds-numbers-at
offset_bounds-numbers-at c = omega (arith, record-inside c.args.numbers.now c.args.i c.requires, c.well_formed)

pub bounds-numbers-at : goal.bounds-numbers-at
bounds-numbers-at c = omega (arith, record-inside c.args.numbers.now c.args.i c.requires, c.well_formed)

pub overflow_add-result : goal.overflow_add-result
overflow_add-result c = omega (arith, record-inside c.args.numbers.now c.args.i c.requires, c.well_formed)

pub offset_bounds-numbers-at-2 : goal.offset_bounds-numbers-at-2
offset_bounds-numbers-at-2 c = omega (arith, record-inside c.args.numbers.now c.args.i c.requires, c.well_formed)

pub bounds-numbers-at-2 : goal.bounds-numbers-at-2
bounds-numbers-at-2 c = omega (arith, record-inside c.args.numbers.now c.args.i c.requires, c.well_formed)

pub overflow_add-result-2 : goal.overflow_add-result-2
overflow_add-result-2 c = omega (arith, record-inside c.args.numbers.now c.args.i c.requires, c.well_formed)

pub offset_bounds-numbers-at-3 : goal.offset_bounds-numbers-at-3
offset_bounds-numbers-at-3 c = omega (arith, record-inside c.args.numbers.now c.args.i c.requires, c.well_formed)

pub bounds-numbers-at-3 : goal.bounds-numbers-at-3
bounds-numbers-at-3 c = omega (arith, record-inside c.args.numbers.now c.args.i c.requires, c.well_formed)

pub overflow_add-result-3 : goal.overflow_add-result-3
overflow_add-result-3 c = omega (arith, record-inside c.args.numbers.now c.args.i c.requires, c.well_formed)

pub offset_bounds-numbers-at-4 : goal.offset_bounds-numbers-at-4
offset_bounds-numbers-at-4 c = omega (arith, record-inside c.args.numbers.now c.args.i c.requires, c.well_formed)

pub bounds-numbers-at-4 : goal.bounds-numbers-at-4
bounds-numbers-at-4 c = omega (arith, record-inside c.args.numbers.now c.args.i c.requires, c.well_formed)

pub returns : goal.returns
returns c = record_is _ _ c.requires
