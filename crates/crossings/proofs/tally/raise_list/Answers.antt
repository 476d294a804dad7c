use mathlib.Core.Path.{refl}
use Prim.Native.Nat.{◌-◌, ◌+◌, ◌/◌, ◌≤◌, ◌<◌}
use native.Mathlib.Omega.{arith}
use lib.ListN.{length}
use Rattle.graph.specs.Rows.{at}
use Rattle.crossings.specs.Tally.{all_counted, block_size}
use Rattle.crossings.specs.Between.{low_of}
use Rattle.crossings.specs.Placing.{segment_limit}
use Rattle.crossings.proofs.CountListLaws.{few-list}
use Rattle.crossings.proofs.TallyLaws.{block_in, entry-most, block-most}
use Rattle.crossings.proofs.RaiseLaws as laws
use Rattle.crossings.proofs.tally.raise_list.Goals as goal

pub offset_bounds-counts-l : goal.offset_bounds-counts-l
offset_bounds-counts-l c = omega (arith, (laws.raising-low c.args.ends.now.placed c.requires.h_in_bounds c.loop-x.invariant c.loop-x-test.true))

pub bounds-counts-l : goal.bounds-counts-l
bounds-counts-l c = (laws.raising-low c.args.ends.now.placed c.requires.h_in_bounds c.loop-x.invariant c.loop-x-test.true)

pub overflow_add-counts : goal.overflow_add-counts
overflow_add-counts c = omega (arith, (let h-entry : let a = c.args.ends.now in at c.loop-x.counts (low_of a.lower.now a.pos.now (c.loop-x.x - 1)) ≤ all_counted c.loop-x.counts = entry-most c.loop-x.counts _ in h-entry), (let h-small : all_counted c.loop-x.counts < segment_limit + segment_limit = omega (arith, c.loop-x.invariant.small, c.requires.counts_bound, few-list c.args.ends.now.placed c.requires.h_in_bounds) in h-small))

pub bounds-counts-l-in-loop-x : goal.bounds-counts-l-in-loop-x
bounds-counts-l-in-loop-x c = (laws.raising-low c.args.ends.now.placed c.requires.h_in_bounds c.loop-x.invariant c.loop-x-test.true)

pub bounds-blocks-b : goal.bounds-blocks-b
bounds-blocks-b c = block_in c.loop-x.invariant.held _ (laws.raising-low c.args.ends.now.placed c.requires.h_in_bounds c.loop-x.invariant c.loop-x-test.true)

pub overflow_add-blocks : goal.overflow_add-blocks
overflow_add-blocks c = omega (arith, block-most c.loop-x.invariant.held _ (let h-block : let a = c.args.ends.now in low_of a.lower.now a.pos.now (c.loop-x.x - 1) / block_size < length c.loop-x.blocks = block_in c.loop-x.invariant.held _ (laws.raising-low c.args.ends.now.placed c.requires.h_in_bounds c.loop-x.invariant c.loop-x-test.true) in h-block), (let h-small : all_counted c.loop-x.counts < segment_limit + segment_limit = omega (arith, c.loop-x.invariant.small, c.requires.counts_bound, few-list c.args.ends.now.placed c.requires.h_in_bounds) in h-small))

pub bounds-blocks-b-in-loop-x : goal.bounds-blocks-b-in-loop-x
bounds-blocks-b-in-loop-x c = block_in c.loop-x.invariant.held _ (laws.raising-low c.args.ends.now.placed c.requires.h_in_bounds c.loop-x.invariant c.loop-x-test.true)

pub loop-x-preserved : goal.loop-x-preserved
loop-x-preserved c = laws.raising-more c.args.ends.now.placed c.requires.h_in_bounds c.loop-x.invariant c.loop-x-test.true refl c.max-furthest.ensures

pub returns-clause-counts_after : goal.returns-clause-counts_after
returns-clause-counts_after c = laws.raising-end c.args.ends.now.placed c.requires.h_in_bounds c.loop-x.invariant c.loop-x-test.false
