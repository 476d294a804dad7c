-- The row is put in order by the sums of this moment, and then its positions are stored.
use mathlib.Core.Path.{refl}
use native.Mathlib.Omega.{arith}
use Rattle.passes.proofs.SettleLaws as laws
use Rattle.passes.proofs.settle_row.Goals as goal

pub offset_bounds-order-a : goal.offset_bounds-order-a
offset_bounds-order-a c = omega (arith, laws.starts-rise c.requires.standing c.requires.r_bound, laws.ends-within c.requires.standing c.requires.r_bound)

pub slice_bounds-row-count : goal.slice_bounds-row-count
slice_bounds-row-count c = omega (arith, laws.starts-rise c.requires.standing c.requires.r_bound, laws.ends-within c.requires.standing c.requires.r_bound)

pub slice_bounds-row-start : goal.slice_bounds-row-start
slice_bounds-row-start c = omega (arith, laws.starts-rise c.requires.standing c.requires.r_bound, laws.ends-within c.requires.standing c.requires.r_bound)

pub slice_bounds-row-end : goal.slice_bounds-row-end
slice_bounds-row-end c = omega (arith, laws.starts-rise c.requires.standing c.requires.r_bound, laws.ends-within c.requires.standing c.requires.r_bound)

pub order_by_means-requires-clause-summable : goal.order_by_means-requires-clause-summable
order_by_means-requires-clause-summable c = laws.row-summable c.requires.standing c.requires.r_bound

pub order_by_means-requires-clause-counted : goal.order_by_means-requires-clause-counted
order_by_means-requires-clause-counted c = laws.row_counted c.requires.standing c.requires.r_bound

pub place_row-requires : goal.place_row-requires
place_row-requires c = laws.now-points c.requires.standing c.requires.r_bound c.order_by_means.ensures.totalled c.order_by_means.ensures.arranged

pub returns-clause-changed : goal.returns-clause-changed
returns-clause-changed c = laws.settle-changes c.requires.r_bound c.order_by_means.ensures.totalled c.order_by_means.ensures.arranged refl c.place_row.ensures
