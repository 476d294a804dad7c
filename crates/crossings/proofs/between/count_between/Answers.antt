use native.Mathlib.Omega.{arith}
use lib.ListN.{length}
use Rattle.crossings.proofs.SweepLaws as laws
use Rattle.crossings.proofs.between.count_between.Goals as goal

pub loop-p-init : goal.loop-p-init
loop-p-init c = (
  omega arith,
  laws.sweeping-start _ _ _ _ _ (length c.args.counts.now) (length c.args.blocks.now) c.requires.all_below c.requires.counts_len_bound
      (c.fill.ensures.after (λ y h. h)) (c.fill-2.ensures.after (λ y h. h)),
)

pub overflow_add-sum : goal.overflow_add-sum
overflow_add-sum c = omega (arith, laws.sweeping-room c.loop-p.invariant.1 c.loop-p-test.true c.requires.points_bound c.count_list-sum.ensures)

pub loop-p-preserved : goal.loop-p-preserved
loop-p-preserved c = (
  omega (arith, c.loop-p.invariant.0),
  laws.sweeping-more c.loop-p.invariant.1 c.loop-p-test.true c.count_list-sum.ensures c.raise_list-last.ensures.counts_after c.raise_list-last.ensures.blocked_2 c.raise_list-last.ensures.none_behind_2,
)

pub returns : goal.returns
returns c = laws.sweeping-end c.loop-p.invariant.1 c.loop-p-test.false

pub raise_list-last-requires-clause-below : goal.raise_list-last-requires-clause-below
raise_list-last-requires-clause-below c = laws.sweeping-low c.loop-p.invariant.1 c.loop-p-test.true
