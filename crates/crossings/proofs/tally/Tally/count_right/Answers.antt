-- Nothing where no position counted in is right of l, else the rest of the block and the blocks after it, added up.
use mathlib.Core.Path.{sym}
use native.Mathlib.Omega.{arith}
use Rattle.crossings.proofs.BehindLaws as laws
use Rattle.crossings.proofs.tally.Tally.count_right.Goals as goal

pub returns-then-self-l : goal.returns-then-self-l
returns-then-self-l c = sym (laws.right-behind c.args.self.now.none_behind c.if-self-l.true)

pub sum_of-near-requires : goal.sum_of-near-requires
sum_of-near-requires c = let s = c.args.self.now in omega (arith, laws.parts-most s.none_behind c.if-self-l.false s.blocked c.min-end.ensures, s.few)

pub sum_of-far-requires : goal.sum_of-far-requires
sum_of-far-requires c = let s = c.args.self.now in omega (arith, laws.parts-most s.none_behind c.if-self-l.false s.blocked c.min-end.ensures, s.few)

pub overflow_add-result : goal.overflow_add-result
overflow_add-result c = let s = c.args.self.now in
    omega (arith, laws.parts-most s.none_behind c.if-self-l.false s.blocked c.min-end.ensures, c.sum_of-near.ensures, c.sum_of-far.ensures, s.few)

pub returns : goal.returns
returns c = let s = c.args.self.now in
    omega (arith, laws.near-far s.none_behind c.if-self-l.false s.blocked c.min-end.ensures, c.sum_of-near.ensures, c.sum_of-far.ensures)
