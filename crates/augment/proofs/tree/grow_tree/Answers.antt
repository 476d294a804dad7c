use Rattle.std.proofs.Common.{rules}
use Rattle.augment.proofs.GrowLaws as laws
use Rattle.augment.proofs.tree.grow_tree.Goals as goal

pub loop-t-init : goal.loop-t-init
loop-t-init c =
    let f = c.requires.flows in (
      laws.growing-start _ _ _ _ _ _ _ _ _ _ c.args.arcs.now.shaped f.1.0 c.requires.narrow _ f.1.1
          c.requires.s_lt_n c.requires.s_nonzero _ _ _
          c.requires.rows_low c.requires.lengths c.requires.amount_nonzero c.requires.planted,
      search rules,
      search rules,
    )

pub raise_marked-requires-clause-by_index : goal.raise_marked-requires-clause-by_index
raise_marked-requires-clause-by_index c =
    let f = c.requires.flows in
    laws.raise-fits _ _ _ _ _ _ _ _ _ _ c.args.arcs.now.shaped f.1.0 c.requires.narrow _ f.1.1 c.requires.s_lt_n c.requires.s_nonzero
    _ _ _ _ _ _ c.loop-t.invariant.0 c.loop-t-test.true _ _ c.next_exit-search.ensures c.next_exit-search.ensures.fits

pub mark_end-t-requires : goal.mark_end-t-requires
mark_end-t-requires c =
    let f = c.requires.flows in
    laws.mark-fits _ _ _ _ _ _ _ _ _ _ c.args.arcs.now.shaped f.1.0 c.requires.narrow _ f.1.1 c.requires.s_lt_n c.requires.s_nonzero
    _ _ _ _ _ _ c.loop-t.invariant.0 c.loop-t-test.true _ _ c.next_exit-search.ensures c.next_exit-search.ensures.fits

pub loop-t-smaller : goal.loop-t-smaller
loop-t-smaller c =
    let f = c.requires.flows in
    laws.growing-less _ _ _ _ _ _ _ _ _ _ c.args.arcs.now.shaped f.1.0 c.requires.narrow _ f.1.1 c.requires.s_lt_n c.requires.s_nonzero
    _ _ _ _ _ _ c.loop-t.invariant.0 c.loop-t-test.true _ _ c.next_exit-search.ensures c.next_exit-search.ensures.fits _
    c.raise_marked.ensures _ _ _ _ c.mark_end-t.ensures.marks

pub loop-t-preserved : goal.loop-t-preserved
loop-t-preserved c =
    let f = c.requires.flows in (
      laws.growing-turn _ _ _ _ _ _ _ _ _ _ c.args.arcs.now.shaped f.1.0 c.requires.narrow _ f.1.1 c.requires.s_lt_n c.requires.s_nonzero
          _ _ _ _ _ _ c.loop-t.invariant.0 c.loop-t-test.true _ _ c.next_exit-search.ensures c.next_exit-search.ensures.fits _
          c.raise_marked.ensures _ _ _ _ c.mark_end-t.ensures.marks,
      search rules,
      search rules,
    )
