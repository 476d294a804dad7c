use mathlib.Core.Path.{sym, ◌∙◌}
use native.Mathlib.Omega.{arith}
use Rattle.std.proofs.lemmas.Slice.Eq.{slice_eq-Decides}
use Rattle.std.proofs.lemmas.Bool.Decides.{Decides-eqb}
use Rattle.passes.proofs.KeptLaws.{work-again}
use Rattle.fewest.proofs.TurnLaws as laws
use Rattle.fewest.proofs.improve_drawing.Goals as goal

pub returns-then-eq-clause-held : goal.returns-then-eq-clause-held
returns-then-eq-clause-held c =
    let e = (slice_eq-Decides Decides-eqb _ _ _ c.eq.ensures).0 c.if-eq.true in
    laws.turning-still c.loop-test.true c.loop.invariant.0 c.pass_both-fewest.ensures.bettered (sym e ∙ c.copy_all.ensures)

pub loop-preserved : goal.loop-preserved
loop-preserved c = (
  laws.turning-more c.loop-test.true c.loop.invariant.0 c.pass_both-fewest.ensures.bettered,
  omega (arith, c.loop.invariant.1),
  omega (arith, c.loop.invariant.2),
  omega (arith, c.loop.invariant.3),
  work-again c.loop.invariant.4 c.pass_both-fewest.ensures.work_kept,
  omega (arith, c.loop.invariant.5),
)

pub returns-clause-held : goal.returns-clause-held
returns-clause-held c = laws.turning-end c.loop-test.false c.loop.invariant.0
