use mathlib.Core.Path.{ap, sym, ◌∙◌}
use mathlib.Core.List.{List, ◌++◌}
use Prim.Native.Nat.{ℕ}
use lib.ListN.{drop, length}
use lib.Seq.{length-take-le}
use Rattle.relaxation.proofs.RelaxLaws as laws
use Rattle.relaxation.proofs.relax.relax_above.Goals as goal

pub lift_rows-requires-clause-heights : goal.lift_rows-requires-clause-heights
lift_rows-requires-clause-heights c =
    laws.heights-copied _ _ _ _ _ _ _ _ c.requires.n_in_bounds_2 (ap (λ (l : List ℕ). l ++ drop c.args.arcs.now.n c.args.y.now) c.copy_all.ensures)
    c.requires.heights

pub returns : goal.returns
returns c =
    let long = ap length c.copy_all.ensures ∙ length-take-le _ _ c.requires.n_in_bounds_2 ∙ sym (length-take-le _ _ c.requires.n_in_bounds) in
    laws.relaxed-front _ _ _ c.requires.n_in_bounds _ _ _ _ _ long c.lift_rows.ensures
