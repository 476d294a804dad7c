use mathlib.Core.Path.{◌≡◌}
use lib.ListN.{length, drop}
use Rattle.relaxation.specs.Limits.{row_limit}
use Rattle.relaxation.specs.Relax.{Heights, headroom}
use Rattle.relaxation.proofs.relax.lift_rows.Given as goal

abbrev pub invariant-loop : goal.invariant-loop
invariant-loop l =
    (length l.y ≡ length l.initial.y) × Heights l.arcs.from.now l.arcs.to.now l.arcs.gap.now l.flow l.arcs.n l.y
    × (drop l.arcs.n l.y ≡ drop l.arcs.n l.initial.y)

abbrev pub decreases-loop : goal.decreases-loop
decreases-loop l = headroom row_limit l.y
