-- After so many pairs of passes the others are left; when none is, or a pair moved nothing, the best so far is the drawing.
use mathlib.Core.Path.{◌≡◌}
use lib.ListN.{length}
use Rattle.passes.specs.Kept.{WorkKept}
use Rattle.fewest.proofs.TurnLaws.{Turning}
use Rattle.fewest.proofs.improve_drawing.Given as goal

abbrev pub invariant-loop : goal.invariant-loop
invariant-loop l =
    Turning l.sides.row.now l.sides.above.far.now l.sides.below.far.now l.first l.counter l.order l.pos l.saved l.fewest
    × (length l.order ≡ length l.initial.order) × (length l.before ≡ length l.initial.before) × (length l.pos ≡ length l.initial.pos)
    × WorkKept l.initial.work l.work × (length l.saved ≡ length l.initial.saved)
