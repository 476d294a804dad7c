-- What is sought is at `left` of the strokes of the lines from here on.
use Rattle.routes.proofs.FindLaws.{Seeking}
use Rattle.routes.proofs.find_visit.Given as goal

abbrev pub invariant-loop-line : goal.invariant-loop-line
invariant-loop-line l = Seeking l.rows l.turned l.lines l.index l.line-index l.dummy l.left
