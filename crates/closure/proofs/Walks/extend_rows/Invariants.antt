-- The first u rows are extended, and the others are as they were.
use mathlib.Core.Path.{◌≡◌}
use Rattle.closure.specs.Closure.{Extended}
use Rattle.closure.proofs.Walks.extend_rows.Given as goal

abbrev pub invariant-loop-u : goal.invariant-loop-u
invariant-loop-u l = (l.self.n ≡ l.initial.self.n) × Extended l.initial.self.n l.a l.b l.u l.fresh l.initial.self.marks l.self.marks
