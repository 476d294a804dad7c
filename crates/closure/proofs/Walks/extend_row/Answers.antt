-- Three cases: the row marks b already, or u does not lead to a, or it is marked.
use mathlib.Core.Logic.{◌⊎◌}
use mathlib.Core.Path.{◌≡◌}
use Prim.Native.Nat.{◌+◌, ◌*◌, ◌≤◌}
use lib.ListN.{length}
use native.Mathlib.Omega.{arith}
use borrow.Author.Rules.{rules}
use Rattle.closure.specs.Closure.{Marked}
use Rattle.closure.proofs.CellLaws.{row_room}
use Rattle.closure.proofs.ClosureLaws.{extended-has, extended-away, extended-marked}
use Rattle.closure.proofs.MarkLaws.{overlaid}
use Rattle.closure.proofs.Walks.extend_row.Goals as goal

pub returns-then-self-base-clause-extended : goal.returns-then-self-base-clause-extended
returns-then-self-base-clause-extended c =
    rw (← c.requires.long) (extended-has (length c.args.fresh.now) _ _ _ _ _ (omega (arith, c.requires)) (omega (arith, c.requires)) cc)

pub returns-then-not-self-base-clause-extended : goal.returns-then-not-self-base-clause-extended
returns-then-not-self-base-clause-extended c =
    rw (← c.requires.long)
    (extended-away (length c.args.fresh.now) _ _ _ _ _ (omega (arith, c.requires)) (omega (arith, c.requires)) (search rules) cc)

pub returns-clause-extended : goal.returns-clause-extended
returns-clause-extended c =
    let n = length c.args.fresh.now in
    let comes : (c.args.u ≡ c.args.a) ⊎ Marked c.args.self.now.marks (c.args.u * n + c.args.a) = search rules in
    let room : c.args.u * n + n ≤ length c.args.self.now.marks = rw c.requires.long (row_room _ _ c.requires.ends.2 _ c.args.self.now.room) in
    rw (← c.requires.long)
    (extended-marked n _ _ _ _ _ (omega (arith, c.requires)) (omega (arith, c.requires)) _ comes (overlaid _ n _ _ _ _ room (omega arith) c.mark_row.ensures))
