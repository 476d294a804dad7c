-- `lists::many` meets its contract: `counter` items stand in the list, and the whole is those and what is left from here.
use Rattle.std.proofs.Common.{◌≡◌, ℕ, ◌-◌, ◌≤◌, ◌<◌, ◌^◌, length}
use Rattle.table.specs.Number.{Read, many}
use Rattle.table.proofs.ManyLaws.{before}
use Rattle.reading.specs.Lists.{Reads}
use Rattle.reading.proofs.lists.many.Given as goal

abbrev pub invariant-loop : goal.invariant-loop
invariant-loop g l =
    (l.counter ≤ l.count) × (length l.list.items ≡ l.counter) × (l.next < 2 ^ 64)
    × ((read : ℕ → Read _) → Reads (goal.F-post g l.item) read
    → many read l.count l.at ≡ before l.list.items (many read (l.count - l.counter) l.next))
