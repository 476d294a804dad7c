-- `Source::name_at` meets its contract: the loop has passed `counter` bytes of the name, and the whole is those and what is left from here.
use mathlib.Core.Path.{◌≡◌}
use Prim.Native.Nat.{◌-◌, ◌≤◌}
use Rattle.table.specs.Number.{many, counted}
use Rattle.table.specs.Table.{name_byte_at, name_at}
use Rattle.table.proofs.ManyLaws.{after}
use Rattle.table.proofs.source.Source.name_at.Given as goal

abbrev pub invariant-loop : goal.invariant-loop
invariant-loop l = (l.counter ≤ l.len) × (name_at l.self.bytes.now l.len l.at ≡ after l.counter (counted (many (name_byte_at l.self.bytes.now) (l.len - l.counter) l.next)))
