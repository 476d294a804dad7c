-- The numbers from the index on are still to be put.
use Rattle.std.proofs.Common.{map, drop}
use Rattle.labels.specs.Text.{decimal, blanked}
use Rattle.labels.proofs.PageLaws.{Putting}
use Rattle.labels.proofs.text.put_fields.Given as goal

abbrev pub invariant-loop-value : goal.invariant-loop-value
invariant-loop-value g l = Putting l.initial.page.items (blanked (map decimal l.values)) l.page.items (blanked (map decimal (drop l.value-index l.values)))
