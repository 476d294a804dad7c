-- The steps from the index on are still to be put.
use Rattle.std.proofs.Common.{drop}
use Rattle.table.specs.declared.types.Step.{Step}
use Rattle.labels.proofs.PageLaws.{Putting}
use Rattle.encoding.specs.Said.{said_step}
use Rattle.encoding.specs.Shortest.{short_step, each}
use Rattle.encoding.proofs.step.write_steps.Given as goal

abbrev pub invariant-loop-step : goal.invariant-loop-step
invariant-loop-step g l =
    let write = λ (s : Step). short_step (said_step l.bytes s) in
    Putting l.initial.page.items (each write l.steps) l.page.items (each write (drop l.step-index l.steps))
