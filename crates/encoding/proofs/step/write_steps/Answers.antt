use Rattle.std.proofs.Common.{rules, arith, List, ℕ}
use Rattle.table.specs.declared.types.Step.{Step}
use Rattle.table.specs.Calls.{no_step}
use Rattle.labels.proofs.PageLaws.{putting-room, putting-part, putting-end, parts-room, parts-put}
use Rattle.encoding.specs.Said.{said_step}
use Rattle.encoding.specs.Shortest.{short_step}
use Rattle.encoding.proofs.PutLaws.{said-parts, next-item, last-item}
use Rattle.encoding.proofs.step.write_steps.Goals as goal

-- a step of a table of these bytes as it is written
abbrev written_in : List ℕ → Step → List ℕ
written_in bytes s = short_step (said_step bytes s)

pub write_step-requires : goal.write_step-requires
write_step-requires g c =
    let behind = parts-room c.args.page.now.items (said-parts c.args.bytes.now c.args.steps.now) c.write_number.ensures in
    let room = putting-room c.loop-step.invariant (next-item (written_in c.args.bytes.now) c.args.steps.now no_step c.loop-step.step-index c.loop-step-test.true) in
    (search rules, (c.requires.writable_steps.each_step c.loop-step.step-index c.loop-step-test.true, omega arith))

pub loop-step-preserved : goal.loop-step-preserved
loop-step-preserved g c =
    putting-part c.loop-step.invariant (next-item (written_in c.args.bytes.now) c.args.steps.now no_step c.loop-step.step-index c.loop-step-test.true) c.write_step.ensures

pub returns : goal.returns
returns g c =
    parts-put c.args.page.now.items (said-parts c.args.bytes.now c.args.steps.now) c.write_number.ensures
    (putting-end c.loop-step.invariant (last-item (written_in c.args.bytes.now) c.args.steps.now c.loop-step.step-index c.loop-step-test.false))
