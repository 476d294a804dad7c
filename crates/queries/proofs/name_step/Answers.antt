-- `name_step` meets its contract: a name that is found lies within the table, so the part does too.
use native.Mathlib.Omega.{arith}
use Rattle.queries.proofs.NameLaws.{answer-refused, answer-found, name-inside, part_bytes}
use borrow.Author.Rules.{rules}
use Rattle.queries.proofs.name_step.Goals as goal

pub overflow_add-end : goal.overflow_add-end
overflow_add-end c = omega (arith, name-inside _ _ (answer-found _ _ c.in-Ok.ensures), c.well_formed)

pub returns-in-Err : goal.returns-in-Err
returns-in-Err c = rw (answer-refused _ _ c.in-Err.ensures) (search rules)

pub returns-in-Ok : goal.returns-in-Ok
returns-in-Ok c = rw (answer-found _ _ c.in-Ok.ensures) (record { block = search rules; place = search rules; bytes = part_bytes _ _ c.args.bytes.now })

pub slice_bounds-result-end : goal.slice_bounds-result-end
slice_bounds-result-end c = omega (arith, name-inside _ _ (answer-found _ _ c.in-Ok.ensures))
