-- A table that was made is on the page, and else the line of the refusal is put there.
use Rattle.std.proofs.Common.{arith, rules}
use Rattle.table.specs.declared.rule.Rule.TheVariants.{Old}
use Rattle.converting.proofs.CallLaws.{page-table, line-room, page-line}
use Rattle.converting.proofs.convert_page.Goals as goal

pub put_refusal-requires : goal.put_refusal-requires
put_refusal-requires g c =
    let room = line-room Old c.args.bytes.now c.in-Err.f c.in-Err.ensures.result_value c.args.page.now.items c.in-Err.ensures.page_after in
    (search rules, omega (arith, room))

pub returns-in-Ok : goal.returns-in-Ok
returns-in-Ok g c = page-table c.args.bytes.now c.args.page.now.items c.in-Ok.ensures.result_value c.in-Ok.ensures.page_after

pub returns-in-Err : goal.returns-in-Err
returns-in-Err g c = page-line c.args.bytes.now c.in-Err.f c.in-Err.ensures.result_value c.args.page.now.items c.in-Err.ensures.page_after c.put_refusal.ensures
