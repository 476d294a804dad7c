-- What was read is put on the page, and a refusal is the reader's.
use Rattle.std.proofs.Common.{arith, rules, ap}
use Rattle.outcome.specs.Refusal.{told, bare}
use Rattle.table.proofs.FairLaws.{read-fair-by}
use Rattle.table.proofs.AnswerLaws.{read-refused-by, read-accepted-by}
use Rattle.writing.proofs.CallLaws.{made-of, made-none}
use Rattle.writing.proofs.write_page.Goals as goal

pub returns-in_err-table-clause-result_value : goal.returns-in_err-table-clause-result_value
returns-in_err-table-clause-result_value g c =
    let e = ap (told bare) (made-none c.args.rule c.args.bytes.now (read-refused-by c.args.rule c.args.bytes.now c.in_err-table.ensures)) in search (rules, e)

pub returns-in_err-table-clause-page_after : goal.returns-in_err-table-clause-page_after
returns-in_err-table-clause-page_after g c =
    let e = made-none c.args.rule c.args.bytes.now (read-refused-by c.args.rule c.args.bytes.now c.in_err-table.ensures) in rw e (search rules)

pub put_table-requires : goal.put_table-requires
put_table-requires g c = (search rules, (read-fair-by c.args.rule c.args.bytes.now (read-accepted-by c.args.rule c.args.bytes.now c.in_ok-table.ensures), omega arith))

pub returns-clause-result_value : goal.returns-clause-result_value
returns-clause-result_value g c =
    let e = made-of c.args.rule c.args.bytes.now (read-accepted-by c.args.rule c.args.bytes.now c.in_ok-table.ensures) in rw e

pub returns-clause-page_after : goal.returns-clause-page_after
returns-clause-page_after g c =
    let e = made-of c.args.rule c.args.bytes.now (read-accepted-by c.args.rule c.args.bytes.now c.in_ok-table.ensures) in rw e c.put_table.ensures
