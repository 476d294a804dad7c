-- The page has the shortest table, which is handed out.
use Rattle.std.proofs.Common.{rules, ◌∙◌, ap}
use Rattle.outcome.specs.Refusal.{bare}
use Rattle.outcome.proofs.ToldLaws.{told-refused, told-done}
use Rattle.writing.specs.Calls.{shortened_by, WriteEnd}
use Rattle.writing.proofs.CallLaws.{call-refused, call-fitted, page-is}
use Rattle.writing.proofs.write_table_by.Goals as goal

pub returns-in_err-write_page-clause-result_value : goal.returns-in_err-write_page-clause-result_value
returns-in_err-write_page-clause-result_value c =
    let e = (call-refused c.args.rule c.args.bytes.now c.args.out.now (told-refused bare (shortened_by c.args.rule c.args.bytes.now) c.in_err-write_page.ensures.result_value)).0 in
    search (rules, e)

pub returns-in_err-write_page-clause-out_after : goal.returns-in_err-write_page-clause-out_after
returns-in_err-write_page-clause-out_after c =
    (call-refused c.args.rule c.args.bytes.now c.args.out.now (told-refused bare (shortened_by c.args.rule c.args.bytes.now) c.in_err-write_page.ensures.result_value)).1

pub returns-clause-result_value : goal.returns-clause-result_value
returns-clause-result_value c =
    let h = told-done bare (shortened_by c.args.rule c.args.bytes.now) c.in_ok-write_page.ensures.result_value in
    let on = c.deref.ensures.0 ∙ page-is c.new-page.ensures h.outcome c.in_ok-write_page.ensures.page_after in
    c.fit_text.ensures.result_value ∙ ap (λ (x : WriteEnd). x.numbers) (call-fitted c.args.rule c.args.bytes.now c.args.out.now h.outcome on)

pub returns-clause-out_after : goal.returns-clause-out_after
returns-clause-out_after c =
    let h = told-done bare (shortened_by c.args.rule c.args.bytes.now) c.in_ok-write_page.ensures.result_value in
    let on = c.deref.ensures.0 ∙ page-is c.new-page.ensures h.outcome c.in_ok-write_page.ensures.page_after in
    c.fit_text.ensures.out_after ∙ ap (λ (x : WriteEnd). x.out) (call-fitted c.args.rule c.args.bytes.now c.args.out.now h.outcome on)
