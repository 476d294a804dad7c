-- What is on the page is handed out.
use Rattle.std.proofs.Common.{◌++◌, ◌∙◌, ap}
use Rattle.writing.specs.Calls.{WriteEnd}
use Rattle.converting.specs.Calls.{converted}
use Rattle.converting.proofs.CallLaws.{call-fitted}
use Rattle.converting.proofs.convert_table.Goals as goal

pub returns-clause-result_value : goal.returns-clause-result_value
returns-clause-result_value c =
    let on = c.deref.ensures.0 ∙ c.convert_page.ensures ∙ ap (λ l. l ++ converted c.args.bytes.now) c.new-page.ensures in
    c.fit_text.ensures.result_value ∙ ap (λ (x : WriteEnd). x.numbers) (call-fitted c.args.bytes.now c.args.out.now on)

pub returns-clause-out_after : goal.returns-clause-out_after
returns-clause-out_after c =
    let on = c.deref.ensures.0 ∙ c.convert_page.ensures ∙ ap (λ l. l ++ converted c.args.bytes.now) c.new-page.ensures in
    c.fit_text.ensures.out_after ∙ ap (λ (x : WriteEnd). x.out) (call-fitted c.args.bytes.now c.args.out.now on)
