-- A buffer that is long enough gets the listing at its front.
use Rattle.std.proofs.Common.{◌≡◌, ◌++◌, ◌∙◌, ap, drop}
use Rattle.listing.specs.Listing.{listing}
use Rattle.listing.proofs.CallLaws.{call-short, call-written}
use Rattle.listing.proofs.write_listing.Goals as goal

pub returns-then-out-len-clause-result_value : goal.returns-then-out-len-clause-result_value
returns-then-out-len-clause-result_value c =
    let is : c.print_page.new.page.items ≡ listing c.args.bytes.now = c.print_page.ensures ∙ ap (λ l. l ++ listing c.args.bytes.now) c.new-page.ensures in
    (call-short c.args.bytes.now c.args.out.now is c.len-len.ensures.value c.if-out-len.true).0

pub returns-then-out-len-clause-out_after : goal.returns-then-out-len-clause-out_after
returns-then-out-len-clause-out_after c =
    let is : c.print_page.new.page.items ≡ listing c.args.bytes.now = c.print_page.ensures ∙ ap (λ l. l ++ listing c.args.bytes.now) c.new-page.ensures in
    (call-short c.args.bytes.now c.args.out.now is c.len-len.ensures.value c.if-out-len.true).1

pub returns-clause-result_value : goal.returns-clause-result_value
returns-clause-result_value c =
    let is : c.print_page.new.page.items ≡ listing c.args.bytes.now = c.print_page.ensures ∙ ap (λ l. l ++ listing c.args.bytes.now) c.new-page.ensures in
    (call-written c.args.bytes.now c.args.out.now is c.len-len.ensures.value c.if-out-len.false (ap (λ l. l ++ drop c.len-len.result c.args.out.now) (c.copy_from_slice.ensures.after ∙ c.deref.ensures.0))).0

pub returns-clause-out_after : goal.returns-clause-out_after
returns-clause-out_after c =
    let is : c.print_page.new.page.items ≡ listing c.args.bytes.now = c.print_page.ensures ∙ ap (λ l. l ++ listing c.args.bytes.now) c.new-page.ensures in
    (call-written c.args.bytes.now c.args.out.now is c.len-len.ensures.value c.if-out-len.false (ap (λ l. l ++ drop c.len-len.result c.args.out.now) (c.copy_from_slice.ensures.after ∙ c.deref.ensures.0))).1
