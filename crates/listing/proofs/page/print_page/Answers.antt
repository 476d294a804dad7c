-- The line of a refusal is the listing of its table.
use Rattle.std.proofs.Common.{arith, rules, ◌++◌, ◌∙◌, ap, sym}
use Rattle.ordering.proofs.OpenedLaws.{found-refused}
use Rattle.listing.proofs.CallLaws.{refusal_is, refusal-fits}
use Rattle.listing.proofs.page.print_page.Goals as goal

pub put_refusal-requires : goal.put_refusal-requires
put_refusal-requires g c =
    let fits = refusal-fits c.args.bytes.now (found-refused c.args.bytes.now c.in-Err.ensures.table_found) in
    (search rules, omega (arith, fits))

pub returns-in-Err : goal.returns-in-Err
returns-in-Err g c =
    c.put_refusal.ensures ∙ ap (λ l. c.args.page.now.items ++ l) (sym (refusal_is c.args.bytes.now (found-refused c.args.bytes.now c.in-Err.ensures.table_found)))
