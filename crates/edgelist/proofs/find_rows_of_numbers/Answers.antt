-- What is answered of the arrays is answered of the edges that the numbers write down.
use mathlib.Core.Path.{sym}
use Rattle.flatten.proofs.NumberLaws.{records-length}
use Rattle.edgelist.proofs.find_rows_of_numbers.Goals as goal

pub returns : goal.returns
returns c =
    let answered = c.answer_lent.ensures.answered _ (sym (records-length c.args.numbers.now)) c.flatten_numbers.ensures in
    record { result_value = answered.0; rows_after = answered.1.0; records_best = answered.1.1 }
