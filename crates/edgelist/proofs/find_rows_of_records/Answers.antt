-- What is answered of the arrays is answered of the records.
use mathlib.Core.Path.{refl}
use Rattle.edgelist.proofs.find_rows_of_records.Goals as goal

pub returns : goal.returns
returns c =
    let answered = c.answer_lent.ensures.answered _ refl c.flatten_records.ensures in
    record { result_value = answered.0; rows_after = answered.1.0; records_best = answered.1.1 }
