-- What was found is handed out, whatever edges the lists were made of.
use mathlib.Core.Path.{refl}
use Rattle.std.proofs.lemmas.Result.{err_from_is_err_and}
use Rattle.rows.proofs.StoreLaws.{handed-refused}
use Rattle.edgelist.proofs.LentLaws.{lent-answered}
use Rattle.edgelist.proofs.lent.answer_lent.Goals as goal

pub returns-in_err-found : goal.returns-in_err-found
returns-in_err-found c =
    let p = err_from_is_err_and c.from_residual.result c.from_residual.ensures.1 in
    rw (p.1, p.2) (lent-answered c.in_err-found.ensures (handed-refused _ _ refl))

pub returns : goal.returns
returns c = lent-answered c.in_ok-found.ensures c.hand_out.ensures
