-- The outcome by cases: too many steps, too many edges, the first fault, or the rows of the edges.
use Rattle.std.proofs.lemmas.Result.{err_from_is_err_and}
use Rattle.edgelist.proofs.LentLaws.{lent-many-steps, lent-many-edges, lent-fault, lent-fair, lent_placed}
use Rattle.edgelist.proofs.lent.place_lent.Goals as goal

pub returns-then-n-gt-MAX_STEPS : goal.returns-then-n-gt-MAX_STEPS
returns-then-n-gt-MAX_STEPS c = lent-many-steps _ _ c.args.flat.now c.if-n-gt-MAX_STEPS.true

pub returns-then-m-gt-MAX_EDGES : goal.returns-then-m-gt-MAX_EDGES
returns-then-m-gt-MAX_EDGES c = lent-many-edges _ _ c.args.flat.now c.if-n-gt-MAX_STEPS.false c.if-m-gt-MAX_EDGES.true

pub returns-in_err-judge_edges : goal.returns-in_err-judge_edges
returns-in_err-judge_edges c =
    let p = err_from_is_err_and c.from_residual.result c.from_residual.ensures.1 in
    rw (p.1, p.2) (lent-fault _ _ c.args.flat.now c.if-n-gt-MAX_STEPS.false c.if-m-gt-MAX_EDGES.false c.judge_edges.ensures.few c.in_err-judge_edges.ensures.judged)

pub place_edges-requires : goal.place_edges-requires
place_edges-requires c =
    lent-fair _ _ c.args.flat.now c.if-n-gt-MAX_STEPS.false c.if-m-gt-MAX_EDGES.false c.judge_edges.ensures.few c.in_ok-judge_edges.ensures.judged

pub returns : goal.returns
returns c =
    lent_placed _ _ c.args.flat.now c.if-n-gt-MAX_STEPS.false c.if-m-gt-MAX_EDGES.false c.judge_edges.ensures.few c.in_ok-judge_edges.ensures.judged _
    c.place_edges.ensures
