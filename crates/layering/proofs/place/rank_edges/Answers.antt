-- A loop of must edges, a loop of the edges as they are, or rows: with the flags that were found, of the edges what is found for the table.
use Rattle.std.proofs.lemmas.Result.{err_from_is_err_and}
use Rattle.layering.proofs.RankLaws.{ranked-loop, turned-long, ranked-refused, ranked-found}
use Rattle.layering.proofs.place.rank_edges.Goals as goal

pub returns-in_err-turned : goal.returns-in_err-turned
returns-in_err-turned c =
    let p = err_from_is_err_and c.from_residual.result c.from_residual.ensures.1 in
    rw (p.1, p.2) (ranked-loop _ _ c.requires c.in_err-turned.ensures)

pub rank_directed-requires-clause-turned_len : goal.rank_directed-requires-clause-turned_len
rank_directed-requires-clause-turned_len c =
    rw c.deref.ensures.0 (turned-long _ _ c.requires {turned = c.in_ok-turned.turned} c.in_ok-turned.ensures)

pub returns-in_err-found : goal.returns-in_err-found
returns-in_err-found c =
    let p = err_from_is_err_and c.from_residual-in_err-found.result c.from_residual-in_err-found.ensures.1 in
    rw (p.1, p.2)
    (ranked-refused _ _ c.requires {turned = c.in_ok-turned.turned} c.in_ok-turned.ensures (rw c.deref.ensures.0 at c.in_err-found.ensures))

pub returns : goal.returns
returns c =
    ranked-found _ _ c.requires {turned = c.in_ok-turned.turned} c.in_ok-turned.ensures {found = c.in_ok-found.found}
    (rw c.deref.ensures.0 at c.in_ok-found.ensures)
