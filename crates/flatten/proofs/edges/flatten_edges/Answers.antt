use mathlib.Core.Path.{◌≡◌, sym, ap, ◌∙◌}
use native.Mathlib.Omega.{arith}
use borrow.Author.Rules.{rules}
use mathlib.Core.Bool.{false}
use lib.ListN.{length, get_or}
use Rattle.graph.specs.Rows.{no_edge}
use Rattle.std.proofs.lemmas.Slice.Zip.{zip_turn, zip_end}
use Rattle.std.proofs.lemmas.List.{length_push}
use Rattle.graph.specs.Directed.{own_edge, no_table_edge, directed, directed_by}
use Rattle.graph.proofs.DirectedLaws.{directed-length, directed-get}
use Rattle.flatten.proofs.FlattenLaws.{copy_more, copy-all}
use Rattle.flatten.proofs.edges.flatten_edges.Goals as goal

pub loop-e-preserved : goal.loop-e-preserved
loop-e-preserved c =
    let edges = c.args.edges.now in
    let turned = c.args.turned.now in
    let t = zip_turn edges turned c.loop-e.yielded c.into_iter-e-iterator.result c.loop-e.e-iterator c.next.new.self _ (search rules) (search rules) c.loop-e.yielded_by _ c.in-Some.is c.next.ensures.steps in
    let k = length c.loop-e.yielded in
    let same : c.directed.result ≡ get_or (directed_by turned edges) k no_edge
    = c.directed.ensures ∙ ap (λ b. directed b (own_edge c.in-Some.e.now)) (t.3 false) ∙ ap (λ e. directed (get_or turned k false) (own_edge e)) (t.2 no_table_edge)
    ∙ sym (directed-get turned edges k t.0) in
    rw (length_push c.loop-e.yielded (c.in-Some.e, c.in-Some.turn))
    (copy_more (directed_by turned edges) _ k c.loop-e.invariant c.directed.result _ (omega (arith, t.0, directed-length turned edges)) same c.push.ensures)

pub returns : goal.returns
returns c =
    let edges = c.args.edges.now in
    let turned = c.args.turned.now in
    let e = zip_end edges turned c.loop-e.yielded c.into_iter-e-iterator.result c.loop-e.e-iterator c.next.new.self _ (search rules) (search rules) c.loop-e.yielded_by c.in-None.is c.next.ensures.steps in
    copy-all (directed_by turned edges) _ _ c.loop-e.invariant (omega (arith, e, directed-length turned edges))
