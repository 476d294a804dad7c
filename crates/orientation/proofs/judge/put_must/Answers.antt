use mathlib.Core.Path.{◌≡◌, refl, sym, ap, ◌∙◌}
use mathlib.Core.Bool.{true, false}
use mathlib.Core.List.{[], ◌∷◌, ◌++◌}
use Prim.Native.Nat.{◌+◌, ◌-◌}
use native.Mathlib.Omega.{arith}
use borrow.Author.Rules.{rules}
use lib.ListN.{length, get_or}
use Rattle.graph.specs.Directed.{no_table_edge}
use Rattle.std.proofs.lemmas.Iterator.Adapters.{YieldsList-from_rev_slice}
use Rattle.std.proofs.lemmas.Iterator.Consumers.{YieldsList-turn}
use Rattle.std.proofs.lemmas.List.{length_push, length-reverse, get_or-reverse, get_or_default}
use Rattle.orientation.proofs.JudgeLaws.{putting-none, putting-past, putting-more}
use Rattle.orientation.proofs.judge.put_must.Goals as goal

pub loop-e-init : goal.loop-e-init
loop-e-init c = (refl, putting-none _ c.args.edges.now _ _ (omega arith) c.requires.closure)

pub loop-e-preserved-then-not-e : goal.loop-e-preserved-then-not-e
loop-e-preserved-then-not-e c =
    let edges = c.args.edges.now in
    let t = YieldsList-turn (YieldsList-from_rev_slice edges (search rules)) c.loop-e.yielded _ c.loop-e.yielded_by _ _ c.in-Some.e c.in-Some.is c.next.ensures.steps in
    let k = length c.loop-e.yielded in
    let long = length-reverse edges in
    let here : c.in-Some.e.now ≡ get_or edges (length edges - 1 - k) no_table_edge
    = t.1 ∙ get_or-reverse edges k _ (omega (arith, t.0, long)) ∙ get_or_default edges _ _ _ (omega (arith, t.0, long)) in
    let next = length_push c.loop-e.yielded c.in-Some.e in
    let place : length edges - length (c.loop-e.yielded ++ c.in-Some.e ∷ []) ≡ length edges - 1 - k = omega (arith, next) in
    let behind : length edges - k ≡ length edges - 1 - k + 1 = omega (arith, t.0, long) in
    let n = c.args.walks.now.n in
    let firm : (get_or edges (length edges - 1 - k) no_table_edge).soft ≡ false = sym (ap (λ e. e.soft) here) ∙ c.if-not-e.true in
    let added = rw (c.loop-e.invariant.0, here) at c.add_edge.ensures.added in (
      c.add_edge.ensures.nodes ∙ c.loop-e.invariant.0,
      rw place (putting-more n edges _ c.loop-e.walks.marks (omega (arith, t.0, long)) (rw behind at c.loop-e.invariant.1) _ firm added),
    )

pub loop-e-preserved : goal.loop-e-preserved
loop-e-preserved c =
    let edges = c.args.edges.now in
    let t = YieldsList-turn (YieldsList-from_rev_slice edges (search rules)) c.loop-e.yielded _ c.loop-e.yielded_by _ _ c.in-Some.e c.in-Some.is c.next.ensures.steps in
    let k = length c.loop-e.yielded in
    let long = length-reverse edges in
    let here : c.in-Some.e.now ≡ get_or edges (length edges - 1 - k) no_table_edge
    = t.1 ∙ get_or-reverse edges k _ (omega (arith, t.0, long)) ∙ get_or_default edges _ _ _ (omega (arith, t.0, long)) in
    let next = length_push c.loop-e.yielded c.in-Some.e in
    let place : length edges - length (c.loop-e.yielded ++ c.in-Some.e ∷ []) ≡ length edges - 1 - k = omega (arith, next) in
    let behind : length edges - k ≡ length edges - 1 - k + 1 = omega (arith, t.0, long) in
    let soft : (get_or edges (length edges - 1 - k) no_table_edge).soft ≡ true = sym (ap (λ e. e.soft) here) ∙ c.if-not-e.false in (
      c.loop-e.invariant.0,
      rw place (putting-past c.args.walks.now.n edges _ c.loop-e.walks.marks (omega (arith, t.0, long)) (rw behind at c.loop-e.invariant.1) soft),
    )
