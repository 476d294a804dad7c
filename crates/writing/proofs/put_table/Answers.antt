-- The edition, the steps and the edges one behind the other, with room for each.
use Rattle.std.proofs.Common.{arith, rules, ◌++◌, ◌∙◌, ap, sym, subst, map, length, length-append}
use Rattle.encoding.specs.Said.{said_step, said}
use Rattle.table.specs.Calls.{contents_in}
use Rattle.encoding.specs.Shortest.{short_number, short_step, short_edge, short_list, edition_for}
use Rattle.encoding.specs.Writable.{WritableSteps, WritableEdges}
use Rattle.encoding.proofs.PutLaws.{table-parts}
use Rattle.encoding.proofs.BoundLaws.{steps-bytes, edges-bytes, edition-low}
use Rattle.labels.proofs.PageLaws.{parts-put}
use Rattle.writing.proofs.PageLaws.{writable-steps, writable-edges, edition-bytes, front-parts}
use Rattle.writing.proofs.put_table.Goals as goal

pub write_number-requires : goal.write_number-requires
write_number-requires g c =
    let t = c.args.table.now in
    let e = c.edition_for-edition.ensures ∙ ap edition_for c.deref.ensures.0 in
    (search rules, (omega (arith, e, edition-low t.edges.items), omega (arith, ap (λ n. length (short_number n)) e, edition-bytes c.requires.fair)))

pub write_steps-requires : goal.write_steps-requires
write_steps-requires g c =
    let t = c.args.table.now in
    let e = c.edition_for-edition.ensures ∙ ap edition_for c.deref.ensures.0 in
    let s = c.deref-2.ensures.0 in
    let few = steps-bytes c.args.bytes.now t.steps.items (writable-steps c.requires.fair) in
    let number = simp length-append at (ap length c.write_number.ensures) in (
      search rules,
      (subst (WritableSteps c.args.bytes.now) (sym s) (writable-steps c.requires.fair), omega (arith, few, number, ap (λ l. length (short_list short_step (map (said_step c.args.bytes.now) l))) s, ap (λ n. length (short_number n)) e, edition-bytes c.requires.fair)),
    )

pub write_edges-requires : goal.write_edges-requires
write_edges-requires g c =
    let t = c.args.table.now in
    let e = c.edition_for-edition.ensures ∙ ap edition_for c.deref.ensures.0 in
    let s = c.deref-2.ensures.0 in
    let d = c.deref-3.ensures.0 in
    let edition = c.edition_for-edition.result in
    let few = steps-bytes c.args.bytes.now t.steps.items (writable-steps c.requires.fair) in
    let more = edges-bytes edition t.edges.items (writable-edges c.requires.fair) in
    let number = simp length-append at (ap length c.write_number.ensures) in
    let steps = simp length-append at (ap length c.write_steps.ensures) in (
      search rules,
      (subst WritableEdges (sym d) (writable-edges c.requires.fair), omega (arith, few, more, number, steps, ap (λ l. length (short_list (short_edge edition) l)) d, ap (λ l. length (short_list short_step (map (said_step c.args.bytes.now) l))) s, ap (λ n. length (short_number n)) e, edition-bytes c.requires.fair)),
    )

pub returns : goal.returns
returns g c =
    let t = c.args.table.now in
    let w = said c.args.bytes.now (contents_in t) in
    let e = c.edition_for-edition.ensures ∙ ap edition_for c.deref.ensures.0 in
    let number = c.write_number.ensures ∙ ap (λ n. c.args.page.now.items ++ short_number n) e in
    let steps = c.write_steps.ensures ∙ ap (λ l. c.write_number.new.page.items ++ short_list short_step (map (said_step c.args.bytes.now) l)) c.deref-2.ensures.0 in
    let edges = c.write_edges.ensures ∙ rw (e, c.deref-3.ensures.0) in
    parts-put c.args.page.now.items (table-parts w) (parts-put c.args.page.now.items (front-parts (short_number (edition_for w.edges)) (short_list short_step w.steps)) number steps) edges
