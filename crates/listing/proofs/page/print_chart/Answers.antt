-- The chart opened: what its lists hold is what the listing is made of.
use Rattle.std.proofs.Common.{arith, rules, ◌∙◌, ap, sym, subst}
use Rattle.merging.specs.Merging.{Mergeable}
use Rattle.merging.specs.Merged.{merged}
use Rattle.ordering.proofs.OpenedLaws.{opened, opened-mergeable}
use Rattle.labels.proofs.PageLaws.{parts-room, parts-put}
use Rattle.listing.proofs.WidthLaws.{listing-short}
use Rattle.listing.proofs.CallLaws.{given-layable, given-dummies, given-labelled, given-printable, given-head, given-parts}
use Rattle.listing.proofs.page.print_chart.Goals as goal

pub merge_edges-requires : goal.merge_edges-requires
merge_edges-requires g c =
    let o = opened c.args.bytes.now c.requires.drawn c.requires.found in
    subst Mergeable (sym c.deref.ensures.0) (opened-mergeable o)

pub lay_dummies-dummies-requires : goal.lay_dummies-dummies-requires
lay_dummies-dummies-requires g c =
    let o = opened c.args.bytes.now c.requires.drawn c.requires.found in
    let drawn = c.deref-2.ensures.0 ∙ c.merge_edges.ensures ∙ ap merged c.deref.ensures.0 in
    (search rules, given-layable o drawn c.deref-3.ensures.0 c.deref-4.ensures.0)

pub put_line-requires : goal.put_line-requires
put_line-requires g c =
    let o = opened c.args.bytes.now c.requires.drawn c.requires.found in
    let head = given-head o c.len-n.ensures.value c.len-m.ensures.value in
    (search rules, omega (arith, head))

pub invariant_of-labels : goal.invariant_of-labels
invariant_of-labels g c =
    let o = opened c.args.bytes.now c.requires.drawn c.requires.found in
    let drawn = c.deref-2.ensures.0 ∙ c.merge_edges.ensures ∙ ap merged c.deref.ensures.0 in
    let ds = c.deref-6.ensures.0 ∙ given-dummies o drawn c.deref-3.ensures.0 c.deref-4.ensures.0 c.lay_dummies-dummies.ensures in
    record { labelled = given-labelled o c.deref-5.ensures.0 ds c.deref-7.ensures.0 }

pub invariant_of-sheet : goal.invariant_of-sheet
invariant_of-sheet g c =
    let o = opened c.args.bytes.now c.requires.drawn c.requires.found in
    let drawn = c.deref-2.ensures.0 ∙ c.merge_edges.ensures ∙ ap merged c.deref.ensures.0 in
    let ds = c.deref-6.ensures.0 ∙ given-dummies o drawn c.deref-3.ensures.0 c.deref-4.ensures.0 c.lay_dummies-dummies.ensures in
    record { printable = given-printable o c.deref-5.ensures.0 ds c.deref-8.ensures.0 c.deref-9.ensures.0 }

pub put_rows-requires : goal.put_rows-requires
put_rows-requires g c =
    let o = opened c.args.bytes.now c.requires.drawn c.requires.found in
    let drawn = c.deref-2.ensures.0 ∙ c.merge_edges.ensures ∙ ap merged c.deref.ensures.0 in
    let ds = c.deref-6.ensures.0 ∙ given-dummies o drawn c.deref-3.ensures.0 c.deref-4.ensures.0 c.lay_dummies-dummies.ensures in
    let parts = given-parts o c.deref-5.ensures.0 ds c.deref-8.ensures.0 c.deref-9.ensures.0 c.deref-7.ensures.0 c.len-n.ensures.value c.len-m.ensures.value in
    let room = parts-room c.args.page.now.items parts c.put_line.ensures in
    (search rules, omega (arith, room, listing-short c.args.bytes.now))

pub returns : goal.returns
returns g c =
    let o = opened c.args.bytes.now c.requires.drawn c.requires.found in
    let drawn = c.deref-2.ensures.0 ∙ c.merge_edges.ensures ∙ ap merged c.deref.ensures.0 in
    let ds = c.deref-6.ensures.0 ∙ given-dummies o drawn c.deref-3.ensures.0 c.deref-4.ensures.0 c.lay_dummies-dummies.ensures in
    let parts = given-parts o c.deref-5.ensures.0 ds c.deref-8.ensures.0 c.deref-9.ensures.0 c.deref-7.ensures.0 c.len-n.ensures.value c.len-m.ensures.value in
    parts-put c.args.page.now.items parts c.put_line.ensures c.put_rows.ensures
