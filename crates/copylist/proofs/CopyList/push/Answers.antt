-- The element takes the first blank place, and the others stay blank.
use Rattle.std.proofs.Common.{ap, ◌∙◌, ◌<◌, arith, length, length-take-le}
use Rattle.std.proofs.lemmas.List.{length-set}
use Rattle.copylist.proofs.FilledLaws.{filled-set}
use Rattle.copylist.proofs.CopyList.push.Goals as goal

pub invariant_of-self : goal.invariant_of-self
invariant_of-self g c =
    let l = c.self.inside in
    let x = c.args.element in
    let held = c.self.invariant in
    let room : l.len < g.row.CAP = omega (arith, c.requires, length-take-le l.len l.cells (omega (arith, held.0, held.1)), ap (λ v. length v.items) c.self.view_is) in
    (omega (arith, room), length-set l.cells l.len x ∙ held.1, filled-set g.T.Blank.blank x g.row.CAP l.cells l.len room held.1 held.2)
