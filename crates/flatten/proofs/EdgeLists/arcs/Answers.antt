use Rattle.flatten.proofs.FlattenLaws.{flat-shaped}
use Rattle.flatten.proofs.EdgeLists.arcs.Goals as goal

pub invariant_of-result : goal.invariant_of-result
invariant_of-result g c =
    let f = c.args.self.now in
    rw (c.deref.ensures.0, c.deref-2.ensures.0, c.deref-3.ensures.0)
    (record { shaped = flat-shaped f.from.items f.to.items f.gap.items f.weight.items c.args.n f.even c.requires })
