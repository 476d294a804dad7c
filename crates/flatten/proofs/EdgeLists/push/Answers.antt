-- Each list has room as the edges have, and one entry more each is one edge more.
use Rattle.std.proofs.Common.{rules}
use native.Mathlib.Omega.{arith}
use Rattle.flatten.proofs.FlattenLaws.{flat-long, edges-push}
use Rattle.flatten.proofs.EdgeLists.push.Goals as goal

pub push-requires : goal.push-requires
push-requires g c = let f = c.args.self.now in (search rules, omega (arith, c.requires, flat-long f.from.items f.to.items f.gap.items f.weight.items))

pub push-requires-2 : goal.push-requires-2
push-requires-2 g c = let f = c.args.self.now in (search rules, omega (arith, c.requires, flat-long f.from.items f.to.items f.gap.items f.weight.items, f.even.to_long))

pub push-requires-3 : goal.push-requires-3
push-requires-3 g c = let f = c.args.self.now in (search rules, omega (arith, c.requires, flat-long f.from.items f.to.items f.gap.items f.weight.items, f.even.gap_long))

pub push-requires-4 : goal.push-requires-4
push-requires-4 g c = let f = c.args.self.now in (search rules, omega (arith, c.requires, flat-long f.from.items f.to.items f.gap.items f.weight.items, f.even.weight_long))

pub returns : goal.returns
returns g c =
    let f = c.args.self.now in
    let e = c.args.e in
    rw (c.push.ensures.items, c.push-2.ensures.items, c.push-3.ensures.items, c.push-4.ensures.items)
    (edges-push e.from e.to e.gap e.weight f.from.items f.to.items f.gap.items f.weight.items f.even.to_long f.even.gap_long f.even.weight_long)
