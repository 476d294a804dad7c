-- Two bytes, of which the first is marked.
use Rattle.std.proofs.Common.{append_assoc, arith}
use Rattle.encoding.proofs.ShortLaws.{short_two}
use Rattle.encoding.proofs.number.write_number.Goals as goal

pub returns : goal.returns
returns g c =
    let two = short_two c.args.v (omega arith) (omega arith) in
    simp (c.push-3.ensures.items, c.push-2.ensures.items, append_assoc, two)
