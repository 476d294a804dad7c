use native.Mathlib.Omega.{arith}
use borrow.Author.Rules.{rules}
use lib.ListN.{get_or}
use Prim.Native.Nat.{◌+◌, ◌≤◌, zero-le}
use Rattle.acyclic.specs.Scan.{Short}
use Rattle.acyclic.proofs.SetLaws.{room-set}
use Rattle.acyclic.proofs.settle.settle_rows.Goals as goal

pub loop-i-smaller : goal.loop-i-smaller
loop-i-smaller c =
    let y = c.loop-i.y in
    let from = c.args.arcs.now.from.now in
    let i = c.in-Some.i in
    let t : Short from c.args.arcs.now.to.now c.args.arcs.now.gap.now y i = search rules in
    let raised : get_or y (get_or from i 0) 0 + get_or c.args.arcs.now.gap.now i 0 ≤ c.args.cap
    = omega (arith, c.if-cap-tail.false, c.loop-i.invariant.2.capped (get_or from i 0)) in
    room-set _ y _ _ (omega (arith, c.args.arcs.now.shaped.to_in i c.in-Some.ensures.0)) t.short raised

pub returns : goal.returns
returns c = λ _. record { kept = λ i h s. let e = c.in_default.ensures i zero-le h in search rules; low = c.loop-i.invariant.2.capped }
