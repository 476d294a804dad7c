use mathlib.Core.Path.{◌≡◌, sym}
use Prim.Native.Nat.{◌+◌, ◌-◌}
use native.Mathlib.Omega.{arith}
use lib.ListN.{length}
use Rattle.graph.specs.Search.{run}
use Rattle.buffers.proofs.WriteLaws.{writing_start, writing-one, writing-end, stored-all}
use Rattle.buffers.proofs.RunLaws.{run_length, run-turn, run_end}
use Rattle.points.proofs.number_from.Goals as goal

pub loop-i-init : goal.loop-i-init
loop-i-init c = let n = length c.args.part.now in
    let e : c.args.first + 0 ≡ c.args.first = omega arith in
    let f : c.args.first + n - c.args.first ≡ n = omega arith in
    rw (e, f) (writing_start c.args.part.now 0 (run c.args.first n) (omega (arith, run_length c.args.first n)))

pub loop-i-preserved : goal.loop-i-preserved
loop-i-preserved c = let n = length c.args.part.now in
    let e : c.args.first + (c.loop-i.i + 1) ≡ c.args.first + c.loop-i.i + 1 = omega arith in
    rw e (writing-one _ _ (run-turn (c.args.first + c.loop-i.i) (c.args.first + n) (omega (arith, c.loop-i-test.true))) c.loop-i.invariant)

pub returns : goal.returns
returns c = let n = length c.args.part.now in
    stored-all (sym (run_length c.args.first n)) (writing-end (run_end (c.args.first + c.loop-i.i) (c.args.first + n) (omega (arith, c.loop-i-test.false))) c.loop-i.invariant)
