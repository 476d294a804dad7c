use Prim.Native.Nat.{ℕ, ◌+◌}
use mathlib.Core.List.{[], ◌∷◌, ◌++◌}
use mathlib.Core.Path.{◌≡◌, ap, ◌∙◌, sym}
use native.Mathlib.Omega.{arith}
use native.Mathlib.Numerals.{add-one}
use lib.ListN.{length}
use Rattle.graph.specs.Search.{run}
use Rattle.buffers.proofs.RunLaws.{run_length, run-last}
use Rattle.exchange.proofs.number_points.Goals as goal
use Rattle.std.proofs.Common.{rules}

pub loop-i-init : goal.loop-i-init
unfolding run
loop-i-init c = c.new-order.ensures

pub push-requires : goal.push-requires
push-requires c = let e = ap length c.loop-i.invariant in search (rules, run_length)

pub loop-i-preserved : goal.loop-i-preserved
loop-i-preserved c =
    let z : 0 + c.loop-i.i ≡ c.loop-i.i = omega arith in
    rw (c.push.ensures.items, c.loop-i.invariant, add-one) (sym (run-last 0 _ ∙ ap (λ (x : ℕ). run 0 c.loop-i.i ++ (x ∷ [])) z))
