-- What was written lies on the page.
use native.Mathlib.Omega.{arith}
use mathlib.Core.Path.{sym}
use Prim.Native.Nat.{ℕ, ◌≤◌}
use lib.ListN.{length, replicate}
use lib.Seq.{length-take-le}
use Rattle.encoding.specs.Limits.{max_shortest}
use Rattle.converting.proofs.CallLaws.{call-inside}
use Rattle.convert.proofs.main.Goals as goal

pub slice_bounds-page-end : goal.slice_bounds-page-end
slice_bounds-page-end c =
    let inside : c.in-Ok.len ≤ length (replicate {A = ℕ} max_shortest 0) = call-inside _ (replicate max_shortest 0) c.in-Ok.ensures.result_value in
    omega (arith, inside, c.convert_table.auto.out)

pub slice_bounds-write_all-end : goal.slice_bounds-write_all-end
slice_bounds-write_all-end c =
    let inside : c.in-Ok.len ≤ length (replicate {A = ℕ} max_shortest 0) = call-inside _ (replicate max_shortest 0) c.in-Ok.ensures.result_value in
    sym (length-take-le _ _ (omega (arith, inside, c.convert_table.auto.out)))
