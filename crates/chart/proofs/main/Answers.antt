-- What was written lies on the page.
use native.Mathlib.Omega.{arith}
use mathlib.Core.Path.{sym}
use Prim.Native.Nat.{ℕ, ◌≤◌}
use lib.ListN.{length, replicate}
use lib.Seq.{length-take-le}
use Rattle.listing.specs.Widths.{max_listing}
use Rattle.listing.proofs.CallLaws.{call_fits}
use Rattle.chart.proofs.main.Goals as goal

pub slice_bounds-page-end : goal.slice_bounds-page-end
slice_bounds-page-end c =
    let inside : c.in-Ok.len ≤ length (replicate {A = ℕ} max_listing 0) = call_fits _ (replicate max_listing 0) c.in-Ok.ensures.result_value in
    omega (arith, inside, c.write_listing.auto.out)

pub slice_bounds-write_all-end : goal.slice_bounds-write_all-end
slice_bounds-write_all-end c =
    let inside : c.in-Ok.len ≤ length (replicate {A = ℕ} max_listing 0) = call_fits _ (replicate max_listing 0) c.in-Ok.ensures.result_value in
    sym (length-take-le _ _ (omega (arith, inside, c.write_listing.auto.out)))
