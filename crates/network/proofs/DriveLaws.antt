-- The end: what is drained and relaxed is certified.
use mathlib.Core.Path.{◌≡◌, ◌∙◌}
use mathlib.Core.List.{List}
use Prim.Native.Nat.{ℕ, ◌≤◌}
use native.Mathlib.Omega.{arith}
use lib.ListN.{length, drop}
use Rattle.relaxation.specs.Certificate.{Relaxed, Certified}
use Rattle.relaxation.specs.Network.{Shaped}
use Rattle.relaxation.proofs.BestLaws.{certified-best, certified-bounded}
use Rattle.drain.specs.Drain.{DrainedAll}

pub certify : (from to gap weight : List ℕ) (n : ℕ) (first old y' y flow supply demand : List ℕ) → Shaped from to gap n → length weight ≡ length from
    → length old ≡ length first → drop n old ≡ drop n first → DrainedAll from to gap weight n old y' flow supply demand
    → Relaxed from to gap flow n y' y
    → Certified from to gap weight n first y flow
certify from to gap weight n first old y' y flow supply demand shape wl lo ro d s =
    let fits : n ≤ length y = omega (arith, s.long, d.y_long) in
    record {
      relaxed = record { long = s.long ∙ d.long ∙ lo; held = s.held; heights = s.heights; rest = s.rest ∙ d.rest ∙ ro };
      balance = d.balance;
      flow_long = d.flow_long;
      best = certified-best from to gap weight flow n shape y fits s.held d.flow_long wl d.balance s.heights;
      bounded = certified-bounded from to gap weight flow n shape y fits s.held d.flow_long wl d.balance s.heights;
    }
