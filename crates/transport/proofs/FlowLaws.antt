-- What supply and demand come to in all.
use mathlib.Core.Path.{◌≡◌, ◌∙◌}
use mathlib.Core.List.{List}
use Prim.Native.Nat.{ℕ}
use native.Mathlib.Omega.{arith}
use Rattle.relaxation.specs.Certificate.{Balance}
use Rattle.buffers.specs.Lists.{sum}
use Rattle.transport.specs.Flow.{Owed}
use Rattle.transport.proofs.SumLaws.{flux-one, spread-one, spread-empty}

-- As much is to be got as is to be sent: the function that is 1 everywhere shows it, since f and g cancel.
pub owed-equal : (from to f g supply demand : List ℕ) → Owed from to f g supply demand → sum demand ≡ sum supply
owed-equal from to f g supply demand o =
    omega (arith, o.test (λ _. 1), flux-one f to, flux-one f from, flux-one g to, flux-one g from, spread-one demand, spread-one supply)

-- Where nothing is left to send, nothing is left to get either, and the flow is balanced.
pub owed_none : (from to f g supply demand : List ℕ) → Owed from to f g supply demand → sum supply ≡ 0 → Balance from to f g
owed_none from to f g supply demand o e =
    record { test = λ z. omega (arith, o.test z, spread-empty supply z e, spread-empty demand z (owed-equal from to f g supply demand o ∙ e)) }
