-- The rows to start with: relaxed, proposed anew, and looked at before any flow is loaded.
use mathlib.Core.Path.{◌≡◌, ap, ◌∙◌}
use mathlib.Core.List.{List, []}
use Prim.Native.Nat.{ℕ, ◌<◌}
use native.Mathlib.Omega.{arith}
use Rattle.std.proofs.lemmas.List.{get_or-take}
use lib.ListN.{length, drop, take, replicate}
use Rattle.graph.specs.Rows.{at}
use Rattle.relaxation.specs.Certificate.{Relaxed}
use Rattle.relaxation.specs.Low.{Lowered}
use Rattle.relaxation.specs.Relax.{Heights}
use Rattle.buffers.proofs.ListLaws.{zero-at}
use Rattle.relaxation.proofs.RelaxLaws.{heights-more}

pub lowered-join : (from to gap flow : List ℕ) (n : ℕ) (old y z x : List ℕ) → Relaxed from to gap flow n old y → length z ≡ length y
    → drop n z ≡ drop n y
    → Lowered from to gap flow n z x → Lowered from to gap flow n old x
lowered-join from to gap flow n old y z x r l d s =
    record { held = s.held; low = s.low; long = s.long ∙ l ∙ r.long; rest = s.rest ∙ d ∙ r.rest }

-- The lowest rows, copied, are heights of walks without any flow.
pub lowest-heights : (from to gap flow : List ℕ) (n : ℕ) (old y lowest : List ℕ) → flow ≡ replicate (length from) 0
    → Relaxed from to gap flow n old y → lowest ≡ take n y → Heights from to gap [] n lowest
lowest-heights from to gap flow n old y lowest e r c =
    rw c (record { each = λ v h. rw (get_or-take n y v 0 h) (all.each v h) })
  where
    unused : (a : ℕ) → 0 < at flow a → 0 < at [] a
    unused a u = absurd (omega (arith, ap (λ (l : List ℕ). at l a) e, zero-at (length from) a))

    all : Heights from to gap [] n y
    all = heights-more from to gap flow [] n y unused (record { each = r.heights })
