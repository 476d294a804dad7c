-- Low rows: relaxed rows are low, and low rows can be relaxed again.
use mathlib.Core.Path.{◌≡◌, ap, ◌∙◌}
use mathlib.Core.List.{List}
use Prim.Native.Nat.{ℕ, ◌≤◌}
use native.Mathlib.Omega.{arith}
use lib.ListN.{length, replicate, length-replicate}
use Rattle.graph.specs.Rows.{at}
use Rattle.relaxation.specs.Certificate.{Held, Relaxed}
use Rattle.relaxation.specs.Limits.{row_limit, calm_limit}
use Rattle.relaxation.specs.Low.{RowsLow, Lowered}
use Rattle.relaxation.specs.Network.{Shaped, Narrow, Bounded}
use Rattle.relaxation.specs.Relax.{Holder, Sums, EdgesKept}
use Rattle.buffers.proofs.ListLaws.{zero-at}
use Rattle.relaxation.proofs.BestLaws.{certified-low}

pub low_sums : (from to gap : List ℕ) (n : ℕ) (y : List ℕ) → Shaped from to gap n → Narrow gap n → RowsLow n calm_limit y → Sums from gap y
low_sums from to gap n y shape narrow l = record { fits = λ a h. omega (arith, l.low (at from a) (shape.from_in a h), narrow.gaps a) }

pub relaxed-low : (from to gap flow : List ℕ) (n : ℕ) (old y : List ℕ) → n ≤ length old → Shaped from to gap n → length flow ≡ length from
    → Narrow gap n → Relaxed from to gap flow n old y → RowsLow n calm_limit y
relaxed-low from to gap flow n old y fits shape lf narrow s =
    certified-low from to gap flow flow n shape y (omega (arith, s.long)) s.held lf lf (record { test = λ z. omega arith }) s.heights narrow

pub lowered-of : (from to gap flow : List ℕ) (n : ℕ) (old y : List ℕ) → n ≤ length old → Shaped from to gap n → length flow ≡ length from
    → Narrow gap n → Relaxed from to gap flow n old y → Lowered from to gap flow n old y
lowered-of from to gap flow n old y fits shape lf narrow s =
    record { held = s.held; low = relaxed-low from to gap flow n old y fits shape lf narrow s; long = s.long; rest = s.rest }

pub holder-of : (from to gap flow : List ℕ) (n : ℕ) (y : List ℕ) (b : ℕ) → Held from to gap flow (at y) → RowsLow n b y → b ≤ row_limit
    → Holder from to gap flow n row_limit
holder-of from to gap flow n y b h l le = record { rows = at y; held = h; low = λ v k. omega (arith, l.low v k) }

pub holder-start : (from to gap flow : List ℕ) (n : ℕ) → flow ≡ replicate (length from) 0 → Bounded from to gap n row_limit
    → Holder from to gap flow n row_limit
holder-start from to gap flow n e b = record {
  rows = b.rows;
  held = record {
    kept = b.kept;
    tight = λ a h u. absurd (omega (
      arith,
      ap (λ
          (l : List ℕ). at l a) e,
      zero-at (length from) a,
    ));
  };
  low = b.low;
}

pub holder-calm : (from to gap flow : List ℕ) (n : ℕ) (y : List ℕ) → Held from to gap flow (at y) → RowsLow n calm_limit y
    → Holder from to gap flow n row_limit
holder-calm from to gap flow n y h l = holder-of from to gap flow n y calm_limit h l (omega arith)

pub zero-long : (from flow : List ℕ) → flow ≡ replicate (length from) 0 → length flow ≡ length from
zero-long from flow e = ap length e ∙ length-replicate {A = ℕ} (length from) 0

-- Rows that keep every edge are held while no edge is used.
pub held-zero : (from to gap flow y : List ℕ) → flow ≡ replicate (length from) 0 → EdgesKept from to gap y → Held from to gap flow (at y)
held-zero from to gap flow y e k = record { kept = k.kept; tight = λ a h u. absurd (omega (arith, ap (λ (l : List ℕ). at l a) e, zero-at (length from) a)) }
