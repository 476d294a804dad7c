-- The pigeonhole principle.
use mathlib.Core.Path.{◌≡◌}
use mathlib.Core.Logic.{◌≢◌, ◌⊎◌, inl, inr}
use Prim.Native.Nat.{ℕ, zero, suc, ◌-◌, ◌≤◌, ◌<◌, min, suc-le-suc}
use native.Mathlib.Nat.{not-suc-le-zero, le_refl}
use native.Mathlib.Decide.{ℕ_discrete, dec_lt}
use native.Mathlib.Omega.{arith}

-- two of the numbers up to n that g does not tell apart
pub record Twice (g : ℕ → ℕ) (n : ℕ) : Type 0 where
  pub early : ℕ
  pub late : ℕ
  pub early_lt : early < late
  pub late_le : late ≤ n
  pub same : g early ≡ g late

-- one of the numbers below n has P, or none has
pub any_below : (P : ℕ → Type 0) → ((i : ℕ) → Dec (P i)) → (n : ℕ) → ((i : ℕ) × (i < n) × P i) ⊎ ((i : ℕ) → i < n → P i → ⊥)
any_below P d zero = inr (λ i h. absurd (not-suc-le-zero h))
any_below P d (suc n) = go (any_below P d n) (d n)
  where
    go : ((i : ℕ) × (i < n) × P i) ⊎ ((i : ℕ) → i < n → P i → ⊥) → Dec (P n) → ((i : ℕ) × (i < suc n) × P i) ⊎ ((i : ℕ) → i < suc n → P i → ⊥)
    go (inl s) e = inl (s.0, omega arith, s.2)
    go (inr h) (yes p) = inl (n, le_refl (suc n), p)
    go (inr h) (no q) = inr (λ i b p. elim (ℕ_discrete i n) [ yes e ↦ q (rw e at p) | no e ↦ h i (omega arith) p ])

-- the values without v: those above it come down by one
pub skip : ℕ → ℕ → ℕ
skip v x = x - min 1 (x - v)

-- what is known of skip, with no difference in it: x is below v and stays, or above and comes down
skip-cases : (v x : ℕ) → x ≢ v → ((x < v) × (skip v x ≡ x)) ⊎ ((v < x) × (suc (skip v x) ≡ x))
unfolding skip
skip-cases v x d = elim (dec_lt x v) [ yes l ↦ inl (l, omega arith) | no l ↦ inr (omega arith, omega arith) ]

skip-lt : (v x n : ℕ) → x ≢ v → x < suc n → v < suc n → skip v x < n
skip-lt v x n d h k = elim (skip-cases v x d) [ inl p ↦ omega arith | inr p ↦ omega arith ]

skip-inj : (v x y : ℕ) → x ≢ v → y ≢ v → skip v x ≡ skip v y → x ≡ y
skip-inj v x y d e q = go (skip-cases v x d) (skip-cases v y e)
  where
    go : ((x < v) × (skip v x ≡ x)) ⊎ ((v < x) × (suc (skip v x) ≡ x)) → ((y < v) × (skip v y ≡ y)) ⊎ ((v < y) × (suc (skip v y) ≡ y)) → x ≡ y
    go (inl a) (inl b) = omega arith
    go (inl a) (inr b) = omega arith
    go (inr a) (inl b) = omega arith
    go (inr a) (inr b) = omega arith

pub pigeonhole : (n : ℕ) (g : ℕ → ℕ) → ((i : ℕ) → i ≤ n → g i < n) → Twice g n
pigeonhole zero g h = absurd (not-suc-le-zero (h 0 (le_refl 0)))
pigeonhole (suc n) g h = go (any_below (λ i. g i ≡ g (suc n)) (λ i. ℕ_discrete (g i) (g (suc n))) (suc n)) (λ k. pigeonhole n (λ i. skip (g (suc n)) (g i)) k)
  where
    v : ℕ
    v = g (suc n)

    go : ((i : ℕ) × (i < suc n) × (g i ≡ v)) ⊎ ((i : ℕ) → i < suc n → g i ≢ v)
        → (((i : ℕ) → i ≤ n → skip v (g i) < n) → Twice (λ i. skip v (g i)) n)
        → Twice g (suc n)
    go (inl s) ih = record { early = s.0; late = suc n; early_lt = s.1; late_le = le_refl (suc n); same = s.2 }
    go (inr d) ih =
        let t = ih (λ i b. skip-lt v (g i) n (d i (suc-le-suc b)) (h i (omega arith)) (h (suc n) (le_refl (suc n)))) in
        record {
          early = t.early;
          late = t.late;
          early_lt = t.early_lt;
          late_le = omega arith;
          same = skip-inj v (g t.early) (g t.late) (d t.early (omega arith)) (d t.late (omega arith)) t.same;
        }
