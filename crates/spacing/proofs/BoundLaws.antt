-- Best x leave no value unused, and so stay below the number of points.
use mathlib.Core.Path.{◌≡◌, refl, ap, ◌∙◌}
use mathlib.Core.Logic.{◌⊎◌, inl, inr}
use mathlib.Core.List.{List, [], ◌∷◌, map}
use Prim.Native.Nat.{ℕ, zero, suc, ◌+◌, ◌-◌, ◌≤◌, ◌<◌, min}
use native.Mathlib.Nat.{le_refl, mul-le-mul_left}
use native.Mathlib.Decide.{ℕ_discrete, dec_lt, dec_le}
use native.Mathlib.Omega.{arith}
use lib.ListN.{length, length-map}
use Rattle.graph.specs.Rows.{at}
use Rattle.graph.proofs.PigeonLaws.{any_below, pigeonhole}
use Rattle.spacing.specs.Coordinates.{Costed, row_in, Spaced, distance, x_total, BestX, Among}

-- x, or one less where it is above v
low : ℕ → ℕ → ℕ
low v x = x - min 1 (x - v)

low-cases : (v x : ℕ) → ((x ≤ v) × (low v x ≡ x)) ⊎ ((v < x) × (suc (low v x) ≡ x))
unfolding low
low-cases v x = elim (dec_le x v) [ yes l ↦ inl (l, omega arith) | no l ↦ inr (omega arith, omega arith) ]

low-at : (v : ℕ) (xs : List ℕ) (i : ℕ) → at (map (low v) xs) i ≡ low v (at xs i)
unfolding low
low-at v [] i = omega arith
low-at v (x ∷ xs) zero = refl
low-at v (x ∷ xs) (suc i) = low-at v xs i

-- two numbers apart stay so, where neither is v
low-apart : (v a b : ℕ) → (a ≡ v → ⊥) → (b ≡ v → ⊥) → a + 1 ≤ b → low v a + 1 ≤ low v b
low-apart v a b p q h = go (low-cases v a) (low-cases v b)
  where
    go : ((a ≤ v) × (low v a ≡ a)) ⊎ ((v < a) × (suc (low v a) ≡ a)) → ((b ≤ v) × (low v b ≡ b)) ⊎ ((v < b) × (suc (low v b) ≡ b))
        → low v a + 1 ≤ low v b
    go (inl s) (inl t) = omega arith
    go (inl s) (inr t) = elim (ℕ_discrete a v) [ yes e ↦ absurd (p e) | no e ↦ omega arith ]
    go (inr s) (inl t) = omega arith
    go (inr s) (inr t) = omega arith

-- and no two come farther apart
low-distance : (v a b : ℕ) → distance (low v a) (low v b) ≤ distance a b
low-distance v a b = go (low-cases v a) (low-cases v b)
  where
    go : ((a ≤ v) × (low v a ≡ a)) ⊎ ((v < a) × (suc (low v a) ≡ a)) → ((b ≤ v) × (low v b ≡ b)) ⊎ ((v < b) × (suc (low v b) ≡ b))
        → distance (low v a) (low v b) ≤ distance a b
    go (inl s) (inl t) = omega arith
    go (inl s) (inr t) = omega arith
    go (inr s) (inl t) = omega arith
    go (inr s) (inr t) = omega arith

low-x-total : (v : ℕ) (costed : List Costed) (x z : ℕ → ℕ) → ((i : ℕ) → z i ≡ low v (x i)) → x_total costed z ≤ x_total costed x
unfolding x_total
low-x-total v [] x z is = le_refl 0
low-x-total v (s ∷ costed) x z is =
    rw (is s.upper, is s.lower)
    (omega (arith, mul-le-mul_left s.cost (low-distance v (x s.upper) (x s.lower)), low-x-total v costed x z is))

module _ (n : ℕ) (order : List (List ℕ)) (costed : List Costed) (among : Among n order costed) (xs : List ℕ) (best : BestX n order costed xs) where
  -- No value up to one in use is unused. If v were, every x above v could come down by one: neighbours on the same side of v keep their
  -- distance, those on both sides were 2 apart, no segment grows longer, and some x is smaller.
  pub no-value-unused : (v p : ℕ) → p < n → v ≤ at xs p → (q : ℕ) × (q < n) × (at xs q ≡ v)
  no-value-unused v p h l = go (any_below (λ q. at xs q ≡ v) (λ q. ℕ_discrete (at xs q) v) n)
    where
      clash : ((q : ℕ) → q < n → at xs q ≡ v → ⊥) → ⊥
      clash none =
          let zs = map (low v) xs in
          let long : length zs ≡ n = length-map xs (low v) ∙ best.one_a_point in
          let s : Spaced order (at zs) = record {
            apart = λ r i b k.
                rw (low-at v xs (at (row_in order r) i), low-at v xs (at (row_in order r) (suc i)))
                (low-apart v (at xs (at (row_in order r) i)) (at xs (at (row_in order r) (suc i)))
                (none (at (row_in order r) i) (among.points_in r i b (omega arith)))
                (none (at (row_in order r) (suc i)) (among.points_in r (suc i) b k))
                (best.spaced.apart r i b k));
          } in
          let e : x_total costed (at zs) ≡ x_total costed (at xs) =
          omega (arith, best.least zs long s, low-x-total v costed (at xs) (at zs) (low-at v xs)) in
          let b = best.lowest zs long s e p h in
          elim (low-cases v (at xs p)) [ inl c ↦ none p h (omega arith) | inr c ↦ omega (arith, low-at v xs p) ]

      go : ((q : ℕ) × (q < n) × (at xs q ≡ v)) ⊎ ((q : ℕ) → q < n → at xs q ≡ v → ⊥) → (q : ℕ) × (q < n) × (at xs q ≡ v)
      go (inl s) = s
      go (inr none) = absurd (clash none)

  -- Every best x is below the number of points: an x of n or more would put the n + 1 values from 0 to n in use, by n points.
  pub x_below : (p : ℕ) → p < n → at xs p < n
  x_below p h = elim (dec_lt (at xs p) n) [ yes b ↦ b | no b ↦ absurd (clash (omega arith)) ]
    where
      user : (j : ℕ) → (q : ℕ) × (q < n) × (at xs q ≡ min j (at xs p))
      user j = no-value-unused (min j (at xs p)) p h (omega arith)

      clash : n ≤ at xs p → ⊥
      clash l =
          let t = pigeonhole n (λ j. (user j).0) (λ j b. (user j).1) in
          omega (arith, (user t.early).2, (user t.late).2, ap (at xs) t.same, t.early_lt, t.late_le)
