-- Costs that agree on the pairs of a row, and rows whose points have other names.
use mathlib.Core.Path.{◌≡◌, refl, sym, ap}
use mathlib.Core.List.{List, [], ◌∷◌, map}
use Prim.Native.Nat.{ℕ, ◌≤◌, ◌<◌, min}
use native.Mathlib.Omega.{arith}
use Rattle.buffers.specs.Lists.{occurs}
use Rattle.permutations.proofs.PointLaws.{one, one_same, occurs-cons}
use Rattle.exchange.specs.Costs.{cost_with, cost_of, cheaper, floor_of}

-- a row has each point at most once
pub record Once (l : List ℕ) : Type 0 where
  pub once : (p : ℕ) → occurs p l ≤ 1

pub once-tail : (x : ℕ) (l : List ℕ) → Once (x ∷ l) → Once l
once-tail x l o = record { once = λ p. omega (arith, o.once p, occurs-cons p x l) }

once-head : (x : ℕ) (l : List ℕ) → Once (x ∷ l) → occurs x l ≡ 0
once-head x l o = omega (arith, o.once x, occurs-cons x x l, one_same x)

-- two costs are the same for every pair of different points of a row
pub record AgreeOn (l : List ℕ) (c d : ℕ → ℕ → ℕ) : Type 0 where
  pub pairs : (i j : ℕ) → 0 < occurs i l → 0 < occurs j l → (i ≡ j → ⊥) → c i j ≡ d i j

agree-tail : (x : ℕ) (l : List ℕ) (c d : ℕ → ℕ → ℕ) → AgreeOn (x ∷ l) c d → AgreeOn l c d
agree-tail x l c d a = record { pairs = λ i j h g n. a.pairs i j (omega (arith, occurs-cons i x l)) (omega (arith, occurs-cons j x l)) n }

with-agree : (c d : ℕ → ℕ → ℕ) (i : ℕ) (l : List ℕ) → occurs i l ≡ 0 → ((j : ℕ) → 0 < occurs j l → (i ≡ j → ⊥) → c i j ≡ d i j) → cost_with c i l ≡ cost_with d i l
unfolding cost_with
with-agree c d i [] n a = refl
with-agree c d i (j ∷ l) n a =
    omega (
      arith,
      a j (omega (arith, occurs-cons j j l, one_same j)) differ,
      with-agree c d i l (omega (arith, occurs-cons i j l)) (λ k h. a k (omega (arith, occurs-cons k j l))),
    )
  where
    differ : i ≡ j → ⊥
    differ e = omega (arith, n, occurs-cons i j l, ap (one i) e, one_same i)

pub of_agree : (c d : ℕ → ℕ → ℕ) (l : List ℕ) → Once l → AgreeOn l c d → cost_of c l ≡ cost_of d l
unfolding cost_of
of_agree c d [] o a = refl
of_agree c d (i ∷ l) o a =
    omega (
      arith,
      with-agree c d i l (once-head i l o) (λ j h. a.pairs i j (omega (arith, occurs-cons i i l, one_same i)) (omega (arith, occurs-cons j i l))),
      of_agree c d l (once-tail i l o) (agree-tail i l c d a),
    )

-- The floor is the same then too.
pub floor-agree : (c d : ℕ → ℕ → ℕ) (l : List ℕ) → Once l → AgreeOn l c d → floor_of c l ≡ floor_of d l
unfolding floor_of
floor-agree c d l o a = of_agree (cheaper c) (cheaper d) l o (record { pairs = each })
  where
    each : (i j : ℕ) → 0 < occurs i l → 0 < occurs j l → (i ≡ j → ⊥) → cheaper c i j ≡ cheaper d i j
    each i j h g n = λ k. min (a.pairs i j h g n k) (a.pairs j i g h (λ e. n (sym e)) k)

-- ---- other names

module _ (name : ℕ → ℕ) (c : ℕ → ℕ → ℕ) where
  with-map : (i : ℕ) (l : List ℕ) → cost_with c (name i) (map name l) ≡ cost_with (λ x y. c (name x) (name y)) i l
  unfolding cost_with
  with-map i [] = refl
  with-map i (j ∷ l) = omega (arith, with-map i l)

  of_map : (l : List ℕ) → cost_of c (map name l) ≡ cost_of (λ x y. c (name x) (name y)) l
  unfolding cost_of
  of_map [] = refl
  of_map (i ∷ l) = omega (arith, with-map i l, of_map l)

-- The floor of a row of named points is that of the row by what the names cost.
pub floor-map : (name : ℕ → ℕ) (c : ℕ → ℕ → ℕ) (l : List ℕ) → floor_of c (map name l) ≡ floor_of (λ i j. c (name i) (name j)) l
unfolding floor_of
floor-map name c l = of_map name (cheaper c) l
