-- The number of crossing pairs does not depend on the order of the list.
use mathlib.Core.Path.{◌≡◌, refl, sym, ap, ◌∙◌}
use mathlib.Core.Bool.{Bool, cond}
use mathlib.Core.List.{List, [], ◌∷◌, ◌++◌, map}
use mathlib.Core.Logic.{⊎_elim}
use Prim.Native.Nat.{ℕ, zero, suc, ◌+◌, ◌≤◌}
use native.Mathlib.Nat.{eq-or-lt_of_le}
use native.Mathlib.Omega.{arith}
use borrow.Author.Tests.{lt-ltb, le-ltb}
use lib.Dec.{ltb}
use lib.ListN.{length}
use Rattle.buffers.specs.Lists.{sum}
use Rattle.crossings.specs.Crossings.{PlacedSegment, cross, crossings_with, crossing_pairs}
use Rattle.crossings.proofs.CrossingsLaws.{cross-swap, cross-shared, with-most}

-- how many of a list pass a test
unfoldable pub how_many : (PlacedSegment → Bool) → List PlacedSegment → ℕ
how_many f [] = 0
how_many f (s ∷ l) = cond (f s) 1 0 + how_many f l

-- Two lists of the same segments in any order: of each list as many pass any test.
pub record Same (l m : List PlacedSegment) : Type 0 where
  pub each : (f : PlacedSegment → Bool) → how_many f l ≡ how_many f m

-- a number for each segment of a list, added up
abbrev pub sum_by : (PlacedSegment → ℕ) → List PlacedSegment → ℕ
sum_by g l = sum (map g l)

total-alike : (f g : PlacedSegment → ℕ) → ((s : PlacedSegment) → f s ≡ g s) → (l : List PlacedSegment) → sum_by f l ≡ sum_by g l
unfolding sum
total-alike f g h [] = refl
total-alike f g h (s ∷ l) = omega (arith, h s, total-alike f g h l)

total-add : (f g : PlacedSegment → ℕ) (l : List PlacedSegment) → sum_by (λ s. f s + g s) l ≡ sum_by f l + sum_by g l
unfolding sum
total-add f g [] = refl
total-add f g (s ∷ l) = omega (arith, total-add f g l)

-- ---- a total is made of counts

-- how many of the numbers below n are below x
bits : ℕ → ℕ → ℕ
bits zero x = 0
bits (suc n) x = cond (ltb n x) 1 0 + bits n x

bits-low : (n x : ℕ) → n ≤ x → bits n x ≡ n
unfolding bits
bits-low zero x h = refl
bits-low (suc n) x h = rw (lt-ltb n x h) (omega (arith, bits-low n x (omega arith)))

bits-all : (n x : ℕ) → x ≤ n → bits n x ≡ x
unfolding bits
bits-all zero x h = omega arith
bits-all (suc n) x h = ⊎_elim
    (λ e. bits-low (suc n) x (omega arith) ∙ sym e)
    (λ l. rw (le-ltb n x (omega arith)) (omega (arith, bits-all n x (omega arith))))
    (eq-or-lt_of_le h)

-- for each number below n, how many segments have a larger one
layers : (PlacedSegment → ℕ) → ℕ → List PlacedSegment → ℕ
layers g zero l = 0
layers g (suc n) l = how_many (λ s. ltb n (g s)) l + layers g n l

count-total : (f : PlacedSegment → Bool) (l : List PlacedSegment) → how_many f l ≡ sum_by (λ s. cond (f s) 1 0) l
unfolding how_many sum
count-total f [] = refl
count-total f (s ∷ l) = omega (arith, count-total f l)

total-none : (l : List PlacedSegment) → sum_by (λ s. 0) l ≡ 0
unfolding sum
total-none [] = refl
total-none (s ∷ l) = omega (arith, total-none l)

layers-total : (g : PlacedSegment → ℕ) (n : ℕ) (l : List PlacedSegment) → sum_by (λ s. bits n (g s)) l ≡ layers g n l
unfolding bits layers
layers-total g zero l = total-none l
layers-total g (suc n) l =
    total-add (λ s. cond (ltb n (g s)) 1 0) (λ s. bits n (g s)) l
    ∙ ap (λ (x : ℕ). x + sum_by (λ s. bits n (g s)) l) (sym (count-total (λ s. ltb n (g s)) l))
    ∙ ap (λ (x : ℕ). how_many (λ s. ltb n (g s)) l + x) (layers-total g n l)

layers-same : (g : PlacedSegment → ℕ) (n : ℕ) {l m : List PlacedSegment} → Same l m → layers g n l ≡ layers g n m
unfolding layers
layers-same g zero h = refl
layers-same g (suc n) h = omega (arith, h.each (λ s. ltb n (g s)), layers-same g n h)

-- The total is that of the layers: how many segments have a number above 0, above 1, and so on. Each layer is a count, and
-- counts do not depend on the order.
total-same : (g : PlacedSegment → ℕ) (n : ℕ) → ((s : PlacedSegment) → g s ≤ n) → {l m : List PlacedSegment} → Same l m → sum_by g l ≡ sum_by g m
total-same g n low {l} {m} h =
    sym (total-alike (λ s. bits n (g s)) g (λ s. bits-all n (g s) (low s)) l)
    ∙ layers-total g n l
    ∙ layers-same g n h
    ∙ sym (layers-total g n m)
    ∙ total-alike (λ s. bits n (g s)) g (λ s. bits-all n (g s) (low s)) m

-- ---- pairs

with-count : (s : PlacedSegment) (l : List PlacedSegment) → crossings_with s l ≡ how_many (cross s) l
unfolding crossings_with how_many
with-count s [] = refl
with-count s (t ∷ l) = omega (arith, with-count s l)

with-same : (s : PlacedSegment) {l m : List PlacedSegment} → Same l m → crossings_with s l ≡ crossings_with s m
with-same s {l} {m} h = with-count s l ∙ h.each (cross s) ∙ sym (with-count s m)

-- of those that cross s, each counts one
with-total : (s : PlacedSegment) (l : List PlacedSegment) → sum_by (λ t. cond (cross t s) 1 0) l ≡ crossings_with s l
unfolding crossings_with sum
with-total s [] = refl
with-total s (t ∷ l) = omega (arith, with-total s l, ap {B = ℕ} (λ (b : Bool). cond b 1 0) (cross-swap t s))

with-self : (s : PlacedSegment) (l : List PlacedSegment) → crossings_with s (s ∷ l) ≡ crossings_with s l
unfolding crossings_with
with-self s l = omega (arith, ap {B = ℕ} (λ (b : Bool). cond b 1 0) (cross-shared s s refl refl))

with-more : (t s : PlacedSegment) (l : List PlacedSegment) → crossings_with t (s ∷ l) ≡ cond (cross t s) 1 0 + crossings_with t l
unfolding crossings_with
with-more t s l = refl

-- Each pair is counted at both of its segments: the first segment of the list crosses as many of the others as cross it, and none
-- crosses itself.
pairs-twice : (l : List PlacedSegment) → sum_by (λ s. crossings_with s l) l ≡ crossing_pairs l + crossing_pairs l
unfolding crossing_pairs sum
pairs-twice [] = refl
pairs-twice (s ∷ l) =
    omega (
      arith,
      with-self s l,
      pairs-twice l,
      total-alike (λ t. crossings_with t (s ∷ l)) (λ t. cond (cross t s) 1 0 + crossings_with t l) (λ t. with-more t s l) l,
      total-add (λ t. cond (cross t s) 1 0) (λ t. crossings_with t l) l,
      with-total s l,
    )

-- The pair count does not depend on the order of the list: twice it is a total over the segments of counts, and neither depends on it.
pub pairs-same : {l m : List PlacedSegment} → Same l m → crossing_pairs l ≡ crossing_pairs m
pairs-same {l} {m} h =
    omega (
      arith,
      pairs-twice l,
      pairs-twice m,
      total-alike (λ s. crossings_with s l) (λ s. crossings_with s m) (λ s. with-same s h) l,
      total-same (λ s. crossings_with s m) (length m) (λ s. with-most s m) h,
    )

-- ---- two parts

pub count-append : (f : PlacedSegment → Bool) (l m : List PlacedSegment) → how_many f (l ++ m) ≡ how_many f l + how_many f m
unfolding how_many
count-append f [] m = omega arith
count-append f (s ∷ l) m = omega (arith, count-append f l m)
