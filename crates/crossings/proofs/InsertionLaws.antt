-- The count by insertion is the count of pairs.
use mathlib.Core.Path.{◌≡◌, refl, ap, ◌∙◌}
use mathlib.Core.Bool.{Bool, cond, ◌&&◌}
use mathlib.Core.List.{List, [], ◌∷◌}
use mathlib.Core.Logic.{⊎_elim}
use Prim.Native.Nat.{ℕ, ◌+◌, ◌≤◌}
use native.Mathlib.Nat.{eq-or-lt_of_le}
use native.Mathlib.Omega.{arith}
use borrow.Author.Tests.{lt-ltb, le-ltb}
use lib.Dec.{ltb}
use Rattle.buffers.specs.Lists.{sum}
use Rattle.crossings.specs.Crossings.{PlacedSegment, cross, crossings_with, crossing_pairs}
use Rattle.crossings.proofs.CrossingsLaws.{cross-left, cross-shared}
use Rattle.crossings.proofs.SameLaws.{sum_by}

-- a segment t that starts left of s and ends right of it
abbrev over_left : PlacedSegment → PlacedSegment → Bool
over_left s t = ltb t.upper s.upper && ltb s.lower t.lower

-- how many of the segments seen do
unfoldable pub left_crossings : PlacedSegment → List PlacedSegment → ℕ
left_crossings s [] = 0
left_crossings s (t ∷ seen) = cond (over_left s t) 1 0 + left_crossings s seen

-- each segment adds those of the ones seen before it that start left of it and end right of it, and is seen from then on
unfoldable pub inserted : List PlacedSegment → List PlacedSegment → ℕ
inserted seen [] = 0
inserted seen (s ∷ l) = left_crossings s seen + inserted (s ∷ seen) l

-- segments of the row of s, none of which starts left of it
pub data After (s : PlacedSegment) : List PlacedSegment → Type 0 where
  none_after : After s []
  one-after : {t : PlacedSegment} {l : List PlacedSegment} → s.row ≡ t.row → s.upper ≤ t.upper → After s l → After s (t ∷ l)

-- segments of one row from left to right by their upper ends; those of one upper end in any order
pub data Rightward : List PlacedSegment → Type 0 where
  none-rightward : Rightward []
  one-rightward : {s : PlacedSegment} {l : List PlacedSegment} → After s l → Rightward l → Rightward (s ∷ l)

-- s is over a later segment of its row exactly where it crosses it
over-cross : (s t : PlacedSegment) → s.row ≡ t.row → s.upper ≤ t.upper → over_left t s ≡ cross s t
over-cross s t e h = ⊎_elim
    (λ q. ap (λ (b : Bool). b && ltb t.lower s.lower) (le-ltb s.upper t.upper (omega arith)) ∙ cross-shared s t e q)
    (λ l. ap (λ (b : Bool). b && ltb t.lower s.lower) (lt-ltb s.upper t.upper l) ∙ cross-left s t e l)
    (eq-or-lt_of_le h)

-- one segment more is seen: of those after it, it is over those that it crosses
left-more : (s : PlacedSegment) (seen : List PlacedSegment) {l : List PlacedSegment} → After s l
    → sum_by (λ t. left_crossings t (s ∷ seen)) l ≡ crossings_with s l + sum_by (λ t. left_crossings t seen) l
unfolding sum crossings_with left_crossings
left-more s seen none_after = refl
left-more s seen (one-after {t} {l} e h rest) =
    omega (arith, left-more s seen rest, ap {B = ℕ} (λ (b : Bool). cond b 1 0) (over-cross s t e h))

-- What insertion adds from here on is the pairs among what is left, and for each segment left those seen already that are over it. A
-- segment that goes over to those seen takes its pairs with it: the later ones that it is over.
inserted-from : (seen : List PlacedSegment) {l : List PlacedSegment} → Rightward l → inserted seen l ≡ crossing_pairs l + sum_by (λ t. left_crossings t seen) l
unfolding inserted crossing_pairs sum
inserted-from seen none-rightward = refl
inserted-from seen (one-rightward {s} {l} after rest) = omega (arith, inserted-from (s ∷ seen) rest, left-more s seen after)

left-none : (l : List PlacedSegment) → sum_by (λ t. left_crossings t []) l ≡ 0
unfolding sum left_crossings
left-none [] = refl
left-none (s ∷ l) = omega (arith, left-none l)

pub inserted-pairs : {l : List PlacedSegment} → Rightward l → inserted [] l ≡ crossing_pairs l
inserted-pairs {l} h = omega (arith, inserted-from [] h, left-none l)
