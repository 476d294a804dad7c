-- Crossings of placed segments: of two, and how many there can be.
use mathlib.Core.Path.{◌≡◌, refl, sym, ap, ◌∙◌}
use mathlib.Core.Bool.{Bool, true, false, cond, ◌&&◌, ◌||◌}
use mathlib.Core.List.{List, [], ◌∷◌, map}
use Prim.Native.Nat.{ℕ, suc, ◌+◌, ◌*◌, ◌≤◌, ◌<◌}
use native.Mathlib.Nat.{mul-le-mul_left}
use native.Mathlib.Omega.{arith}
use borrow.Author.Tests.{ne_eqb, eq-eqb, eqb-true, eqb-false, lt-ltb, le-ltb}
use lib.Dec.{ltb, eqb}
use lib.ListN.{length, length-map}
use Rattle.points.specs.Points.{Segment}
use Rattle.crossings.specs.Crossings.{PlacedSegment, placed, cross, crossings_with, crossing_pairs, crossings}
use Rattle.crossings.specs.Placing.{segment_limit}

-- Two segments, by their numbers: none of another row crosses; of one row, the one that starts left has to end right.
module _ (s t : PlacedSegment) where
  pub cross-apart : (s.row ≡ t.row → ⊥) → false ≡ cross s t
  cross-apart h = simp (ne_eqb _ _ h)

  pub cross-left : s.row ≡ t.row → s.upper < t.upper → ltb t.lower s.lower ≡ cross s t
  cross-left e h = simp (eq-eqb _ _ e, lt-ltb _ _ h, le-ltb t.upper s.upper (omega arith)) (go (ltb t.lower s.lower))
    where
      go : (b : Bool) → b ≡ (b || false)
      go true = refl
      go false = refl

  pub cross-shared : s.row ≡ t.row → s.upper ≡ t.upper → false ≡ cross s t
  cross-shared e h = simp (eq-eqb _ _ e, le-ltb s.upper t.upper (omega arith), le-ltb t.upper s.upper (omega arith))

-- ---- whichever of two comes first

eqb_swap : (a b : ℕ) → eqb a b ≡ eqb b a
eqb_swap a b = go (eqb a b) refl
  where
    go : (t : Bool) → eqb a b ≡ t → t ≡ eqb b a
    go true e = sym (eq-eqb b a (sym (eqb-true a b e)))
    go false e = sym (ne_eqb b a (λ q. eqb-false a b e (sym q)))

either-swap : (a b : Bool) → (a || b) ≡ (b || a)
either-swap true true = refl
either-swap true false = refl
either-swap false true = refl
either-swap false false = refl

pub cross-swap : (s t : PlacedSegment) → cross s t ≡ cross t s
cross-swap s t =
    let left : Bool = ltb s.upper t.upper && ltb t.lower s.lower in
    let right : Bool = ltb t.upper s.upper && ltb s.lower t.lower in
    ap (λ (b : Bool). b && (left || right)) (eqb_swap s.row t.row) ∙ ap (λ (b : Bool). eqb t.row s.row && b) (either-swap left right)

-- ---- how many there can be

-- A segment crosses no more of the others than there are.
pub with-most : (s : PlacedSegment) (l : List PlacedSegment) → crossings_with s l ≤ length l
unfolding crossings_with
with-most s [] = omega arith
with-most s (t ∷ l) = go (cross s t) (with-most s l)
  where
    go : (b : Bool) → crossings_with s l ≤ length l → cond b 1 0 + crossings_with s l ≤ suc (length l)
    go true h = omega arith
    go false h = omega arith

-- So twice the crossings of S segments are at most S times S: the first has fewer than S, and the others by the same rule.
pub pairs-most : (l : List PlacedSegment) → 2 * crossing_pairs l ≤ length l * length l
unfolding crossing_pairs
pairs-most [] = omega arith
pairs-most (s ∷ l) = omega (arith, with-most s l, pairs-most l, square (length l))
  where
    square : (n : ℕ) → suc n * suc n ≡ n * n + n + n + 1
    square n = omega arith

pub crossings-most : (ys : List ℕ) (segs : List Segment) (order : List (List ℕ)) → 2 * crossings ys segs order ≤ length segs * length segs
unfolding crossings
crossings-most ys segs order = simp length-map at (pairs-most (map (placed ys order) segs))

-- so that the count fits a word
pub pairs-fit : (l : List PlacedSegment) → length l < segment_limit → crossing_pairs l < segment_limit * segment_limit
pairs-fit l h = omega (arith, pairs-most l, mul-le-mul_left {m = length l} {n = segment_limit} (length l) (omega arith))
