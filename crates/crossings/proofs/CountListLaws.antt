-- The lower ends of a list of segments, one after the other, and the loop that counts right of each.
use mathlib.Core.Path.{◌≡◌, ap, subst}
use mathlib.Core.List.{List, [], ◌∷◌, map}
use Prim.Native.Nat.{ℕ, suc, ◌+◌, ◌*◌, ◌-◌, ◌≤◌, ◌<◌, suc-le-suc}
use native.Mathlib.Nat.{mul-le-mul_left, zero-lt-suc}
use native.Mathlib.Omega.{arith}
use lib.ListN.{length, length-map}
use Rattle.graph.specs.Rows.{at}
use Rattle.buffers.specs.Lists.{Below}
use Rattle.points.proofs.ListLaws.{listed-length, listed-turn, listed-end}
use Rattle.crossings.specs.Tally.{all_counted, right_of, right_of_all}
use Rattle.crossings.specs.Between.{EndsPlaced, low_of, lows}
use Rattle.crossings.specs.Placing.{segment_limit}
use Rattle.crossings.proofs.TallyLaws.{right-most}

-- a list of small numbers: its first, and the others
pub below-first : {n l : ℕ} {ls : List ℕ} → Below n (l ∷ ls) → l < n
below-first {ls = ls} b = b.below 0 (zero-lt-suc (length ls))

pub below_rest : {n l : ℕ} {ls : List ℕ} → Below n (l ∷ ls) → Below n ls
below_rest b = record { below = λ i h. b.below (suc i) (suc-le-suc h) }

module _ {lower pos next : List ℕ} (e : EndsPlaced lower pos next) where
  pub lows-more : (h : ℕ) → 0 < h → h ≤ length next → lows lower pos next h ≡ low_of lower pos (h - 1) ∷ lows lower pos next (at next (h - 1))
  unfolding lows
  lows-more h a l = ap (map (low_of lower pos)) (listed-turn e.falls h a l)

  -- a list of low ends: its first, and the others
  pub low_first : {n h : ℕ} → 0 < h → h ≤ length next → Below n (lows lower pos next h) → low_of lower pos (h - 1) < n
  low_first {n} {h} a l low = below-first (subst (Below n) (lows-more h a l) low)

  pub low-rest : {n h : ℕ} → 0 < h → h ≤ length next → Below n (lows lower pos next h) → Below n (lows lower pos next (at next (h - 1)))
  low-rest {n} {h} a l low = below_rest (subst (Below n) (lows-more h a l) low)

pub lows-none : (lower pos next : List ℕ) (h : ℕ) → h ≤ 0 → lows lower pos next h ≡ []
unfolding lows
lows-none lower pos next h l = ap (map (low_of lower pos)) (listed-end next h l)

lows-length : (lower pos next : List ℕ) (h : ℕ) → length (lows lower pos next h) ≤ h
unfolding lows
lows-length lower pos next h = rw length-map (listed-length next h)

-- the segment that a list starts with
pub last-in : {x n : ℕ} → x ≤ n → 0 < x → x - 1 < n
last-in a b = omega arith

pub few-list : {h : ℕ} {lower pos next : List ℕ} → EndsPlaced lower pos next → h ≤ length next → h < segment_limit
few-list e l = omega (arith, e.few)

-- ---- the loop that counts right of each segment of a list

all_more : (counts : List ℕ) {l : ℕ} {ls ms : List ℕ} → ls ≡ l ∷ ms → right_of_all counts ls ≡ right_of counts l + right_of_all counts ms
unfolding right_of_all
all_more counts e = ap (right_of_all counts) e

all_none : (counts : List ℕ) {ls : List ℕ} → ls ≡ [] → right_of_all counts ls ≡ 0
unfolding right_of_all
all_none counts e = ap (right_of_all counts) e

all_most : (counts ls : List ℕ) → right_of_all counts ls ≤ length ls * all_counted counts
unfolding right_of_all
all_most counts [] = omega arith
all_most counts (l ∷ ls) = omega (arith, right-most counts l, all_most counts ls, one_more (length ls) (all_counted counts))
  where
    one_more : (n w : ℕ) → suc n * w ≡ w + n * w
    one_more n w = omega arith

pub record CountingList (counts lower pos next : List ℕ) (h sum x : ℕ) : Type 0 where
  pub within : x ≤ length next
  pub so_far : sum + right_of_all counts (lows lower pos next x) ≡ right_of_all counts (lows lower pos next h)

pub list-start : (counts lower pos : List ℕ) {next : List ℕ} {h : ℕ} → h ≤ length next → CountingList counts lower pos next h 0 h
list-start counts lower pos l = record { within = l; so_far = omega arith }

module _ {counts lower pos next : List ℕ} {h sum x : ℕ} (e : EndsPlaced lower pos next) (c : CountingList counts lower pos next h sum x) where
  pub list-more : 0 < x → {r : ℕ} → r ≡ right_of counts (low_of lower pos (x - 1)) → CountingList counts lower pos next h (sum + r) (at next (x - 1))
  list-more a q = record {
    within = omega (arith, c.within, e.falls.falls (x - 1) (omega (arith, c.within)));
    so_far = omega (arith, q, c.so_far, all_more counts (lows-more e x a c.within));
  }

  pub list-end : x ≤ 0 → sum ≡ right_of_all counts (lows lower pos next h)
  list-end a =
      omega (arith, c.so_far, all_none counts {ls = lows lower pos next x} (lows-none lower pos next x a))

-- the count stays small
pub list-room : {counts lower pos next : List ℕ} {h sum x : ℕ} → CountingList counts lower pos next h sum x
    → h < segment_limit → all_counted counts < segment_limit → sum ≤ segment_limit * segment_limit
list-room {counts} {lower} {pos} {next} {h} c few small =
    omega (
      arith,
      c.so_far,
      all_most counts (lows lower pos next h),
      lows-length lower pos next h,
      mul-le-mul_left {m = all_counted counts} {n = segment_limit} (length (lows lower pos next h)) (omega arith),
    )
