-- The count point by point is the count by insertion, and so the count of pairs.
use mathlib.Core.Path.{◌≡◌, refl, sym, ap, ◌∙◌}
use mathlib.Core.Bool.{Bool, cond, ◌&&◌}
use mathlib.Core.List.{List, [], ◌∷◌, ◌++◌, map}
use Prim.Native.Nat.{ℕ, zero, suc, ◌+◌, ◌*◌, ◌≤◌, ◌<◌}
use native.Mathlib.Numerals.{add-one}
use native.Mathlib.Omega.{arith}
use borrow.Author.Tests.{lt-ltb, le-ltb}
use lib.Dec.{ltb}
use lib.ListN.{length, drop, set, replicate, length-set, length-map, length-append, length-replicate, drop_of_length-le}
use lib.Seq.{drop-cons}
use Rattle.graph.specs.Rows.{at}
use Rattle.crossings.specs.Crossings.{PlacedSegment, crossing_pairs}
use Rattle.buffers.specs.Lists.{Below}
use Rattle.crossings.specs.Tally.{all_counted, right_of, right_of_all, raised, block_size, Blocked, NoneBehind}
use Rattle.crossings.specs.Between.{lows, segment_to, placed_from, groups, grouped_count, AllBelow, none_below, one_below, CrossingsOf}
use Rattle.crossings.specs.Placing.{segment_limit}
use Rattle.crossings.proofs.CrossingsLaws.{pairs-fit}
use Rattle.crossings.proofs.InsertionLaws.{left_crossings, inserted, After, none_after, one-after, Rightward, none-rightward, one-rightward, inserted-pairs}
use Rattle.crossings.proofs.TallyLaws.{right-raised, right-narrow, right_zero, range-zero, blocked-zero}
use Rattle.crossings.proofs.BehindLaws.{behind-zero}
use Rattle.crossings.proofs.CountListLaws.{below-first, below_rest}
use Rattle.crossings.proofs.RaiseLaws.{length-raised, all-raised}

-- point by point: its segments are counted against what is counted in, and then counted in
unfoldable pub swept : List ℕ → List (List ℕ) → ℕ
swept counts [] = 0
swept counts (ls ∷ gs) = right_of_all counts ls + swept (raised ls counts) gs

-- the counts are those of the segments seen, for a segment that starts at position i
record Here (r i : ℕ) (counts : List ℕ) (seen : List PlacedSegment) : Type 0 where
  here : (l : ℕ) → left_crossings (segment_to r i l) seen ≡ right_of counts l

-- and for all that start at i or right of it
record Onward (r i : ℕ) (counts : List ℕ) (seen : List PlacedSegment) : Type 0 where
  onward : (j l : ℕ) → i ≤ j → left_crossings (segment_to r j l) seen ≡ right_of counts l

-- a segment of the same upper end changes nothing for its fellows
here-more : {r i : ℕ} {counts : List ℕ} {seen : List PlacedSegment} (m : ℕ) → Here r i counts seen → Here r i counts (segment_to r i m ∷ seen)
unfolding left_crossings
here-more {r} {i} {counts} {seen} m h = record {
  here = λ l. omega (arith, h.here l, ap {B = ℕ} (λ (b : Bool). cond (b && ltb l m) 1 0) (le-ltb i i (omega arith)));
}

-- for those right of it one more is counted at its lower end
onward-more : {r i : ℕ} {counts : List ℕ} {seen : List PlacedSegment} (m : ℕ) → m < length counts → Onward r (suc i) counts seen
    → Onward r (suc i) (set counts m (at counts m + 1)) (segment_to r i m ∷ seen)
unfolding left_crossings
onward-more {r} {i} {counts} {seen} m a h = record {
  onward = λ j l b. omega (arith, h.onward j l b, right-raised counts m l a, ap {B = ℕ} (λ (t : Bool). cond (t && ltb l m) 1 0) (lt-ltb i j (omega arith)));
}

-- The segments of one point, then the rest. `counts` stays while they are counted, and `counts'` takes them in.
point-inserted : (r i n : ℕ) (counts : List ℕ) (gs : List (List ℕ))
    → ((counts' : List ℕ) (seen : List PlacedSegment) → length counts' ≡ n → Onward r (suc i) counts' seen → inserted seen (placed_from r (suc i) gs) ≡ swept counts' gs)
    → (counts' : List ℕ) (seen : List PlacedSegment) → length counts' ≡ n → (ls : List ℕ) → Below n ls → Here r i counts seen → Onward r (suc i) counts' seen
    → inserted seen (map (segment_to r i) ls ++ placed_from r (suc i) gs) ≡ right_of_all counts ls + swept (raised ls counts') gs
unfolding inserted right_of_all raised
point-inserted r i n counts gs rest counts' seen e [] low h o = omega (arith, rest counts' seen e o)
point-inserted r i n counts gs rest counts' seen e (l ∷ ls) low h o =
    omega (
      arith,
      h.here l,
      point-inserted r i n counts gs rest (set counts' l (at counts' l + 1)) (segment_to r i l ∷ seen)
          (length-set counts' l (at counts' l + 1) ∙ e) ls (below_rest low) (here-more l h) (onward-more l (omega (arith, below-first low)) o),
    )

-- Counting point by point gives what insertion gives: the segments of one point do not count against each other, so that they may be
-- counted in after all of them have been counted.
swept-inserted : (r n i : ℕ) (counts : List ℕ) (seen : List PlacedSegment) → length counts ≡ n → {gs : List (List ℕ)} → AllBelow n gs → Onward r i counts seen
    → inserted seen (placed_from r i gs) ≡ swept counts gs
unfolding placed_from inserted swept
swept-inserted r n i counts seen e none_below o = refl
swept-inserted r n i counts seen e (one_below {ls} {gs} low rest) o =
    point-inserted r i n counts gs (λ counts' seen' e' o'. swept-inserted r n (suc i) counts' seen' e' rest o') counts seen e ls low
    (record { here = λ l. o.onward i l (omega arith) }) (record { onward = λ j l b. o.onward j l (omega arith) })

-- ---- the segments stand from left to right

after-point : (s : PlacedSegment) (r j : ℕ) → s.row ≡ r → s.upper ≤ j → (ls : List ℕ) {rest : List PlacedSegment} → After s rest → After s (map (segment_to r j) ls ++ rest)
after-point s r j e h [] a = a
after-point s r j e h (l ∷ ls) a = one-after e h (after-point s r j e h ls a)

after-placed : (s : PlacedSegment) (r j : ℕ) → s.row ≡ r → s.upper ≤ j → (gs : List (List ℕ)) → After s (placed_from r j gs)
unfolding placed_from
after-placed s r j e h [] = none_after
after-placed s r j e h (ls ∷ gs) = after-point s r j e h ls (after-placed s r (suc j) e (omega arith) gs)

rightward-point : (r i : ℕ) (ls : List ℕ) (gs : List (List ℕ)) → Rightward (placed_from r (suc i) gs) → Rightward (map (segment_to r i) ls ++ placed_from r (suc i) gs)
rightward-point r i [] gs h = h
rightward-point r i (l ∷ ls) gs h =
    one-rightward (after-point (segment_to r i l) r i refl (omega arith) ls (after-placed (segment_to r i l) r (suc i) refl (omega arith) gs)) (rightward-point r i ls gs h)

pub rightward-placed : (r i : ℕ) (gs : List (List ℕ)) → Rightward (placed_from r i gs)
unfolding placed_from
rightward-placed r i [] = none-rightward
rightward-placed r i (ls ∷ gs) = rightward-point r i ls gs (rightward-placed r (suc i) gs)

-- So the count point by point is the number of pairs that cross.
pub swept-pairs : (n r : ℕ) {gs : List (List ℕ)} → AllBelow n gs → swept (replicate n 0) gs ≡ crossing_pairs (placed_from r 0 gs)
unfolding left_crossings
swept-pairs n r {gs} low =
    sym (swept-inserted r n 0 (replicate n 0) [] (length-replicate {A = ℕ} n 0) low (record { onward = λ j l b. sym (right_zero n l) }))
    ∙ inserted-pairs (rightward-placed r 0 gs)

-- ---- the segments of a single point do not cross, nor those to a single point

all-still : (counts ls : List ℕ) → ((l : ℕ) → right_of counts l ≡ 0) → right_of_all counts ls ≡ 0
unfolding right_of_all
all-still counts [] h = refl
all-still counts (l ∷ ls) h = omega (arith, h l, all-still counts ls h)

swept-one : (n : ℕ) {gs : List (List ℕ)} → AllBelow n gs → length gs < 2 → swept (replicate n 0) gs ≡ 0
unfolding swept
swept-one n none_below h = refl
swept-one n (one_below {ls} a none_below) h = omega (arith, all-still (replicate n 0) ls (right_zero n))
swept-one n (one_below a (one_below b rest)) h = absurd (omega arith)

pub one-crossings : (n : ℕ) {gs : List (List ℕ)} → AllBelow n gs → length gs < 2 → CrossingsOf 0 gs
one-crossings n low few = record { counted = λ r. sym (swept-one n low few) ∙ swept-pairs n r low }

-- there is nothing right of a single position
swept-narrow : (gs : List (List ℕ)) (counts : List ℕ) → length counts < 2 → swept counts gs ≡ 0
unfolding swept
swept-narrow [] counts h = refl
swept-narrow (ls ∷ gs) counts h =
    omega (arith, all-still counts ls (right-narrow counts h), swept-narrow gs (raised ls counts) (omega (arith, length-raised ls counts)))

pub narrow-crossings : (n : ℕ) {gs : List (List ℕ)} → AllBelow n gs → n < 2 → CrossingsOf 0 gs
narrow-crossings n {gs} low few =
    record { counted = λ r. sym (swept-narrow gs (replicate n 0) (omega (arith, length-replicate {A = ℕ} n 0))) ∙ swept-pairs n r low }

pub groups-length : (lower pos next head points : List ℕ) → length (groups lower pos next head points) ≡ length points
unfolding groups
groups-length lower pos next head points = length-map points (λ p. lows lower pos next (at head p))

-- ---- how many there are

pub placed-length : (r i : ℕ) (gs : List (List ℕ)) → length (placed_from r i gs) ≡ grouped_count gs
unfolding placed_from grouped_count
placed-length r i [] = refl
placed-length r i (ls ∷ gs) =
    omega (arith, length-append (map (segment_to r i) ls) (placed_from r (suc i) gs), length-map ls (segment_to r i), placed-length r (suc i) gs)

swept-most : (n : ℕ) {gs : List (List ℕ)} → AllBelow n gs → grouped_count gs < segment_limit → swept (replicate n 0) gs < segment_limit * segment_limit
swept-most n {gs} low h = omega (arith, swept-pairs n 0 low, pairs-fit (placed_from 0 0 gs) (omega (arith, placed-length 0 0 gs)))

-- ---- the loop over the points

module _ (lower pos next head : List ℕ) where
  groups_none : groups lower pos next head [] ≡ []
  unfolding groups
  groups_none = refl

  groups-more : (points : List ℕ) (i : ℕ) → i < length points
      → groups lower pos next head (drop i points) ≡ lows lower pos next (at head (at points i)) ∷ groups lower pos next head (drop (i + 1) points)
  unfolding groups
  groups-more points i h = rw (drop-cons points i 0 h, add-one i)

low-at : (lower pos next head : List ℕ) {n : ℕ} (points : List ℕ) → AllBelow n (groups lower pos next head points)
    → (i : ℕ) → i < length points → Below n (lows lower pos next (at head (at points i)))
unfolding groups
low-at lower pos next head [] low i h = absurd (omega arith)
low-at lower pos next head (p ∷ points) (one_below a b) zero h = a
low-at lower pos next head (p ∷ points) (one_below a b) (suc i) h = low-at lower pos next head points b i (omega arith)

-- the first i points are counted and counted in
pub record Sweeping (lower pos next head points : List ℕ) (n : ℕ) (counts blocks : List ℕ) (last sum i : ℕ) : Type 0 where
  pub within : i ≤ length points
  pub low : AllBelow n (groups lower pos next head points)
  pub kept : length counts ≡ n
  pub held : Blocked counts blocks
  pub behind : NoneBehind counts last
  pub few : all_counted counts + grouped_count (groups lower pos next head (drop i points)) ≡ grouped_count (groups lower pos next head points)
  pub so_far : sum + swept counts (groups lower pos next head (drop i points)) ≡ swept (replicate n 0) (groups lower pos next head points)

sweeping-none : (lower pos next head points : List ℕ) (n m : ℕ) → n ≤ block_size * m → AllBelow n (groups lower pos next head points)
    → Sweeping lower pos next head points n (replicate n 0) (replicate m 0) 0 0 0
sweeping-none lower pos next head points n m e low = record {
  within = omega arith;
  low = low;
  kept = length-replicate {A = ℕ} n 0;
  held = blocked-zero n m e;
  behind = behind-zero n;
  few = omega (arith, range-zero n 0 (length {A = ℕ} (replicate n 0)));
  so_far = omega arith;
}

-- two slices cleared
pub sweeping-start : (lower pos next head points : List ℕ) (n m : ℕ) {counts blocks : List ℕ} → AllBelow n (groups lower pos next head points)
    → n ≤ block_size * m → counts ≡ replicate n 0 → blocks ≡ replicate m 0 → Sweeping lower pos next head points (length counts) counts blocks 0 0 0
sweeping-start lower pos next head points n m low e p q =
    rw (q, p, length-replicate {A = ℕ} n 0) (sweeping-none lower pos next head points n m e low)

size-more : {ls : List ℕ} {gs hs : List (List ℕ)} → gs ≡ ls ∷ hs → grouped_count gs ≡ length ls + grouped_count hs
unfolding grouped_count
size-more e = ap grouped_count e

swept-more : (counts : List ℕ) {ls : List ℕ} {gs hs : List (List ℕ)} → gs ≡ ls ∷ hs → swept counts gs ≡ right_of_all counts ls + swept (raised ls counts) hs
unfolding swept
swept-more counts e = ap (swept counts) e

swept_none : (counts : List ℕ) {gs : List (List ℕ)} → gs ≡ [] → swept counts gs ≡ 0
unfolding swept
swept_none counts e = ap (swept counts) e

module _ {lower pos next head points counts blocks : List ℕ} {n last sum i : ℕ} (c : Sweeping lower pos next head points n counts blocks last sum i) where
  -- no more are counted in than there are segments
  pub sweeping-few : grouped_count (groups lower pos next head points) < segment_limit → all_counted counts < segment_limit
  sweeping-few h = omega (arith, c.few)

  -- the list of point i is low
  pub sweeping-low : i < length points → Below (length counts) (lows lower pos next (at head (at points i)))
  sweeping-low h = rw c.kept (low-at lower pos next head points c.low i h)

  module _ (h : i < length points) where
    pub sweeping-room : grouped_count (groups lower pos next head points) < segment_limit → {r : ℕ} → r ≡ right_of_all counts (lows lower pos next (at head (at points i)))
        → sum + r < segment_limit * segment_limit
    sweeping-room few q =
        omega (arith, c.so_far, q, swept-more counts (groups-more lower pos next head points i h), swept-most n c.low few)

    pub sweeping-more : {r far : ℕ} {counts' blocks' : List ℕ} → r ≡ right_of_all counts (lows lower pos next (at head (at points i)))
        → counts' ≡ raised (lows lower pos next (at head (at points i))) counts → Blocked counts' blocks' → NoneBehind counts' far
        → Sweeping lower pos next head points n counts' blocks' far (sum + r) (i + 1)
    sweeping-more {counts' = counts'} q w b f = record {
      within = omega arith;
      low = c.low;
      kept = ap length w ∙ length-raised (lows lower pos next (at head (at points i))) counts ∙ c.kept;
      held = b;
      behind = f;
      few = omega (arith, c.few, ap all_counted w, all-raised n (lows lower pos next (at head (at points i))) (low-at lower pos next head points c.low i h) counts c.kept, size-more (groups-more lower pos next head points i h));
      so_far = omega (
        arith,
        c.so_far,
        q,
        swept-more counts (groups-more lower pos next head points i h),
        ap (λ (x : List ℕ). swept x (groups lower pos next head (drop (i + 1) points))) w,
      );
    }

  pub sweeping-end : length points ≤ i → CrossingsOf sum (groups lower pos next head points)
  sweeping-end h = record {
    counted = λ r. omega (
      arith,
      c.so_far,
      swept-pairs n r c.low,
      swept_none counts (ap (groups lower pos next head) (drop_of_length-le points {i = i} h) ∙ groups_none lower pos next head),
    );
  }
