-- What a row's count asks for, of a chart in flat lists; and the rows added up.
use mathlib.Core.Path.{◌≡◌, refl, sym, ap, subst, ◌∙◌}
use mathlib.Core.Bool.{Bool, true, false, cond}
use mathlib.Core.List.{List, [], ◌∷◌, map}
use Prim.Native.Nat.{ℕ, zero, suc, ◌+◌, ◌*◌, ◌-◌, ◌/◌, ◌≤◌, ◌<◌}
use native.Mathlib.Nat.{not-suc-le-zero, le_of_suc-le-suc}
use native.Mathlib.Omega.{arith}
use borrow.Author.Tests.{eqb-true}
use lib.Dec.{eqb}
use lib.ListN.{length, take, drop, length-drop}
use lib.Seq.{length-take-le}
use Rattle.graph.specs.Rows.{at}
use Rattle.graph.specs.Search.{run}
use Rattle.buffers.specs.Lists.{sum, Below}
use Rattle.buffers.proofs.SumLaws.{sum-last}
use Rattle.points.specs.Lists.{segments_at, Linked}
use Rattle.points.specs.Positions.{row_at}
use Rattle.crossings.specs.Crossings.{PlacedSegment, crossing_pairs, in_row}
use Rattle.crossings.specs.Tally.{block_size}
use Rattle.crossings.specs.Between.{low_of, lows, placed_from, groups, grouped_count, EndsPlaced, AllBelow, none_below, one_below, Pointed, CrossingsOf}
use Rattle.crossings.specs.Placing.{segment_limit, placed_at, placed_by, ChartLists, Countable, RowCrossings, ChartCrossings}
use Rattle.crossings.proofs.CrossingsLaws.{pairs-fit}
use Rattle.crossings.proofs.PlacingLaws.{length-placed_by, placed-at}
use Rattle.crossings.proofs.RowSumLaws.{pairs-by-row}
use Rattle.crossings.proofs.SameLaws.{how_many}
use Rattle.crossings.proofs.SweepLaws.{placed-length, one-crossings, narrow-crossings, groups-length}
use Rattle.crossings.proofs.RowPointsLaws.{row_same, row-pairs}

-- ---- how many segments

count-all : (l : List PlacedSegment) → how_many (λ s. true) l ≡ length l
unfolding how_many
count-all [] = refl
count-all (s ∷ l) = omega (arith, count-all l)

-- no more of some segments are in a row than there are
pub in_row-most : (r : ℕ) (l : List PlacedSegment) → length (in_row r l) ≤ length l
unfolding in_row
in_row-most r [] = omega arith
in_row-most r (s ∷ l) = go (eqb s.row r) (in_row-most r l)
  where
    go : (b : Bool) → length (in_row r l) ≤ length l → length (cond b (s ∷ in_row r l) (in_row r l)) ≤ suc (length l)
    go true h = omega arith
    go false h = omega arith

-- ---- the lower ends of a point's list

below_none : (n : ℕ) → Below n []
below_none n = record { below = λ i h. absurd (not-suc-le-zero h) }

below_more : {n l : ℕ} {ls : List ℕ} → l < n → Below n ls → Below n (l ∷ ls)
below_more {n} {l} {ls} h b = record { below = each }
  where
    each : (i : ℕ) → i < suc (length ls) → at (l ∷ ls) i < n
    each zero k = h
    each (suc i) k = b.below i (le_of_suc-le-suc k)

segments-low : (upper lower pos : List ℕ) (n p k : ℕ) → k ≤ length upper → ((j : ℕ) → j < length upper → at upper j ≡ p → at pos (at lower j) < n)
    → Below n (map (low_of lower pos) (segments_at upper p k))
unfolding segments_at
segments-low upper lower pos n p zero l low = below_none n
segments-low upper lower pos n p (suc k) l low = go (eqb (at upper k) p) refl (segments-low upper lower pos n p k (omega arith) low)
  where
    go : (t : Bool) → eqb (at upper k) p ≡ t → Below n (map (low_of lower pos) (segments_at upper p k))
        → Below n (map (low_of lower pos) (cond t (k ∷ segments_at upper p k) (segments_at upper p k)))
    go true e rest = below_more (low k (omega arith) (eqb-true (at upper k) p e)) rest
    go false e rest = rest

points-low : {upper head next : List ℕ} → Linked upper head next → (lower pos : List ℕ) (n : ℕ) (points : List ℕ)
    → ((i : ℕ) → i < length points → at points i < length head)
    → ((i : ℕ) → i < length points → (j : ℕ) → j < length upper → at upper j ≡ at points i → at pos (at lower j) < n)
    → AllBelow n (groups lower pos next head points)
unfolding groups lows
points-low l lower pos n [] b low = none_below
points-low {upper} {head} {next} l lower pos n (p ∷ points) b low =
    one_below (subst (λ (ks : List ℕ). Below n (map (low_of lower pos) ks)) (sym (l.lists p (b 0 (omega arith))))
    (segments-low upper lower pos n p (length upper) (omega arith) (low 0 (omega arith))))
    (points-low l lower pos n points (λ i h. b (suc i) (omega arith)) (λ i h. low (suc i) (omega arith)))

module _ {upper row order first head next lower pos : List ℕ} (c : ChartLists upper row order first head next lower pos) where
  pub chart-placed : EndsPlaced lower pos next
  chart-placed = record {
    falls = c.linked.falls;
    both = omega (arith, c.both, c.linked.long);
    few = omega (arith, c.few, c.linked.long);
    ends = λ k h. omega (arith, c.lower_in.below k (omega (arith, c.both, c.linked.long)), c.pos_long);
  }

  -- a row is as long as the next starts behind it
  row-long : (r : ℕ) → r + 1 < length first → length (row_at first order r) ≡ at first (r + 1) - at first r
  row-long r h = length-take-le (at first (r + 1) - at first r) (drop (at first r) order) (omega (arith, length-drop (at first r) order, c.inside r h))

  module _ (r : ℕ) (h : r + 2 < length first) where
    heads : (i : ℕ) → i < length (row_at first order r) → at (row_at first order r) i < length head
    heads i a = omega (arith, (c.rows r (omega arith)).below i a, c.heads_long)

    pub row-pointed : Pointed (row_at first order r) head next
    row-pointed =
        record { points_in = heads; heads_in = λ i a. c.linked.heads_in (at (row_at first order r) i) (heads i a) }

    -- a segment of row r ends within the row below
    pub row_low : AllBelow (at first (r + 2) - at first (r + 1)) (groups lower pos next head (row_at first order r))
    row_low =
        let row_of = c.rows r (omega arith) in
        points-low c.linked lower pos (at first (r + 2) - at first (r + 1)) (row_at first order r) heads
        (λ i a j b e.
        let q : at row (at lower j) ≡ r + 1 = omega (arith, c.down j b, ap (at row) e, row_of.stands_in_row i a) in
        let two : r + 1 + 1 ≡ r + 2 = omega arith in
        omega (
          arith,
          (c.rows (r + 1) (omega arith)).none_past (at lower j) (c.lower_in.below j (omega (arith, c.both))) q,
          row-long (r + 1) (omega arith),
          ap (at first) two,
        ))

    pub row-few : grouped_count (groups lower pos next head (row_at first order r)) < segment_limit
    row-few =
        let placed = placed_from r 0 (groups lower pos next head (row_at first order r)) in
        omega (
          arith,
          placed-length r 0 (groups lower pos next head (row_at first order r)),
          count-all placed,
          (row_same lower c.linked c.heads_long c.upper_in (c.rows r (omega arith))).each (λ s. true),
          count-all (in_row r (placed_by upper lower row pos)),
          in_row-most r (placed_by upper lower row pos),
          length-placed_by upper lower row pos,
          c.few,
        )

pub row-counted : {order first head next lower pos : List ℕ} {r x : ℕ} → r + 2 < length first
    → CrossingsOf x (groups lower pos next head (row_at first order r)) → RowCrossings order first head next lower pos r x
row-counted {lower = lower} {r = r} h counted = record { counted = λ upper row c. row-pairs lower c.linked c.heads_long c.upper_in (c.rows r (omega arith)) counted }

-- the numbers that are read off for row r
module _ {order first head next lower pos counts blocks : List ℕ} (u : Countable order first head next lower pos counts blocks) (r : ℕ) (h : r + 2 < length first) where
  pub starts-rise : at first r ≤ at first (r + 1)
  starts-rise = u.lists.rises r (omega arith)

  pub ends-rise : at first (r + 1) ≤ at first (r + 2)
  ends-rise = let e : r + 1 + 1 ≡ r + 2 = omega arith in omega (arith, u.lists.rises (r + 1) (omega arith), ap (at first) e)

  pub ends-inside : at first (r + 1) ≤ length order
  ends-inside = u.lists.inside r (omega arith)

  pub counts-room : at first (r + 2) - at first (r + 1) ≤ length counts
  counts-room = let e : r + 1 + 1 ≡ r + 2 = omega arith in omega (arith, u.wide (r + 1) (omega arith), ap (at first) e)

  pub blocks-room : (at first (r + 2) - at first (r + 1)) / block_size + 1 ≤ length blocks
  blocks-room = omega (arith, counts-room, u.blocks_long)

  -- of the counts and the blocks as many are lent on as this row takes
  pub taken-low : AllBelow (length (take (at first (r + 2) - at first (r + 1)) counts)) (groups lower pos next head (row_at first order r))
  taken-low = rw (length-take-le (at first (r + 2) - at first (r + 1)) counts counts-room) (row_low u.lists r h)

  pub taken-long : length (take (at first (r + 2) - at first (r + 1)) counts) ≤ block_size * length (take ((at first (r + 2) - at first (r + 1)) / block_size + 1) blocks)
  taken-long =
      omega (
        arith,
        length-take-le (at first (r + 2) - at first (r + 1)) counts counts-room,
        length-take-le ((at first (r + 2) - at first (r + 1)) / block_size + 1) blocks blocks-room,
      )

  -- a row of one point
  pub row-single : at first (r + 1) - at first r < 2 → RowCrossings order first head next lower pos r 0
  row-single few =
      row-counted h
      (one-crossings (at first (r + 2) - at first (r + 1)) (row_low u.lists r h)
      (omega (arith, groups-length lower pos next head (row_at first order r), row-long u.lists r (omega arith))))

  -- a row above a single point
  pub row-narrow : at first (r + 2) - at first (r + 1) < 2 → RowCrossings order first head next lower pos r 0
  row-narrow few = row-counted h (narrow-crossings (at first (r + 2) - at first (r + 1)) (row_low u.lists r h) few)

-- counts and blocks of the same lengths serve the next row
pub countable-again : {order first head next lower pos counts blocks counts' blocks' : List ℕ} → Countable order first head next lower pos counts blocks
    → length counts' ≡ length counts → length blocks' ≡ length blocks → Countable order first head next lower pos counts' blocks'
countable-again {counts = counts} {counts' = counts'} u e f = record {
  upper = u.upper;
  row = u.row;
  lists = u.lists;
  wide = λ r h. omega (arith, u.wide r h);
  blocks_long = rw (e, f) u.blocks_long;
}

-- ---- the rows added up

-- the crossings of the first n rows, each with the row below
abbrev row_sums : ℕ → List PlacedSegment → ℕ
row_sums n l = sum (map (λ (r : ℕ). crossing_pairs (in_row r l)) (run 0 n))

sums-more : (n : ℕ) (l : List PlacedSegment) → row_sums (suc n) l ≡ row_sums n l + crossing_pairs (in_row n l)
sums-more n l = let e : 0 + n ≡ n = omega arith in sum-last (λ (r : ℕ). crossing_pairs (in_row r l)) 0 n ∙ ap (λ (r : ℕ). row_sums n l + crossing_pairs (in_row r l)) e

sums-rise : (m n : ℕ) (l : List PlacedSegment) → row_sums m l ≤ row_sums (m + n) l
sums-rise m zero l = let e : m + 0 ≡ m = omega arith in omega (arith, ap (λ (x : ℕ). row_sums x l) e)
sums-rise m (suc n) l =
    let e : m + suc n ≡ suc (m + n) = omega arith in
    omega (arith, ap (λ (x : ℕ). row_sums x l) e, sums-more (m + n) l, sums-rise m n l)

-- no segment starts in the last row
chart-sums : {upper row order first head next lower pos : List ℕ} → ChartLists upper row order first head next lower pos
    → crossing_pairs (placed_by upper lower row pos) ≡ row_sums (length first - 2) (placed_by upper lower row pos)
chart-sums {upper} {row} {first = first} {head = head} {lower = lower} {pos = pos} c =
    pairs-by-row (placed_at upper lower row pos 0) (length first - 2) (placed_by upper lower row pos)
    (λ i h.
    let l : i < length upper = omega (arith, length-placed_by upper lower row pos) in
    let down = c.rows_in (at lower i) (c.lower_in.below i (omega (arith, c.both))) in
    rw (placed-at upper lower row pos i (placed_at upper lower row pos 0) l) (omega (arith, down, c.down i l)))

-- the first r rows are counted
pub record Rowed (order first head next lower pos : List ℕ) (n r : ℕ) : Type 0 where
  pub so_far : (upper row : List ℕ) → ChartLists upper row order first head next lower pos → n ≡ row_sums r (placed_by upper lower row pos)

pub rowed-none : (order first head next lower pos : List ℕ) → Rowed order first head next lower pos 0 0
unfolding sum run
rowed-none order first head next lower pos = record { so_far = λ upper row c. refl }

module _ {order first head next lower pos : List ℕ} {n r : ℕ} (c : Rowed order first head next lower pos n r) where
  rowed-more : {x : ℕ} → RowCrossings order first head next lower pos r x → Rowed order first head next lower pos (n + x) (suc r)
  rowed-more h = record {
    so_far = λ upper row k. omega (arith, c.so_far upper row k, h.counted upper row k, sums-more r (placed_by upper lower row pos));
  }

  pub rowed-room : {upper row : List ℕ} → ChartLists upper row order first head next lower pos → r ≤ length first - 2 → n < segment_limit * segment_limit
  rowed-room {upper} {row} k h =
      let e : r + (length first - 2 - r) ≡ length first - 2 = omega arith in
      omega (
        arith,
        c.so_far upper row k,
        sums-rise r (length first - 2 - r) (placed_by upper lower row pos),
        ap (λ (m : ℕ). row_sums m (placed_by upper lower row pos)) e,
        chart-sums k,
        pairs-fit (placed_by upper lower row pos) (omega (arith, length-placed_by upper lower row pos, k.few)),
      )

  pub rowed-end : r ≡ length first - 2 → ChartCrossings order first head next lower pos n
  rowed-end e = record {
    counted = λ upper row k. c.so_far upper row k ∙ ap (λ (m : ℕ). row_sums m (placed_by upper lower row pos)) e ∙ sym (chart-sums k);
  }

-- the loop counts rows from 2 on, as `first` has two entries more than there are rows with a row below
pub rowed-on : {order first head next lower pos : List ℕ} {n r x : ℕ} → 2 ≤ r → Rowed order first head next lower pos n (r - 2)
    → RowCrossings order first head next lower pos (r - 2) x → Rowed order first head next lower pos (n + x) (r + 1 - 2)
rowed-on {order} {first} {head} {next} {lower} {pos} {n} {r} {x} h c k =
    let e : suc (r - 2) ≡ r + 1 - 2 = omega arith in
    subst (λ (m : ℕ). Rowed order first head next lower pos (n + x) m) e (rowed-more c k)
