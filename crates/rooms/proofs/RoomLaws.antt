-- Lists of 0s are room for as many points as they are long, and what is found in room is the drawing, of which every point fits the buffer.
use mathlib.Core.Path.{◌≡◌, refl, sym, ap, ◌∙◌, subst}
use mathlib.Core.List.{List, ◌++◌, flatten}
use Prim.Native.Nat.{ℕ, ◌+◌, ◌/◌, ◌≤◌, ◌<◌}
use native.Mathlib.Omega.{arith}
use lib.ListN.{length, take, drop, replicate, length-replicate}
use lib.Seq.{length-take-le, get_or-take}
use Rattle.points.specs.Limits.{max_points}
use Rattle.graph.specs.Rows.{at}
use Rattle.buffers.specs.Lists.{Below}
use Rattle.crossings.specs.Tally.{block_size}
use Rattle.passes.specs.Laid.{segments_in, rows_held}
use Rattle.fewest.specs.Fewest.{best_order}
use Rattle.fewest.specs.Drafts.{ListRoom, Roomy, Scratch, DrawingHeld}
use Rattle.fewest.proofs.CompleteLaws.{best-count, best-points}
use Rattle.rooms.specs.Rooms.{small_points, segment_room, Sketched, Room, DrawnIs}

pub zeros-long : (n k : ℕ) → n ≤ k → n ≤ length (replicate {A = ℕ} k 0)
zeros-long n k h = subst (λ (x : ℕ). n ≤ x) (sym (length-replicate {A = ℕ} k 0)) h

-- room of one size is room for all that is sketched within its limit
pub zeros-room : (limit : ℕ) {row upper : List ℕ} {count : ℕ} → limit / block_size < limit → Sketched limit row upper count
    → Room (length row) (length upper) count (replicate (limit + 1) 0) (replicate limit 0) (replicate limit 0) (replicate limit 0) (replicate limit 0)
    (replicate limit 0) (replicate limit 0) (replicate (segment_room limit) 0) (replicate limit 0) (replicate limit 0) (replicate (segment_room limit) 0)
    (replicate limit 0) (replicate limit 0)
zeros-room limit {row} {upper} {count = count} b s =
    let z : length row ≤ length (replicate {A = ℕ} limit 0) = zeros-long (length row) limit s.few_points in
    let l : length upper ≤ length (replicate {A = ℕ} (segment_room limit) 0) = zeros-long (length upper) (segment_room limit) s.few_segments in
    record {
      first_long = omega (arith, length-replicate {A = ℕ} (limit + 1) 0, s.few_rows);
      order_long = z;
      before_long = refl;
      saved_long = refl;
      pos_long = z;
      totals_long = z;
      totals_rows = zeros-long count limit s.few_rows;
      moved_long = z;
      blocks_long = rw (length-replicate {A = ℕ} limit 0) b;
      above_heads = z;
      above_links_long = l;
      above_counts = z;
      below_heads = z;
      below_links_long = l;
      below_counts = z;
    }

-- blocks are fewer than the entries that they are of
pub few-blocks : (limit : ℕ) → 0 < limit → limit / block_size < limit
few-blocks limit h = omega arith

pub sketched-small : {row upper : List ℕ} {count : ℕ} → Sketched max_points row upper count
    → (length row ≤ small_points) × (length upper ≤ segment_room small_points) × (count ≤ small_points) → Sketched small_points row upper count
sketched-small s (p, u, r) = record { few_points = p; few_segments = u; few_rows = r; rows_in = s.rows_in }

-- ---- parts of the room, as long as they are asked for

-- what is found is the drawing, where the rows are told by where they start
pub held-count : (row upper lower first saved : List ℕ) (count n : ℕ) → rows_held first ≡ count
    → DrawingHeld (best_order (rows_held first) row (segments_in upper lower)) saved n → DrawingHeld (best_order count row (segments_in upper lower)) saved n
held-count row upper lower first saved count n e = subst (λ (k : ℕ). DrawingHeld (best_order k row (segments_in upper lower)) saved n) e

-- and with as many starts as there are rows, and one behind them, the rows are told by these
pub starts-held : (first : List ℕ) (count : ℕ) → count < length first → rows_held (take (count + 1) first) ≡ count
starts-held first count h = omega (arith, length-take-le (count + 1) first (omega arith))

module _ (row upper : List ℕ) {first order before pos totals moved above_head above_links above below_head below_links below saved : List ℕ} {count : ℕ}
    (r : Room (length row) (length upper) count first order before pos totals moved above_head above_links above below_head below_links below saved) where
  pub room-above : {lower : List ℕ} → length lower ≡ length upper → ListRoom row lower above_head (take (length upper) above_links) above
  room-above both =
      record {
        heads_long = r.above_heads;
        next_long = length-take-le (length upper) above_links r.above_links_long ∙ sym both;
        counts_long = r.above_counts;
      }

  pub room-below : ListRoom row upper below_head (take (length upper) below_links) below
  room-below = record { heads_long = r.below_heads; next_long = length-take-le (length upper) below_links r.below_links_long; counts_long = r.below_counts }

  pub room-start : Below count row → Roomy row (take (count + 1) first) order pos saved
  room-start rows_in =
      record {
        rows_in = subst (λ (n : ℕ). Below n row) (sym (starts-held first count r.first_long)) rows_in;
        first_long = omega (arith, length-take-le (count + 1) first (omega (arith, r.first_long)));
        order_long = r.order_long;
        pos_long = r.pos_long;
        same = r.saved_long;
      }

  pub room-rows : rows_held (take (count + 1) first) ≤ length totals
  room-rows = omega (arith, starts-held first count r.first_long, r.totals_rows)

  pub room-scratch : Scratch row totals moved
  room-scratch = record { totals_long = r.totals_long; moved_long = r.moved_long; blocks_long = r.blocks_long }

  pub room-held : (lower found : List ℕ) (n : ℕ) → DrawingHeld (best_order (rows_held (take (count + 1) first)) row (segments_in upper lower)) found n
      → DrawingHeld (best_order count row (segments_in upper lower)) found n
  room-held lower found n = held-count row upper lower (take (count + 1) first) found count n (starts-held first count r.first_long)

-- ---- the order that is stored

module _ {row upper : List ℕ} {limit count : ℕ} (s : Sketched limit row upper count) (most : limit ≤ max_points) (lower : List ℕ) {saved : List ℕ} {n : ℕ}
    (h : DrawingHeld (best_order count row (segments_in upper lower)) saved n) where
  found : take (length row) saved ≡ flatten (best_order count row (segments_in upper lower)).order
  found = ap (λ (k : ℕ). take k saved) (sym (best-count count row (segments_in upper lower) s.rows_in)) ∙ h.order_is

  -- every point fits an entry of the buffer
  pub found-low : (i : ℕ) → i < length row → at saved i < 0x10000
  found-low i l =
      omega (
        arith,
        get_or-take (length row) saved i 0 l,
        ap (λ (o : List ℕ). at o i) found,
        best-points count row (segments_in upper lower) s.rows_in i l,
        s.few_points,
        most,
      )

  pub found-drawn : (old new : List ℕ) → new ≡ take (length row) saved ++ drop (length row) old
      → DrawnIs (best_order count row (segments_in upper lower)) old new n
  found-drawn old new e =
      record {
        order_is = e ∙ rw (found, best-count count row (segments_in upper lower) s.rows_in);
        crossings_are = h.crossings_are;
      }
