-- Sums along the lists of points: how large they are, the loops that make them, and that the order of a list plays no part.
use mathlib.Core.Path.{◌≡◌, refl, ap, ◌∙◌}
use mathlib.Core.Bool.{Bool, true, false, cond}
use mathlib.Core.List.{List, ◌∷◌, map}
use Prim.Native.Nat.{ℕ, zero, suc, ◌+◌, ◌*◌, ◌-◌, ◌≤◌, ◌<◌, zero-le}
use native.Mathlib.Omega.{arith}
use lib.Dec.{eqb}
use lib.ListN.{length, drop, set, drop_of_length-le}
use lib.Seq.{drop-cons}
use borrow.Author.Count.{below_more}
use Rattle.graph.specs.Rows.{at}
use Rattle.table.specs.Limits.{max_edges}
use Rattle.buffers.specs.Lists.{sum, Below}
use Rattle.buffers.proofs.ListLaws.{hit, set_cases}
use Rattle.points.specs.Limits.{max_points}
use Rattle.points.specs.Lists.{list_from, listed, segments_at, Falls, Linked}
use Rattle.points.proofs.ListLaws.{listed-turn, listed-end}
use Rattle.barycentre.specs.Flat.{ends_in, end_position, list_total}
use Rattle.barycentre.specs.Bounds.{max_sum, EndsSummable, RowSummable, RowCounted, Ready}
use Rattle.barycentre.specs.Steps.{Totalled}

-- ---- one list

-- what a function gives for the segments of a list, added up, where it gives at most `bound` for each
list-le : (f : ℕ → ℕ) (bound : ℕ) {next : List ℕ} → Falls next → ((k : ℕ) → k < length next → f k ≤ bound) → (n h : ℕ) → h ≤ length next
    → sum (map f (list_from n next h)) ≤ length (list_from n next h) * bound
unfolding sum list_from
list-le f bound falls low zero h l = zero-le
list-le f bound falls low (suc n) zero l = zero-le
list-le f bound {next} falls low (suc n) (suc k) l =
    omega (arith, low k (omega arith), list-le f bound falls low n (at next k) (omega (arith, falls.falls k (omega arith))))

-- The sum so far and that of the rest of the list make up the whole.
pub record Summing (next far pos : List ℕ) (h total link : ℕ) : Type 0 where
  pub within : link ≤ length next
  pub whole : total + list_total next far pos link ≡ list_total next far pos h

pub summing_start : (next far pos : List ℕ) (h : ℕ) → h ≤ length next → Summing next far pos h 0 h
summing_start next far pos h l = record { within = l; whole = omega arith }

module _ {next far pos : List ℕ} (e : EndsSummable next far pos) where
  -- a list has at most one position an edge
  pub list-low : (h : ℕ) → h ≤ length next → length (listed next h) ≤ max_edges → list_total next far pos h ≤ max_sum
  unfolding list_total
  list-low h l few =
      let low : (k : ℕ) → k < length next → end_position far pos k ≤ max_points - 1 = λ k b. omega (arith, e.low k (omega (arith, e.one_each))) in
      omega (arith, list-le (end_position far pos) (max_points - 1) e.falls low h h l)

  module _ {h total link : ℕ} (s : Summing next far pos h total link) where
    list-turn : 0 < link → list_total next far pos link ≡ end_position far pos (link - 1) + list_total next far pos (at next (link - 1))
    unfolding list_total sum
    list-turn a = ap (λ (l : List ℕ). sum (map (end_position far pos) l)) (listed-turn e.falls link a s.within)

    -- the segment that the rest starts with
    pub summing-next : 0 < link → link - 1 < length next
    summing-next a = omega (arith, s.within)

    pub summing-far : 0 < link → link - 1 < length far
    summing-far a = omega (arith, s.within, e.one_each)

    pub summing-reads : 0 < link → at far (link - 1) < length pos
    summing-reads a = e.far_in.below (link - 1) (summing-far a)

    pub summing-falls : 0 < link → at next (link - 1) < link
    summing-falls a = omega (arith, e.falls.falls (link - 1) (summing-next a))

    pub summing-more : 0 < link → Summing next far pos h (total + end_position far pos (link - 1)) (at next (link - 1))
    summing-more a = record {
      within = omega (arith, s.within, e.falls.falls (link - 1) (omega (arith, s.within)));
      whole = omega (arith, s.whole, list-turn a);
    }

    pub summing-low : h ≤ length next → length (listed next h) ≤ max_edges → 0 < link → total + end_position far pos (link - 1) ≤ max_sum
    summing-low l few a = omega (arith, list-low h l few, s.whole, list-turn a)

    pub summing-end : link ≤ 0 → total ≡ list_total next far pos h
    unfolding list_total sum
    summing-end a =
        let z : sum (map (end_position far pos) (listed next link)) ≡ 0 = ap (λ (l : List ℕ). sum (map (end_position far pos) l)) (listed-end next link a) in
        omega (arith, s.whole)

-- ---- the points of a row

-- the first i points have their sums
pub record Totalling (row head next far pos totals : List ℕ) (i : ℕ) : Type 0 where
  pub within : i ≤ length row
  pub each : (j : ℕ) → j < i → at totals (at row j) ≡ list_total next far pos (at head (at row j))

module _ {row head next far pos : List ℕ} where
  pub totalling-start : (totals : List ℕ) → Totalling row head next far pos totals 0
  totalling-start totals = record { within = zero-le; each = λ j h. absurd (omega arith) }

  module _ {totals : List ℕ} {i : ℕ} (t : Totalling row head next far pos totals i) where
    -- a point that stands twice in the row has the same sum both times
    pub totalling-more : i < length row → at row i < length totals → {v : ℕ} → v ≡ list_total next far pos (at head (at row i))
        → Totalling row head next far pos (set totals (at row i) v) (i + 1)
    totalling-more h b {v} q = record {
      within = omega arith;
      each = below_more (λ j. at (set totals (at row i) v) (at row j) ≡ list_total next far pos (at head (at row j))) i
          (λ j l. set_cases (λ x. x ≡ list_total next far pos (at head (at row j))) totals (at row i) v (at row j) b
          (λ e. q ∙ ap (λ (p : ℕ). list_total next far pos (at head p)) e) (λ ne. t.each j l))
          (hit totals (at row i) v (at row i) b refl ∙ q);
    }

    pub totalling-end : length row ≤ i → Totalled row head next far pos totals
    totalling-end h = record { each = λ j l. t.each j (omega arith) }

  pub totalled-low : {totals sums : List ℕ} → RowSummable row head next far pos totals → Totalled row head next far pos sums
      → (i : ℕ) → i < length row → at sums (at row i) ≤ max_sum
  totalled-low s t i h =
      let b = s.headed.below i h in
      omega (arith, t.each i h, list-low s.ends (at head (at row i)) (s.heads_in (at row i) b) (s.few (at row i) b))

  -- a row with its sums and counts can be put in order
  pub row-ready : {counts totals sums moved : List ℕ} → RowSummable row head next far pos totals → RowCounted row counts moved → length sums ≡ length totals
      → Totalled row head next far pos sums → Ready sums counts row moved
  row-ready s k e t = record {
    known = record {
      each = λ i h. record { total_in = omega (arith, s.room.below i h); count_in = k.counted.below i h; total_low = totalled-low s t i h; count_low = k.few i h };
    };
    room = k.room;
  }

-- ---- the order of a list plays no part

-- the positions of the ends of p from segment k on, added up
unfoldable total_left : List ℕ → List ℕ → List ℕ → ℕ → ℕ → ℕ
total_left near far pos p k = sum (map (at pos) (ends_in (drop k near) (drop k far) p))

module _ (near far pos : List ℕ) (both : length near ≡ length far) (p : ℕ) where
  left_step : (k : ℕ) → k < length near → total_left near far pos p k ≡ cond (eqb (at near k) p) (end_position far pos k) 0 + total_left near far pos p (suc k)
  unfolding total_left ends_in sum
  left_step k h = rw (drop-cons near k 0 h, drop-cons far k 0 (omega arith)) (go (eqb (at near k) p))
    where
      go : (t : Bool) → sum (map (at pos) (cond t (at far k ∷ ends_in (drop (suc k) near) (drop (suc k) far) p) (ends_in (drop (suc k) near) (drop (suc k) far) p)))
          ≡ cond t (end_position far pos k) 0 + sum (map (at pos) (ends_in (drop (suc k) near) (drop (suc k) far) p))
      go true = refl
      go false = omega arith

  left-none : total_left near far pos p (length near) ≡ 0
  unfolding total_left ends_in sum
  left-none = rw (drop_of_length-le near {i = length near} (omega arith))

  -- the segments of p below k, the last first, and those from k on
  both-parts : (k : ℕ) → k ≤ length near → sum (map (end_position far pos) (segments_at near p k)) + total_left near far pos p k ≡ total_left near far pos p 0
  unfolding segments_at sum
  both-parts zero l = omega arith
  both-parts (suc k) l = go (eqb (at near k) p) (left_step k l) (both-parts k (omega arith))
    where
      go : (t : Bool) → total_left near far pos p k ≡ cond t (end_position far pos k) 0 + total_left near far pos p (suc k)
          → sum (map (end_position far pos) (segments_at near p k)) + total_left near far pos p k ≡ total_left near far pos p 0
          → sum (map (end_position far pos) (cond t (k ∷ segments_at near p k) (segments_at near p k))) + total_left near far pos p (suc k) ≡ total_left near far pos p 0
      go true s ih = omega arith
      go false s ih = omega arith

  left-all : total_left near far pos p 0 ≡ sum (map (at pos) (ends_in near far p))
  unfolding total_left
  left-all = refl

  -- so the sum along the list of p is that of its ends
  list-ends : {head next : List ℕ} → Linked near head next → p < length head → list_total next far pos (at head p) ≡ sum (map (at pos) (ends_in near far p))
  unfolding list_total
  list-ends l h =
      let q : sum (map (end_position far pos) (segments_at near p (length near))) ≡ sum (map (at pos) (ends_in near far p)) =
      omega (arith, both-parts (length near) (omega arith), left-none, left-all) in
      ap (λ (s : List ℕ). sum (map (end_position far pos) s)) (l.lists p h) ∙ q

pub totalled-ends : {near far pos row head next totals : List ℕ} → length near ≡ length far → Linked near head next → Below (length head) row
    → Totalled row head next far pos totals → (i : ℕ) → i < length row → at totals (at row i) ≡ sum (map (at pos) (ends_in near far (at row i)))
totalled-ends {near} {far} {pos} {row} both l b t i h = t.each i h ∙ list-ends near far pos both (at row i) l (b.below i h)
