-- A drawing on its way: lists that stand ready, one pass with its look at the crossings, and a pass down with a pass up.
use mathlib.Core.Path.{◌≡◌, refl, sym, ap, ◌∙◌, subst}
use mathlib.Core.List.{List, [], ◌∷◌, flatten, tail}
use Prim.Native.Nat.{ℕ, suc, ◌-◌, ◌≤◌}
use native.Mathlib.Nat.{suc-ne-zero, suc_inj}
use native.Mathlib.Omega.{arith}
use lib.ListN.{length, take}
use lib.Seq.{length-take-le}
use Rattle.graph.specs.Rows.{at}
use Rattle.passes.specs.Order.{Direction, downward, upward, turned, pass}
use Rattle.crossings.specs.Crossings.{crossing_pairs, crossings}
use Rattle.fewest.specs.Fewest.{Drawing, drawn, best_order}
use Rattle.points.specs.Points.{Segment}
use Rattle.points.specs.Laying.{uppers, lowers}
use Rattle.passes.specs.Laid.{segments_in, rows_held, Laid, SegmentEnds, Standing, Changed, ChangedBy}
use Rattle.points.specs.Lists.{Linked}
use Rattle.barycentre.specs.Steps.{Counted}
use Rattle.crossings.specs.Placing.{placed_by, Countable}
use Rattle.fewest.specs.Drafts.{best_in, Segmented, Prepared, Scratch, Passable, Improving, Bettered, DrawingHeld}
use Rattle.buffers.specs.Keeping.{Keeping, kept, replaced}
use Rattle.judging.specs.Judging.{Judged}
use Rattle.points.specs.Positions.{row_at}
use Rattle.passes.proofs.LaidLaws.{points-end, row-part}
use Rattle.crossings.proofs.PlacingLaws.{crossings-placed}
use Rattle.std.proofs.lemmas.List.{ext_get_or}
use Rattle.fewest.proofs.CountableLaws.{laid-lists, laid-countable}
use Rattle.fewest.proofs.FewestLaws.{rest-better, rest-kept, rest-still}

-- ---- segments by the lists of their ends

uppers_are : (upper lower : List ℕ) → upper ≡ uppers (segments_in upper lower)
unfolding segments_in
uppers_are [] lower = refl
uppers_are (a ∷ upper) lower = ap (λ (l : List ℕ). a ∷ l) (uppers_are upper (tail lower))

lowers_are : (upper lower : List ℕ) → length lower ≡ length upper → lower ≡ lowers (segments_in upper lower)
unfolding segments_in
lowers_are [] [] e = refl
lowers_are [] (b ∷ lower) e = absurd (suc-ne-zero (length lower) e)
lowers_are (a ∷ upper) [] e = absurd (suc-ne-zero (length upper) (sym e))
lowers_are (a ∷ upper) (b ∷ lower) e = ap (λ (l : List ℕ). b ∷ l) (lowers_are upper lower (suc_inj e))

module _ {row upper lower : List ℕ} (g : Segmented row upper lower) where
  -- the pairs that cross in the flat lists are the crossings of the order that they hold
  pub laid-crossings : {count : ℕ} {o : List (List ℕ)} {order first pos : List ℕ} → Laid row count o order first pos
      → crossing_pairs (placed_by upper lower row pos) ≡ crossings row (segments_in upper lower) o
  laid-crossings {o = o} {pos = pos} h =
      crossings-placed row o (length row) row pos (λ p l. refl) h.places (segments_in upper lower) upper lower
      (uppers_are upper lower) (lowers_are upper lower g.both) g.upper_in g.lower_in

  pub prepared : {n m : ℕ} {above_head above_next above below_head below_next below : List ℕ}
      → length row ≤ length above_head → Linked lower above_head above_next → length row ≤ n → Counted n lower above
      → length row ≤ length below_head → Linked upper below_head below_next → length row ≤ m → Counted m upper below
      → Prepared row upper lower above_head above_next above below_head below_next below
  prepared ha la na ca hb lb nb cb =
      record {
        segmented = g;
        ends_above =
            record {
              near_in = g.lower_in;
              far_in = g.upper_in;
              one_each = g.both;
              few_points = g.few_points;
              few_ends = g.few_above;
              linked = la;
              heads_long = ha;
              counted = ca.each upper;
              counts_long = omega (arith, ca.kept);
            };
        ends_below =
            record {
              near_in = g.upper_in;
              far_in = g.lower_in;
              one_each = sym g.both;
              few_points = g.few_points;
              few_ends = g.few_below;
              linked = lb;
              heads_long = hb;
              counted = cb.each lower;
              counts_long = omega (arith, cb.kept);
            };
      }

-- ---- one pass

-- scratch of the same lengths
pub scratch-same : {row totals moved totals' moved' : List ℕ} → Scratch row totals moved → length totals' ≡ length totals → length moved' ≡ length moved
    → Scratch row totals' moved'
scratch-same s et em =
    record { totals_long = omega (arith, s.totals_long); moved_long = omega (arith, s.moved_long); blocks_long = rw (et, em) s.blocks_long }

-- what the pass asks for
pub passable-stands : {near far head next counts row first order pos totals moved saved : List ℕ} → SegmentEnds (length row) near far head next counts
    → Passable row first order pos totals moved saved → Standing far head next counts (rows_held first) order first pos totals moved
passable-stands {near} {far} {head} {next} {counts} {row} {first} {order} {pos} {totals} {moved} e p =
    let q : at first (rows_held first) ≡ length row = points-end row (rows_held first) p.o order first p.laid.ranked in
    record {
      near = near;
      ys = row;
      o = p.o;
      laid = p.laid;
      ends = subst (λ (n : ℕ). SegmentEnds n near far head next counts) (sym q) e;
      totals_long = omega (arith, q, p.scratch.totals_long);
      moved_long = omega (arith, q, p.scratch.moved_long);
    }

-- what a pass makes of the order, of the segments between its points
pub passed : {near far head next counts row first order pos order' pos' : List ℕ} {o : List (List ℕ)} {change : List ℕ → List ℕ → List (List ℕ) → List (List ℕ)}
    → SegmentEnds (length row) near far head next counts → Laid row (rows_held first) o order first pos
    → ChangedBy far head next counts (rows_held first) change first order pos order' pos' → Changed (rows_held first) (change near) first order pos order' pos'
passed {near} {far} {head} {next} {counts} {row} {first} {order} {o = o} e h c =
    let q : at first (rows_held first) ≡ length row = points-end row (rows_held first) o order first h.ranked in
    c.by near (subst (λ (n : ℕ). SegmentEnds n near far head next counts) (sym q) e)

-- after which the lists are ready for another one
pub still-passable : {row first order pos totals moved saved order' pos' totals' moved' saved' : List ℕ} {change : List ℕ → List (List ℕ) → List (List ℕ)}
    → Passable row first order pos totals moved saved → Changed (rows_held first) change first order pos order' pos'
    → length order' ≡ length order → length totals' ≡ length totals → length moved' ≡ length moved → length saved' ≡ length saved
    → Passable row first order' pos' totals' moved' saved'
still-passable {row} {change = change} p c eo et em es =
    record {
      o = change row p.o;
      laid = c.laid row p.o p.laid;
      scratch = scratch-same p.scratch et em;
      same = omega (arith, p.same);
    }

-- and after two
pub twice-passable : {row first order pos totals moved saved order' pos' order'' pos'' totals'' moved'' saved'' : List ℕ}
    {change change' : List ℕ → List (List ℕ) → List (List ℕ)} → Passable row first order pos totals moved saved
    → Changed (rows_held first) change first order pos order' pos' → Changed (rows_held first) change' first order' pos' order'' pos''
    → length order'' ≡ length order → length totals'' ≡ length totals → length moved'' ≡ length moved → length saved'' ≡ length saved
    → Passable row first order'' pos'' totals'' moved'' saved''
twice-passable {row} {change = change} {change' = change'} p c d eo et em es =
    record {
      o = change' row (change row p.o);
      laid = d.laid row (change row p.o) (c.laid row p.o p.laid);
      scratch = scratch-same p.scratch et em;
      same = omega (arith, p.same);
    }

-- a count asks for the same
pub passable-countable : {row upper lower above_head above_next above below_head below_next below first order pos totals moved saved : List ℕ}
    → Prepared row upper lower above_head above_next above below_head below_next below → Passable row first order pos totals moved saved
    → Countable order first below_head below_next lower pos moved totals
passable-countable e p =
    laid-countable e.segmented e.ends_below.linked e.ends_below.heads_long p.laid p.scratch.moved_long p.scratch.blocks_long

-- ---- a pass with its look at the crossings

-- the fewer of both
keeping-low : {order saved saved' : List ℕ} {n fewest fewest' : ℕ} → Keeping order n saved fewest saved' fewest' → (fewest' ≤ n) × (fewest' ≤ fewest)
keeping-low (kept l q s) = (omega arith, omega arith)
keeping-low (replaced l q s) = (omega arith, omega arith)

-- Where the result of a pass has fewer crossings than the best so far it is the best from now on, and else the best stays. Either way
-- the drawing that is handed out in the end is the same.
module _ {row upper lower above_head above_next above below_head below_next below : List ℕ} (e : Prepared row upper lower above_head above_next above below_head below_next below)
    {first order pos saved order' pos' saved' : List ℕ} {fewest fewest' : ℕ} (d : Direction)
    (c : Changed (rows_held first) (λ ys. pass (segments_in upper lower) ys d) first order pos order' pos') (long : length order' ≡ length order)
    (k : Judged first below_head below_next lower order' pos' saved fewest saved' fewest')
    (left : ℕ) (i : Improving row upper lower first (suc left) d order pos saved fewest) where
  abbrev result : List (List ℕ)
  result = pass (segments_in upper lower) row d i.o

  result-laid : Laid row (rows_held first) result order' first pos'
  result-laid = c.laid row i.o i.laid

  result-counted : k.crossings ≡ crossings row (segments_in upper lower) result
  result-counted =
      k.counted.counted upper row (laid-lists e.segmented e.ends_below.linked e.ends_below.heads_long result-laid)
      ∙ laid-crossings e.segmented result-laid

  -- the best has no more crossings than the result, and no more than the best before
  result_low : fewest' ≤ crossings row (segments_in upper lower) result
  result_low = omega (arith, (keeping-low k.keeping).0, result-counted)

  bettered-by : Keeping order' k.crossings saved fewest saved' fewest' → Improving row upper lower first left (turned d) order' pos' saved' fewest'
  bettered-by (kept l q s) =
      record {
        o = result;
        best = i.best;
        laid = result-laid;
        same = ap length s ∙ i.same ∙ sym long;
        best_flat = ap (take (length row)) s ∙ i.best_flat;
        best_crossings = q ∙ i.best_crossings;
        rest = i.rest ∙ rest-kept row (segments_in upper lower) i.best left d i.o (omega (arith, i.best_crossings, result-counted, l));
      }
  bettered-by (replaced l q s) =
      record {
        o = result;
        best = result;
        laid = result-laid;
        same = ap length s;
        best_flat = ap (take (length row)) s ∙ result-laid.ranked.flat;
        best_crossings = q ∙ result-counted;
        rest = i.rest ∙ rest-better row (segments_in upper lower) i.best left d i.o (omega (arith, i.best_crossings, result-counted, l));
      }

  bettered : Improving row upper lower first left (turned d) order' pos' saved' fewest'
  bettered = bettered-by k.keeping

  bettered-order : bettered.o ≡ result
  unfolding bettered-by bettered
  bettered-order = go k.keeping
    where
      go : (j : Keeping order' k.crossings saved fewest saved' fewest') → (bettered-by j).o ≡ result
      go (kept l q s) = refl
      go (replaced l q s) = refl

-- ---- an order that comes back

-- the flat order and where its rows start tell the rows
same_rows : {row order order' first pos pos' : List ℕ} {o o' : List (List ℕ)} → Laid row (rows_held first) o order first pos
    → Laid row (rows_held first) o' order' first pos' → order' ≡ order → o' ≡ o
same_rows {row} {order} {order'} {first} {o = o} {o' = o'} h h' e =
    ext_get_or [] o' o (omega (arith, h.ranked.rows, h'.ranked.rows)) λ r l.
    sym (row-part row (rows_held first) o' order' first h'.ranked r (omega (arith, h'.ranked.rows)))
    ∙ ap (λ (x : List ℕ). row_at first x r) e
    ∙ row-part row (rows_held first) o order first h.ranked r (omega (arith, h'.ranked.rows))

-- the best so far is the drawing that is handed out
pub best-held : {row upper lower first order pos saved : List ℕ} {left fewest : ℕ} {d : Direction} (i : Improving row upper lower first left d order pos saved fewest)
    → best_in row upper lower first ≡ drawn row (segments_in upper lower) i.best → DrawingHeld (best_in row upper lower first) saved fewest
unfolding drawn
best-held {row} {saved = saved} {fewest = fewest} i e =
    let long : length (flatten i.best) ≡ length row =
    sym (ap length i.best_flat) ∙ length-take-le (length row) saved (omega (arith, i.same, i.laid.ranked.order_long)) in
    subst (λ (d : Drawing). DrawingHeld d saved fewest) (sym e)
    (record { order_is = ap (λ (n : ℕ). take n saved) long ∙ i.best_flat; crossings_are = i.best_crossings })

-- the number of rows is all that it takes of where they start
pub held_same : (row upper lower first first' saved : List ℕ) (n : ℕ) → length first' ≡ length first → DrawingHeld (best_in row upper lower first') saved n
    → DrawingHeld (best_in row upper lower first) saved n
held_same row upper lower first first' saved n e =
    subst (λ (k : ℕ). DrawingHeld (best_order (k - 1) row (segments_in upper lower)) saved n) e

-- ---- a pass down and a pass up

module _ {row upper lower above_head above_next above below_head below_next below first order pos saved order' pos' saved' order'' pos'' saved'' : List ℕ} {fewest fewest' fewest'' : ℕ}
    (e : Prepared row upper lower above_head above_next above below_head below_next below)
    (c : Changed (rows_held first) (λ ys. pass (segments_in upper lower) ys downward) first order pos order' pos') (l : length order' ≡ length order)
    (k : Judged first below_head below_next lower order' pos' saved fewest saved' fewest')
    (c' : Changed (rows_held first) (λ ys. pass (segments_in upper lower) ys upward) first order' pos' order'' pos'') (l' : length order'' ≡ length order')
    (k' : Judged first below_head below_next lower order'' pos'' saved' fewest' saved'' fewest'') where
  module _ (left : ℕ) (i : Improving row upper lower first (suc (suc left)) downward order pos saved fewest) where
    after-down : Improving row upper lower first (suc left) upward order' pos' saved' fewest'
    after-down = bettered e downward c l k (suc left) i

    after_both : Improving row upper lower first left downward order'' pos'' saved'' fewest''
    after_both = bettered e upward c' l' k' left after-down

    -- Where both passes together moved nothing, the best has no more crossings than either of them leaves, now and ever after.
    none-better : order'' ≡ order → DrawingHeld (best_in row upper lower first) saved'' fewest''
    unfolding after-down after_both
    none-better same =
        best-held after_both
        (after_both.rest
        ∙ rest-still row segs after_both.best after_both.o left
        (ap (pass segs row upward) down-again ∙ sym turned_up)
        (subst (λ (x : List (List ℕ)). crossings row segs after_both.best ≤ crossings row segs x) (sym down-again)
        (omega (arith, after_both.best_crossings, (keeping-low k'.keeping).1, low-down)))
        (omega (arith, after_both.best_crossings, low-both)))
      where
        segs : List Segment
        segs = segments_in upper lower

        turned_down : after-down.o ≡ pass segs row downward i.o
        turned_down = bettered-order e downward c l k (suc left) i

        turned_up : after_both.o ≡ pass segs row upward after-down.o
        turned_up = bettered-order e upward c' l' k' left after-down

        down-again : pass segs row downward after_both.o ≡ after-down.o
        down-again = ap (pass segs row downward) (same_rows i.laid after_both.laid same) ∙ sym turned_down

        low-down : fewest' ≤ crossings row segs after-down.o
        low-down = subst (λ (x : List (List ℕ)). fewest' ≤ crossings row segs x) (sym turned_down) (result_low e downward c l k (suc left) i)

        low-both : fewest'' ≤ crossings row segs after_both.o
        low-both = subst (λ (x : List (List ℕ)). fewest'' ≤ crossings row segs x) (sym turned_up) (result_low e upward c' l' k' left after-down)

  pub bettered-twice : Bettered row upper lower first order pos saved fewest order'' pos'' saved'' fewest''
  bettered-twice = record { steps = after_both; still = none-better }
