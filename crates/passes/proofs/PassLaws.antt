-- A pass, turn by turn: the whole pass equals what is left of it from here on.
use mathlib.Core.Path.{◌≡◌, refl, sym, ap, ◌∙◌, subst, fun_ext}
use mathlib.Core.Bool.{cond}
use mathlib.Core.List.{List, [], ◌∷◌, map}
use Prim.Native.Nat.{ℕ, zero, suc, ◌+◌, ◌-◌, ◌≤◌, ◌<◌}
use native.Mathlib.Nat.{not-suc-le-zero, suc-ne-zero, suc_inj}
use native.Mathlib.Numerals.{add-one, sub-one}
use native.Mathlib.Omega.{arith}
use lib.Dec.{eqb}
use lib.ListN.{length}
use Rattle.graph.specs.Rows.{at}
use Rattle.points.specs.Points.{Segment}
use Rattle.barycentre.specs.PointEnds.{ends, ends_above, ends_below}
use Rattle.passes.specs.Order.{settle_row, down_from, up_from, pass, downward, upward}
use Rattle.barycentre.specs.Flat.{ends_in}
use Rattle.passes.specs.Laid.{segments_in, Laid, SegmentEnds, Standing, Changed, ChangedBy}

-- ---- segments by the lists of their ends: a list of segments is the segments of its ends, and a point has the same ends either way

pub segments-in : (segs : List Segment) → segments_in (map (λ (s : Segment). s.upper) segs) (map (λ (s : Segment). s.lower) segs) ≡ segs
unfolding segments_in
segments-in [] = refl
segments-in (s ∷ segs) = ap (λ (l : List Segment). s ∷ l) (segments-in segs)

pub ends_above_lem : (upper lower : List ℕ) → length lower ≡ length upper → ends_above (segments_in upper lower) ≡ ends_in lower upper
unfolding segments_in ends ends_in
ends_above_lem [] [] e = refl
ends_above_lem [] (b ∷ lower) e = absurd (suc-ne-zero (length lower) e)
ends_above_lem (a ∷ upper) [] e = absurd (suc-ne-zero (length upper) (sym e))
ends_above_lem (a ∷ upper) (b ∷ lower) e =
    fun_ext (λ p. ap (λ (f : ℕ → List ℕ). cond (eqb b p) (a ∷ f p) (f p)) (ends_above_lem upper lower (suc_inj e)))

pub ends_below_lem : (upper lower : List ℕ) → length upper ≡ length lower → ends_below (segments_in upper lower) ≡ ends_in upper lower
unfolding segments_in ends ends_in
ends_below_lem [] [] e = refl
ends_below_lem [] (b ∷ lower) e = absurd (suc-ne-zero (length lower) (sym e))
ends_below_lem (a ∷ upper) [] e = absurd (suc-ne-zero (length upper) e)
ends_below_lem (a ∷ upper) (b ∷ lower) e =
    fun_ext (λ p. ap (λ (f : ℕ → List ℕ). cond (eqb a p) (b ∷ f p) (f p)) (ends_below_lem upper lower (suc_inj e)))

-- ---- one turn of each pass

-- what a pass down has left from row r on, and a pass up in the rows before row r
abbrev pub left_down : List ℕ → List ℕ → ℕ → ℕ → List ℕ → List (List ℕ) → List (List ℕ)
left_down upper lower count r ys o = down_from (ends_in lower upper) ys r (count - r) o

abbrev pub left_up : List ℕ → List ℕ → ℕ → List ℕ → List (List ℕ) → List (List ℕ)
left_up upper lower r ys o = up_from (ends_in upper lower) ys r o

pub down_turn : (ends : ℕ → List ℕ) (ys : List ℕ) (r left : ℕ) (o : List (List ℕ)) → 0 < left
    → down_from ends ys r left o ≡ down_from ends ys (suc r) (left - 1) (settle_row ends ys r o)
unfolding down_from
down_turn ends ys r zero o h = absurd (not-suc-le-zero h)
down_turn ends ys r (suc k) o h = rw (sub-one (suc k))

pub down-end : (ends : ℕ → List ℕ) (ys : List ℕ) (r left : ℕ) (o : List (List ℕ)) → left ≡ 0 → down_from ends ys r left o ≡ o
unfolding down_from
down-end ends ys r left o e = rw e

pub up_turn : (ends : ℕ → List ℕ) (ys : List ℕ) (r : ℕ) (o : List (List ℕ)) → up_from ends ys (suc r) o ≡ up_from ends ys r (settle_row ends ys r o)
unfolding up_from
up_turn ends ys r o = refl

pub up-end : (ends : ℕ → List ℕ) (ys : List ℕ) (o : List (List ℕ)) → up_from ends ys 0 o ≡ o
unfolding up_from
up-end ends ys o = refl

-- ---- a pass that is under way

-- the lists hold an order, of which what is left makes the answer
pub record Left (ys : List ℕ) (count : ℕ) (answer : List (List ℕ)) (rest : List (List ℕ) → List (List ℕ)) (order first pos : List ℕ) : Type 0 where
  pub o : List (List ℕ)
  pub laid : Laid ys count o order first pos
  pub same : rest o ≡ answer

-- whatever order the lists held at the start
pub record Going (count : ℕ) (whole rest : List ℕ → List (List ℕ) → List (List ℕ)) (first order₀ pos₀ order pos : List ℕ) : Type 0 where
  pub left : (ys : List ℕ) (o : List (List ℕ)) → Laid ys count o order₀ first pos₀ → Left ys count (whole ys o) (rest ys) order first pos

module _ {count : ℕ} {whole : List ℕ → List (List ℕ) → List (List ℕ)} {first order₀ pos₀ : List ℕ} where
  going_start : {rest : List ℕ → List (List ℕ) → List (List ℕ)} → ((ys : List ℕ) (o : List (List ℕ)) → length o ≡ count → rest ys o ≡ whole ys o)
      → Going count whole rest first order₀ pos₀ order₀ pos₀
  going_start e = record { left = λ ys o h. record { o = o; laid = h; same = e ys o h.ranked.rows } }

  module _ {rest : List ℕ → List (List ℕ) → List (List ℕ)} {order pos : List ℕ} (g : Going count whole rest first order₀ pos₀ order pos) where
    going-turn : {rest' change : List ℕ → List (List ℕ) → List (List ℕ)} {order' pos' : List ℕ} → Changed count change first order pos order' pos'
        → ((ys : List ℕ) (o : List (List ℕ)) → rest ys o ≡ rest' ys (change ys o)) → Going count whole rest' first order₀ pos₀ order' pos'
    going-turn {change = change} c e =
        record
        { left = λ ys o h. let w = g.left ys o h in record { o = change ys w.o; laid = c.laid ys w.o w.laid; same = sym (e ys w.o) ∙ w.same } }

    going_end : ((ys : List ℕ) (o : List (List ℕ)) → rest ys o ≡ o) → Changed count whole first order₀ pos₀ order pos
    going_end e =
        record
        { laid = λ ys o h. let w = g.left ys o h in subst (λ (x : List (List ℕ)). Laid ys count x order first pos) (sym (e ys w.o) ∙ w.same) w.laid }

-- what the next row asks for
pub going-stands : {count : ℕ} {whole rest : List ℕ → List (List ℕ) → List (List ℕ)} {far head next counts first order₀ pos₀ order pos totals₀ moved₀ totals moved : List ℕ}
    (s : Standing far head next counts count order₀ first pos₀ totals₀ moved₀) → Going count whole rest first order₀ pos₀ order pos
    → length totals ≡ length totals₀ → length moved ≡ length moved₀ → Standing far head next counts count order first pos totals moved
going-stands s g et em =
    let w = g.left s.ys s.o s.laid in
    record {
      near = s.near;
      ys = s.ys;
      o = w.o;
      laid = w.laid;
      ends = s.ends;
      totals_long = omega (arith, s.totals_long);
      moved_long = omega (arith, s.moved_long);
    }

-- ---- down, and up

-- Whatever the near ends are, of which the lists were made: the lower ones for a pass down, and the upper ones for a pass up.
pub record GoingDown (upper head next counts : List ℕ) (count r : ℕ) (first order₀ pos₀ order pos : List ℕ) : Type 0 where
  pub going : (lower : List ℕ) → SegmentEnds (at first count) lower upper head next counts
      → Going count (λ ys. pass (segments_in upper lower) ys downward) (left_down upper lower count r) first order₀ pos₀ order pos

pub record GoingUp (lower head next counts : List ℕ) (count r : ℕ) (first order₀ pos₀ order pos : List ℕ) : Type 0 where
  pub going : (upper : List ℕ) → SegmentEnds (at first count) upper lower head next counts
      → Going count (λ ys. pass (segments_in upper lower) ys upward) (left_up upper lower (r - 1)) first order₀ pos₀ order pos

module _ {count : ℕ} {upper head next counts first order₀ pos₀ : List ℕ} where
  pub down-starts : GoingDown upper head next counts count 1 first order₀ pos₀ order₀ pos₀
  down-starts = record { going = λ lower e. going_start (λ ys o q. rw (q, ends_above_lem upper lower e.one_each)) }

  module _ {r : ℕ} {order pos : List ℕ} (g : GoingDown upper head next counts count r first order₀ pos₀ order pos) where
    -- Row r is settled on what the rows before it have left, so that what was left before it is what is left behind it of the order now.
    pub down-goes : r < count → {order' pos' : List ℕ}
        → ChangedBy upper head next counts count (λ lower ys. settle_row (ends_in lower upper) ys r) first order pos order' pos'
        → GoingDown upper head next counts count (r + 1) first order₀ pos₀ order' pos'
    down-goes l c =
        let e : count - r - 1 ≡ count - suc r = omega arith in
        record {
          going =
              λ lower ends. going-turn (g.going lower ends) (c.by lower ends)
              (λ ys o. rw (add-one r) (down_turn (ends_in lower upper) ys r (count - r) o (omega arith) ∙ ap (λ (k : ℕ). down_from (ends_in lower upper) ys (suc r) k (settle_row (ends_in lower upper) ys r o)) e));
        }

    -- no row is left
    pub down_ends : count ≤ r → ChangedBy upper head next counts count (λ lower ys. pass (segments_in upper lower) ys downward) first order₀ pos₀ order pos
    down_ends l =
        record { by = λ lower ends. going_end (g.going lower ends) (λ ys o. down-end (ends_in lower upper) ys r (count - r) o (omega arith)) }

-- The same of a pass up, which has settled the rows from row r - 1 on and takes the one before them.
module _ {count : ℕ} {lower head next counts first order₀ pos₀ : List ℕ} where
  pub up-starts : GoingUp lower head next counts count count first order₀ pos₀ order₀ pos₀
  up-starts = record { going = λ upper e. going_start (λ ys o q. rw (q, ends_below_lem upper lower e.one_each)) }

  module _ {r : ℕ} {order pos : List ℕ} (g : GoingUp lower head next counts count r first order₀ pos₀ order pos) where
    pub up-goes : 1 < r → {order' pos' : List ℕ}
        → ChangedBy lower head next counts count (λ upper ys. settle_row (ends_in upper lower) ys (r - 1 - 1)) first order pos order' pos'
        → GoingUp lower head next counts count (r - 1) first order₀ pos₀ order' pos'
    up-goes l c =
        let e : r - 1 ≡ suc (r - 1 - 1) = omega arith in
        record {
          going =
              λ upper ends. going-turn (g.going upper ends) (c.by upper ends)
              (λ ys o. ap (λ (k : ℕ). up_from (ends_in upper lower) ys k o) e ∙ up_turn (ends_in upper lower) ys (r - 1 - 1) o);
        }

    pub up_ends : r ≤ 1 → ChangedBy lower head next counts count (λ upper ys. pass (segments_in upper lower) ys upward) first order₀ pos₀ order pos
    up_ends l =
        let e : r - 1 ≡ 0 = omega arith in
        record { by = λ upper ends. going_end (g.going upper ends) (λ ys o. ap (λ (k : ℕ). up_from (ends_in upper lower) ys k o) e ∙ up-end (ends_in upper lower) ys o) }
