-- An order in its lists is a chart whose crossings can be counted: each row of it is a part of the flat order, every point of a row
-- stands in it at its position, and nothing else does.
use mathlib.Core.Path.{◌≡◌, refl, sym, ap, ◌∙◌, subst}
use mathlib.Core.Bool.{Bool, true, false, cond}
use mathlib.Core.List.{List, []}
use Prim.Native.Nat.{ℕ, ◌/◌, ◌≤◌, ◌<◌}
use native.Mathlib.Omega.{arith}
use borrow.Author.Tests.{eq-eqb, eqb-true}
use lib.Dec.{eqb}
use lib.ListN.{length, get_or}
use Rattle.graph.specs.Rows.{at}
use Rattle.buffers.specs.Lists.{occurs}
use Rattle.buffers.proofs.OccursLaws.{at-occurs, row_below}
use Rattle.points.specs.Lists.{Linked}
use Rattle.points.specs.Positions.{position, place}
use Rattle.points.proofs.PositionLaws.{position_in, position-finds, position_at}
use Rattle.crossings.specs.Tally.{block_size}
use Rattle.crossings.specs.Placing.{RowOf, ChartLists, Countable}
use Rattle.passes.specs.Laid.{rows_held, Laid}
use Rattle.fewest.specs.Drafts.{Segmented}
use Rattle.passes.proofs.LaidLaws.{row-rises, row_inside, row-part}
use Rattle.passes.proofs.PositionLaws.{row-exists}

module _ {ys : List ℕ} {count : ℕ} {o : List (List ℕ)} {order first pos : List ℕ} (h : Laid ys count o order first pos) (r : ℕ) where
  -- a point stands once in its own row
  own-once : (p : ℕ) → p < length ys → at ys p ≡ r → occurs p (get_or o r []) ≡ 1
  own-once p l e = h.ranked.once p r l ∙ ap {B = ℕ} (λ (t : Bool). cond t 1 0) (eq-eqb (at ys p) r e)

  -- and where it stands is its own row
  own_row : (p : ℕ) → p < length ys → 0 < occurs p (get_or o r []) → at ys p ≡ r
  own_row p l some = go (eqb (at ys p) r) refl (omega (arith, h.ranked.once p r l))
    where
      go : (t : Bool) → eqb (at ys p) r ≡ t → 0 < cond t 1 0 → at ys p ≡ r
      go true e k = eqb-true (at ys p) r e
      go false e k = absurd (omega arith)

  own-position : (p : ℕ) → p < length ys → at ys p ≡ r → at pos p ≡ position p (get_or o r [])
  unfolding place
  own-position p l e = h.places p l ∙ ap (λ (q : ℕ). position p (get_or o q [])) e

  row_of : RowOf (length ys) ys pos r (get_or o r [])
  row_of =
      record {
        below = below;
        stands_in_row = stands_in_row;
        stands = λ i l.
            own-position (at (get_or o r []) i) (below i l) (stands_in_row i l) ∙ position_at (get_or o r []) i l (own-once (at (get_or o r []) i) (below i l) (stands_in_row i l));
        none_past = λ p l e. subst (λ (k : ℕ). k < length (get_or o r [])) (sym (own-position p l e)) (position_in p (get_or o r []) (omega (arith, own-once p l e)));
        found = λ p l e. ap (at (get_or o r [])) (own-position p l e) ∙ position-finds p (get_or o r []) (omega (arith, own-once p l e));
      }
    where
      below : (i : ℕ) → i < length (get_or o r []) → at (get_or o r []) i < length ys
      below = row_below (length ys) (get_or o r []) (λ p. h.ranked.none p r)

      stands_in_row : (i : ℕ) → i < length (get_or o r []) → at ys (at (get_or o r []) i) ≡ r
      stands_in_row i l = own_row (at (get_or o r []) i) (below i l) (at-occurs (get_or o r []) i l)

module _ {row upper lower head next : List ℕ} {o : List (List ℕ)} {order first pos : List ℕ} (g : Segmented row upper lower)
    (linked : Linked upper head next) (heads : length row ≤ length head) (h : Laid row (rows_held first) o order first pos) where
  pub laid-lists : ChartLists upper row order first head next lower pos
  laid-lists =
      record {
        linked = linked;
        heads_long = heads;
        both = g.both;
        few = g.few;
        upper_in = g.upper_in;
        lower_in = g.lower_in;
        pos_long = h.pos_long;
        down = g.down;
        rows_in = λ p l. omega (arith, row-exists row (rows_held first) o order first h.ranked p l);
        rises = λ r l. row-rises row (rows_held first) o order first h.ranked r (omega arith);
        inside = λ r l. omega (arith, row_inside row (rows_held first) o order first h.ranked r (omega arith), h.ranked.order_long);
        rows = λ r l. subst (RowOf (length row) row pos r) (sym (row-part row (rows_held first) o order first h.ranked r (omega arith))) (row_of h r);
      }

  -- with room for a count of each point and of each block of points
  pub laid-countable : {counts blocks : List ℕ} → length row ≤ length counts → length counts / block_size < length blocks
      → Countable order first head next lower pos counts blocks
  laid-countable wide room =
      record {
        upper = upper;
        row = row;
        lists = laid-lists;
        wide = λ r l. omega (arith, row_inside row (rows_held first) o order first h.ranked r (omega arith));
        blocks_long = room;
      }
