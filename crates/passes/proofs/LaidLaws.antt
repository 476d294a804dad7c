-- An order in its lists: each row is a part of the order, and a row put in order and stored gives the lists of the settled order.
use mathlib.Core.Path.{◌≡◌, sym, ap, ◌∙◌}
use mathlib.Core.Logic.{◌≢◌}
use native.Mathlib.Decide.{ℕ_discrete}
use mathlib.Core.Bool.{cond}
use mathlib.Core.List.{List, [], ◌++◌, flatten}
use Prim.Native.Nat.{ℕ, suc, ◌+◌, ◌-◌, ◌≤◌, ◌<◌}
use native.Mathlib.Numerals.{add-one}
use native.Mathlib.Omega.{arith}
use lib.ListN.{length, get_or, take, drop, set, length-set, length-append, take-append-drop}
use lib.Seq.{length-take-le, take_at, get_or-set_same, get_or-set_other, get_or-take}
use borrow.Author.Tests.{eq-eqb, ne_eqb}
use Rattle.graph.specs.Rows.{at}
use Rattle.points.specs.Positions.{position, row_at}
use Rattle.buffers.specs.Lists.{Below, occurs}
use Rattle.passes.specs.Starts.{start}
use Rattle.passes.specs.Laid.{stored, Ranked, Laid}
use Rattle.buffers.proofs.OccursLaws.{row_below, flat-none}
use Rattle.passes.proofs.FlatLaws.{start-suc, start-end, start-set, start-below, flat-row, flat-set}
use Rattle.passes.proofs.PlaceLaws.{stored-length, stored_other, stored-own, place_set}

-- a flat order with another row there
abbrev pub with_row : List ℕ → List ℕ → ℕ → List ℕ → List ℕ
with_row first order r now = take (at first r) order ++ (now ++ drop (at first (r + 1) - at first r) (drop (at first r) order))

module _ (ys : List ℕ) (count : ℕ) (o : List (List ℕ)) (order first : List ℕ) (h : Ranked ys count o order first) where
  -- the points, and then the rest of the buffer
  whole : order ≡ flatten o ++ drop (length ys) order
  whole = sym (take-append-drop (length ys) order) ∙ ap (λ l. l ++ drop (length ys) order) h.flat

  all-points : length (flatten o) ≡ length ys
  all-points = sym (ap length h.flat) ∙ length-take-le (length ys) order h.order_long

  -- behind the last row stands the number of points
  pub points-end : at first count ≡ length ys
  points-end = h.starts count (omega arith) ∙ ap (start o) (sym h.rows) ∙ start-end o ∙ all-points

  -- every entry is a point
  pub entry-below : (i : ℕ) → i < length ys → at order i < length ys
  entry-below i l =
      let e : at (flatten o) i ≡ at order i = sym (ap (λ t. at t i) h.flat) ∙ get_or-take (length ys) order i 0 l in
      omega (arith, row_below (length ys) (flatten o) (λ p b. flat-none p o (λ r. h.none p r b)) i (omega (arith, all-points)))

  module _ (r : ℕ) (l : r < count) where
    wide : at first (r + 1) ≡ at first r + length (get_or o r [])
    wide = rw (add-one r) (omega (arith, h.starts r (omega arith), h.starts (suc r) l, start-suc o r))

    pub wide-less : at first (r + 1) - at first r ≡ length (get_or o r [])
    wide-less = omega (arith, wide)

    pub row-rises : at first r ≤ at first (r + 1)
    row-rises = omega (arith, wide)

    pub row_inside : at first (r + 1) ≤ length ys
    row_inside = rw (add-one r) (omega (arith, h.starts (suc r) l, start-below o (suc r), all-points))

    pub row-short : length (get_or o r []) ≤ length ys
    row-short = omega (arith, wide, row_inside)

    -- the part from first[r] to first[r + 1] is row r
    pub row-part : row_at first order r ≡ get_or o r []
    row-part =
        rw (wide-less, h.starts r (omega arith), whole) (flat-row o (drop (length ys) order) r (rw h.rows l))

    -- every point of it is a point
    pub points-below : (n : ℕ) → length ys ≤ n → Below n (get_or o r [])
    points-below n k = record { below = λ i b. omega (arith, row_below (length ys) (get_or o r []) (λ p. h.none p r) i b) }

    -- Another row with the same points, each as often, put there: the other rows and all starts stay where they are.
    module _ (now : List ℕ) (same : (p : ℕ) → occurs p now ≡ occurs p (get_or o r [])) (long : length now ≡ length (get_or o r [])) where
      put_whole : with_row first order r now ≡ flatten (set o r now) ++ drop (length ys) order
      put_whole =
          rw (wide-less, h.starts r (omega arith))
          (ap (λ (t : List ℕ). take (start o r) t ++ (now ++ drop (length (get_or o r [])) (drop (start o r) t))) whole
          ∙ flat-set o (drop (length ys) order) r now (rw h.rows l))

      put-points : length (flatten (set o r now)) ≡ length ys
      put-points = sym (start-end (set o r now)) ∙ start-set o r (length (set o r now)) now long ∙ ap (start o) (length-set o r now) ∙ start-end o ∙ all-points

      put-occurs : (p q : ℕ) → occurs p (get_or (set o r now) q []) ≡ occurs p (get_or o q [])
      put-occurs p q = go (ℕ_discrete q r)
        where
          go : Dec (q ≡ r) → occurs p (get_or (set o r now) q []) ≡ occurs p (get_or o q [])
          go (yes e) = rw (e, get_or-set_same o r now [] (rw h.rows l)) (same p)
          go (no d) = rw (get_or-set_other o r q now [] d)

      pub put-ranked : Ranked ys count (set o r now) (with_row first order r now) first
      put-ranked =
          record {
            rows = length-set o r now ∙ h.rows;
            once = λ p q b. put-occurs p q ∙ h.once p q b;
            none = λ p q b. put-occurs p q ∙ h.none p q b;
            flat = ap (take (length ys)) put_whole ∙ take_at (flatten (set o r now)) (drop (length ys) order) (length ys) put-points;
            order_long = omega (arith, ap length put_whole, length-append (flatten (set o r now)) (drop (length ys) order), put-points);
            first_long = h.first_long;
            starts = λ k b. h.starts k b ∙ sym (start-set o r k now long);
          }

-- The positions of row r stored in `pos`: those of the others stay, since their points do not stand in row r.
pub put-laid : (ys : List ℕ) (count : ℕ) (o : List (List ℕ)) (order first pos : List ℕ) (h : Laid ys count o order first pos) (r : ℕ) (l : r < count) (now : List ℕ)
    → ((p : ℕ) → occurs p now ≡ occurs p (get_or o r [])) → length now ≡ length (get_or o r [])
    → Laid ys count (set o r now) (with_row first order r now) first (stored 0 now pos)
put-laid ys count o order first pos h r l now same long =
    record {
      ranked = put-ranked ys count o order first h.ranked r l now same long;
      pos_long = omega (arith, stored-length 0 now pos, h.pos_long);
      places = place_set pos (stored 0 now pos) ys o r now (rw h.ranked.rows l) h.places other own;
    }
  where
    other : (p : ℕ) → p < length ys → at ys p ≢ r → at (stored 0 now pos) p ≡ at pos p
    other p b d = stored_other 0 now pos p (same p ∙ h.ranked.once p r b ∙ ap (λ t. cond t 1 0) (ne_eqb (at ys p) r d))

    own : (p : ℕ) → p < length ys → at ys p ≡ r → at (stored 0 now pos) p ≡ position p now
    own p b e =
        omega (arith, stored-own 0 now pos p (omega (arith, h.pos_long)) (same p ∙ h.ranked.once p r b ∙ ap (λ t. cond t 1 0) (eq-eqb (at ys p) r e)))
