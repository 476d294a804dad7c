-- Positions stored row by row, until every point has its own.
use mathlib.Core.Path.{◌≡◌, refl, sym, ap, ◌∙◌, subst}
use mathlib.Core.Bool.{Bool, true, false, cond}
use mathlib.Core.List.{List, []}
use Prim.Native.Nat.{ℕ, ◌+◌, ◌≤◌, ◌<◌}
use native.Mathlib.Decide.{ℕ_discrete}
use native.Mathlib.Omega.{arith}
use lib.Dec.{ltb}
use lib.ListN.{length, get_or, get_or-eq_default}
use borrow.Author.Tests.{eq-eqb, ne_eqb, ltb-true, ltb-false}
use Rattle.graph.specs.Rows.{at}
use Rattle.points.specs.Positions.{position, place, row_at}
use Rattle.buffers.specs.Lists.{Below, occurs}
use Rattle.points.proofs.PositionLaws.{position_in}
use Rattle.passes.specs.Laid.{stored, Ranked, Laid, Placeable, Positioned}
use Rattle.passes.proofs.PlaceLaws.{stored_other, stored-own}
use Rattle.passes.proofs.LaidLaws.{points-end, row-part, row-short, row-rises, row_inside, points-below}

-- the points of the rows before row r have their positions
pub record PlacedRows (count : ℕ) (order first : List ℕ) (r : ℕ) (pos : List ℕ) : Type 0 where
  pub places : (ys : List ℕ) (o : List (List ℕ)) → Ranked ys count o order first → (p : ℕ) → p < length ys → at ys p < r → at pos p ≡ place ys o p

-- a point stands in a row that there is
pub row-exists : (ys : List ℕ) (count : ℕ) (o : List (List ℕ)) (order first : List ℕ) → Ranked ys count o order first → (p : ℕ) → p < length ys → at ys p < count
unfolding occurs
row-exists ys count o order first h p l = go (ltb (at ys p) count) refl
  where
    go : (t : Bool) → ltb (at ys p) count ≡ t → at ys p < count
    go true e = ltb-true (at ys p) count e
    go false e =
        let past : length o ≤ at ys p = omega (arith, ltb-false (at ys p) count e, h.rows) in
        absurd
        (omega
        (arith, h.once p (at ys p) l, ap {B = ℕ} (λ (t : Bool). cond t 1 0) (eq-eqb (at ys p) (at ys p) refl), ap (occurs p) (get_or-eq_default o [] past)))

-- its position is that in a row of points, each of which stands once there: so no position is as large as the number of points
pub position-low : {ys : List ℕ} {count : ℕ} {o : List (List ℕ)} {order first pos : List ℕ} → Laid ys count o order first pos → (p : ℕ) → p < length ys → at pos p < length ys
unfolding place
position-low {ys} {count} {o} {order} {first} h p l =
    let r = at ys p in
    let b : r < count = row-exists ys count o order first h.ranked p l in
    let once : occurs p (get_or o r []) ≡ 1 = h.ranked.once p r l ∙ ap {B = ℕ} (λ (t : Bool). cond t 1 0) (eq-eqb r r refl) in
    omega (arith, h.places p l, position_in p (get_or o r []) (omega (arith, once)), row-short ys count o order first h.ranked r b)

module _ {count : ℕ} {order first pos₀ : List ℕ} (s : Placeable count order first pos₀) where
  points-same : (ys : List ℕ) (o : List (List ℕ)) → Ranked ys count o order first → length ys ≡ length s.ys
  points-same ys o h = sym (points-end ys count o order first h) ∙ points-end s.ys count s.o order first s.ranked

  pub placed-start : PlacedRows count order first 0 pos₀
  placed-start = record { places = λ ys o h p l k. absurd (omega arith) }

  -- Row r is stored: its points get their positions, and no other point stands in it.
  pub placed-turn : {r : ℕ} {pos : List ℕ} → r < count → length pos ≡ length pos₀ → PlacedRows count order first r pos
      → {pos' : List ℕ} → pos' ≡ stored 0 (row_at first order r) pos → PlacedRows count order first (r + 1) pos'
  unfolding place
  placed-turn {r} {pos} l long h {pos'} e = record { places = places }
    where
      is : (ys : List ℕ) (o : List (List ℕ)) → Ranked ys count o order first → pos' ≡ stored 0 (get_or o r []) pos
      is ys o k = e ∙ ap (λ (t : List ℕ). stored 0 t pos) (row-part ys count o order first k r l)

      places : (ys : List ℕ) (o : List (List ℕ)) → Ranked ys count o order first → (p : ℕ) → p < length ys → at ys p < r + 1
          → at pos' p ≡ position p (get_or o (at ys p) [])
      places ys o k p b m = ap (λ (t : List ℕ). at t p) (is ys o k) ∙ go (ℕ_discrete (at ys p) r)
        where
          go : Dec (at ys p ≡ r) → at (stored 0 (get_or o r []) pos) p ≡ position p (get_or o (at ys p) [])
          go (yes q) =
              rw q
              (omega
              (arith, stored-own 0 (get_or o r []) pos p (omega (arith, points-same ys o k, s.pos_long)) (k.once p r b ∙ ap {B = ℕ} (λ (t : Bool). cond t 1 0) (eq-eqb (at ys p) r q))))
          go (no d) =
              stored_other 0 (get_or o r []) pos p (k.once p r b ∙ ap {B = ℕ} (λ (t : Bool). cond t 1 0) (ne_eqb (at ys p) r d))
              ∙ h.places ys o k p b (omega arith)

  pub placed_end : {r : ℕ} {pos : List ℕ} → count ≤ r → length pos ≡ length pos₀ → PlacedRows count order first r pos → Positioned count order first pos
  placed_end {r} {pos} l long h =
      record {
        laid = λ ys o k.
            record {
              ranked = k;
              pos_long = omega (arith, points-same ys o k, s.pos_long);
              places = λ p b. h.places ys o k p b (omega (arith, row-exists ys count o order first k p b));
            };
      }

  -- what storing row r asks for
  module _ {r : ℕ} (l : r < count) where
    pub starts-rise : at first r ≤ at first (r + 1)
    starts-rise = row-rises s.ys count s.o order first s.ranked r l

    pub ends-within : at first (r + 1) ≤ length order
    ends-within = omega (arith, row_inside s.ys count s.o order first s.ranked r l, s.ranked.order_long)

    pub points-within : (pos : List ℕ) → length pos ≡ length pos₀ → Below (length pos) (row_at first order r)
    points-within pos long =
        subst (Below (length pos)) (sym (row-part s.ys count s.o order first s.ranked r l))
        (points-below s.ys count s.o order first s.ranked r l (length pos) (omega (arith, s.pos_long)))
