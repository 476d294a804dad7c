-- The turns of the loops that fill the table.
use mathlib.Core.Path.{◌≡◌, refl, sym, ap, ◌∙◌, subst}
use mathlib.Core.Bool.{Bool, true, false, cond}
use mathlib.Core.List.{List, [], ◌∷◌}
use Prim.Native.Nat.{ℕ, zero, suc, ◌+◌, ◌-◌, ◌*◌, ◌≤◌, ◌<◌}
use native.Mathlib.Numerals.{add-one}
use native.Mathlib.Omega.{arith}
use lib.Dec.{eqb}
use lib.ListN.{length, get_or, take, drop, set, length-set, length-drop, drop_of_length-le}
use lib.Seq.{drop-cons, get_or-set_same, get_or-set_other}
use borrow.Author.Tests.{eqb-true, eqb-false, eq-eqb, ne_eqb, lt-ltb, le-ltb}
use Rattle.crossings.specs.Crossings.{PlacedSegment}
use Rattle.crossings.specs.Between.{segment_to}
use Rattle.exchange.specs.Limits.{max_row_points}
use Rattle.exchange.specs.Tables.{table_size, cost_in}
use Rattle.std.proofs.lemmas.List.{take_rest}
use Rattle.std.proofs.lemmas.List.Elements.{All-drop}
use Rattle.pairs.specs.declared.ends.Ends.{Ends}
use Rattle.pairs.specs.Segments.{cross_either, cost_between, cost_from, placed_end, placed}
use Rattle.pairs.specs.Filling.{ends_limit, after_room, pair_room, UpTo, FewEnds, CostsAdded, FilledIs}
use Rattle.pairs.proofs.PairLaws.{zero-either}

-- one more at an entry of the table
abbrev pub raised : List ℕ → ℕ → List ℕ
raised costs k = set costs k (get_or costs k 0 + 1)

raised_at : (costs : List ℕ) (k m : ℕ) → k < length costs → get_or (raised costs k) m 0 ≡ get_or costs m 0 + cond (eqb m k) 1 0
raised_at costs k m h = go (eqb m k) refl
  where
    go : (t : Bool) → eqb m k ≡ t → get_or (raised costs k) m 0 ≡ get_or costs m 0 + cond t 1 0
    go true e =
        let q : m ≡ k = eqb-true m k e in
        subst (λ (x : ℕ). get_or (raised costs k) x 0 ≡ get_or costs x 0 + 1) (sym q) (get_or-set_same costs k (get_or costs k 0 + 1) 0 h)
    go false e = get_or-set_other costs k m (get_or costs k 0 + 1) 0 (eqb-false m k e) ∙ (omega arith)

-- entries of a table are told apart by their line and their place in it
apart : (i j x y : ℕ) → j < max_row_points → y < max_row_points → cond (eqb (i * max_row_points + j) (x * max_row_points + y)) 1 0 ≡ cond (eqb i x) (cond (eqb j y) 1 0) zero
apart i j x y h l = go (eqb i x) refl (eqb j y) refl
  where
    go : (s : Bool) → eqb i x ≡ s → (t : Bool) → eqb j y ≡ t → cond (eqb (i * max_row_points + j) (x * max_row_points + y)) 1 0 ≡ cond s (cond t 1 0) zero
    go true e true f = rw (eq-eqb (i * max_row_points + j) (x * max_row_points + y) (omega (arith, eqb-true i x e, eqb-true j y f)))
    go true e false f = rw (ne_eqb (i * max_row_points + j) (x * max_row_points + y) (λ q. eqb-false j y f (omega (arith, q, eqb-true i x e))))
    go false e t f = rw (ne_eqb (i * max_row_points + j) (x * max_row_points + y) (λ q. eqb-false i x e (omega (arith, q))))

most-one : (t : Bool) → cond t 1 0 ≤ suc zero
most-one true = omega arith
most-one false = omega arith

raised-room : (costs : List ℕ) (k most m : ℕ) → k < length costs → UpTo most costs → get_or (raised costs k) m 0 ≤ most + 1
raised-room costs k most m h r = omega (arith, raised_at costs k m h, most-one (eqb m k), r.low m)

-- ---- a pair of segments

module _ (old : List ℕ) (u x v y most : ℕ) (r : UpTo most old) (h : x < max_row_points) (l : y < max_row_points) where
  pub pair_left : v < u → CostsAdded 1 (cross_either (segment_to 0 u x) (segment_to 0 v y)) old (raised old (x * max_row_points + y))
  pair_left g = record { table = simp length-set r.table; each = each; room = λ m q k. raised-room old (x * max_row_points + y) m k (omega (arith, r.table)) q }
    where
      each : (i j : ℕ) → i < max_row_points → j < max_row_points
          → cost_in (raised old (x * max_row_points + y)) i j ≡ cost_in old i j + cross_either (segment_to 0 u x) (segment_to 0 v y) i j
      each i j a b =
          rw (lt-ltb v u g, le-ltb u v (omega arith))
          (omega (arith, raised_at old (x * max_row_points + y) (i * max_row_points + j) (omega (arith, r.table)), apart i j x y b l, zero-either (eqb i y) (eqb j x)))

  pub pair-right : u < v → CostsAdded 1 (cross_either (segment_to 0 u x) (segment_to 0 v y)) old (raised old (y * max_row_points + x))
  pair-right g = record { table = simp length-set r.table; each = each; room = λ m q k. raised-room old (y * max_row_points + x) m k (omega (arith, r.table)) q }
    where
      each : (i j : ℕ) → i < max_row_points → j < max_row_points
          → cost_in (raised old (y * max_row_points + x)) i j ≡ cost_in old i j + cross_either (segment_to 0 u x) (segment_to 0 v y) i j
      each i j a b =
          rw (lt-ltb u v g, le-ltb v u (omega arith))
          (omega (arith, raised_at old (y * max_row_points + x) (i * max_row_points + j) (omega (arith, r.table)), apart i j y x b h, zero-either (eqb i x) (eqb j y)))

  pub pair-none : u ≤ v → v ≤ u → CostsAdded 1 (cross_either (segment_to 0 u x) (segment_to 0 v y)) old old
  pair-none g f = record { table = r.table; each = each; room = λ m q k. omega (arith, q.low k) }
    where
      each : (i j : ℕ) → i < max_row_points → j < max_row_points → cost_in old i j ≡ cost_in old i j + cross_either (segment_to 0 u x) (segment_to 0 v y) i j
      each i j a b = rw (le-ltb u v f, le-ltb v u g) (omega (arith, zero-either (eqb i y) (eqb j x), zero-either (eqb i x) (eqb j y)))

-- ---- a segment with those after it

-- what a segment costs with the others from the first on
with-first : (s t : PlacedSegment) (l : List PlacedSegment) (i j : ℕ) → cost_between s (t ∷ l) i j ≡ cross_either s t i j + cost_between s l i j
unfolding cost_between
with-first s t l i j = refl

with-none : (s : PlacedSegment) (i j : ℕ) → cost_between s [] i j ≡ 0
unfolding cost_between
with-none s i j = refl

from-first : (s : PlacedSegment) (l : List PlacedSegment) (i j : ℕ) → cost_from (s ∷ l) i j ≡ cost_between s l i j + cost_from l i j
unfolding cost_from
from-first s l i j = refl

from-none : (i j : ℕ) → cost_from [] i j ≡ 0
unfolding cost_from
from-none i j = refl

module _ (ends : List Ends) (b : ℕ) where
  placed_more : (d : Ends) → b < length ends → placed 0 (drop b ends) ≡ placed_end 0 (get_or ends b d) ∷ placed 0 (drop (b + 1) ends)
  placed_more d h = rw (drop-cons ends b d h, add-one b) refl

  placed_none : length ends ≤ b → placed 0 (drop b ends) ≡ []
  placed_none h = rw (drop_of_length-le ends {i = b} h) refl

-- The costs so far and those with the segments from b on make the whole.
pub record Counting (s : Ends) (after : List Ends) (old new : List ℕ) (b : ℕ) : Type 0 where
  pub within : b ≤ length after
  pub table : length new ≡ table_size
  pub each : (i j : ℕ) → i < max_row_points → j < max_row_points
      → cost_in new i j + cost_between (placed_end 0 s) (placed 0 (drop b after)) i j ≡ cost_in old i j + cost_between (placed_end 0 s) (placed 0 after) i j
  pub room : (most : ℕ) → UpTo most old → (k : ℕ) → get_or new k 0 ≤ most + b

pub counting-start : (s : Ends) (after : List Ends) (most : ℕ) (old : List ℕ) → UpTo most old → Counting s after old old 0
counting-start s after most old r = record { within = omega arith; table = r.table; each = λ i j p q. refl; room = λ m q k. omega (arith, q.low k) }

module _ (s : Ends) (after : List Ends) (old new : List ℕ) (b : ℕ) (c : Counting s after old new b) where
  pub counting-room : FewEnds max_row_points after → UpTo after_room old → UpTo pair_room new
  counting-room l r = record { table = c.table; low = λ k. omega (arith, c.room after_room r k, c.within, l.few) }

  pub counting_more : (d : Ends) (newer : List ℕ) → b < length after → CostsAdded 1 (cross_either (placed_end 0 s) (placed_end 0 (get_or after b d))) new newer
      → Counting s after old newer (b + 1)
  counting_more d newer h w = record {
    within = omega arith;
    table = w.table;
    each = each;
    room = λ m q k. omega (arith, w.room (m + b) (record { table = c.table; low = c.room m q }) k);
  }
    where
      each : (i j : ℕ) → i < max_row_points → j < max_row_points
          → cost_in newer i j + cost_between (placed_end 0 s) (placed 0 (drop (b + 1) after)) i j ≡ cost_in old i j + cost_between (placed_end 0 s) (placed 0 after) i j
      each i j p q =
          omega (
            arith,
            c.each i j p q,
            w.each i j p q,
            ap (λ (l : List PlacedSegment). cost_between (placed_end 0 s) l i j) (placed_more after b d h)
                ∙ with-first (placed_end 0 s) (placed_end 0 (get_or after b d)) (placed 0 (drop (b + 1) after)) i j,
          )

  pub counting-end : length after ≤ b → FewEnds max_row_points after → CostsAdded ends_limit (cost_between (placed_end 0 s) (placed 0 after)) old new
  counting-end h l = record {
    table = c.table;
    each = λ i j p q. omega (arith, c.each i j p q, ap (λ (m : List PlacedSegment). cost_between (placed_end 0 s) m i j) (placed_none after b h) ∙ with-none (placed_end 0 s) i j);
    room = λ m q k. omega (arith, c.room m q k, c.within, l.few);
  }

-- ---- all segments

-- the segments behind a place are few too
pub rest-few : (k a : ℕ) (ends : List Ends) → FewEnds k ends → FewEnds k (take (length ends - a) (drop a ends))
rest-few k a ends f = rw (take_rest ends) (record { few = omega (arith, f.few, length-drop a ends); inside = All-drop (λ (e : Ends). e.lower < k) a ends f.inside })

-- The costs so far and those of the segments from a on make the whole.
pub record Gathering (ends : List Ends) (costs : List ℕ) (a : ℕ) : Type 0 where
  pub within : a ≤ length ends
  pub table : length costs ≡ table_size
  pub each : (i j : ℕ) → i < max_row_points → j < max_row_points → cost_in costs i j + cost_from (placed 0 (drop a ends)) i j ≡ cost_from (placed 0 ends) i j
  pub low : (k : ℕ) → get_or costs k 0 ≤ a * ends_limit

pub gathering-start : (ends : List Ends) (costs : List ℕ) → UpTo 0 costs → Gathering ends costs 0
gathering-start ends costs r = record {
  within = omega arith;
  table = r.table;
  each = λ i j p q. omega (arith, r.low (i * max_row_points + j));
  low = λ k. omega (arith, r.low k);
}

module _ (ends : List Ends) (costs : List ℕ) (a : ℕ) (s : Gathering ends costs a) (l : FewEnds max_row_points ends) where
  room-now : UpTo (a * ends_limit) costs
  room-now = record { table = s.table; low = s.low }

  pub gathering-room : UpTo after_room costs
  gathering-room = record { table = s.table; low = λ k. omega (arith, s.low k, s.within, l.few) }

  pub gathering-more : (d : Ends) (new : List ℕ) → a < length ends
      → CostsAdded ends_limit (cost_between (placed_end 0 (get_or ends a d)) (placed 0 (take (length ends - (a + 1)) (drop (a + 1) ends)))) costs new → Gathering ends new (a + 1)
  gathering-more d new h w = record {
    within = omega arith;
    table = w.table;
    each = each;
    low = λ k. omega (arith, w.room (a * ends_limit) room-now k);
  }
    where
      each : (i j : ℕ) → i < max_row_points → j < max_row_points → cost_in new i j + cost_from (placed 0 (drop (a + 1) ends)) i j ≡ cost_from (placed 0 ends) i j
      each i j p q =
          omega (
            arith,
            s.each i j p q,
            w.each i j p q,
            ap (λ (m : List Ends). cost_between (placed_end 0 (get_or ends a d)) (placed 0 m) i j) (take_rest ends (a + 1)),
            ap (λ (m : List PlacedSegment). cost_from m i j) (placed_more ends a d h)
                ∙ from-first (placed_end 0 (get_or ends a d)) (placed 0 (drop (a + 1) ends)) i j,
          )

  pub gathering-end : length ends ≤ a → FilledIs ends costs
  gathering-end h = record {
    table = s.table;
    low = λ k. omega (arith, s.low k, s.within, l.few);
    each = λ i j p q. omega (arith, s.each i j p q, ap (λ (m : List PlacedSegment). cost_from m i j) (placed_none ends a h) ∙ from-none i j);
  }
