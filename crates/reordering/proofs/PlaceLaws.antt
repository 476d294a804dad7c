-- Segments labelled by points and by where the points stand: the same crossings.
use mathlib.Core.Path.{◌≡◌, refl, sym, ap, ◌∙◌}
use mathlib.Core.Bool.{Bool, true, false, ◌||◌, cond}
use mathlib.Core.List.{List, [], ◌∷◌, map}
use Prim.Native.Nat.{ℕ, zero, suc, ◌<◌}
use native.Mathlib.Omega.{arith}
use lib.Dec.{eqb}
use lib.ListN.{length}
use borrow.Author.Tests.{eqb-true, eqb-false, eq-eqb, ne_eqb}
use Rattle.graph.specs.Rows.{at}
use Rattle.buffers.specs.Lists.{Below, occurs}
use Rattle.points.specs.Positions.{position}
use Rattle.points.proofs.PositionLaws.{position-finds, position_at}
use Rattle.crossings.specs.Crossings.{PlacedSegment, crossing_pairs}
use Rattle.pairs.specs.Segments.{reordered, crossings_in, only, pair_crossings}

-- the points of a row, each once
pub record Single (points : List ℕ) : Type 0 where
  pub once : (i : ℕ) → i < length points → occurs (at points i) points ≡ 1

-- segments that end at points of the row
pub data Landing (points : List ℕ) : List PlacedSegment → Type 0 where
  nowhere : Landing points []
  lands : {s : PlacedSegment} {ss : List PlacedSegment} → 0 < occurs s.lower points → Landing points ss → Landing points (s ∷ ss)

module _ (points : List ℕ) (single : Single points) where
  -- a point is the one at i just where it stands at i
  same_place : (x i : ℕ) → 0 < occurs x points → i < length points → eqb (position x points) i ≡ eqb x (at points i)
  same_place x i h l = go (eqb x (at points i)) refl
    where
      go : (b : Bool) → eqb x (at points i) ≡ b → eqb (position x points) i ≡ b
      go true e =
          let same : x ≡ at points i = eqb-true x (at points i) e in
          eq-eqb (position x points) i (ap (λ (y : ℕ). position y points) same ∙ position_at points i l (single.once i l))
      go false e = ne_eqb (position x points) i (λ q. eqb-false x (at points i) e (sym (position-finds x points h) ∙ ap (at points) q))

  -- Where a point stands in an order of the row is where its position stands in the order written in positions.
  place-named : (x : ℕ) (p : List ℕ) → 0 < occurs x points → Below (length points) p → position (position x points) p ≡ position x (map (at points) p)
  unfolding position
  place-named x [] h l = refl
  place-named x (i ∷ p) h l =
      rw (same_place x i h (l.below 0 (omega arith)), place-named x p h (record { below = λ j g. l.below (suc j) (omega arith) }))

  module _ (p : List ℕ) (low : Below (length points) p) where
    ends_named : (ss : List PlacedSegment) → Landing points ss → map (reordered p) (map (reordered points) ss) ≡ map (reordered (map (at points) p)) ss
    ends_named [] nowhere = refl
    ends_named (s ∷ ss) (lands h rest) = rw (place-named s.lower p h low, ends_named ss rest)

    -- The crossings of the positions in an order are those of the points in it.
    pub crossings-named : (ss : List PlacedSegment) → Landing points ss → crossings_in (map (reordered points) ss) p ≡ crossings_in ss (map (at points) p)
    unfolding crossings_in
    crossings-named ss h = ap crossing_pairs (ends_named ss h)

  module _ (i j : ℕ) (a : i < length points) (b : j < length points) where
    only-named : (ss : List PlacedSegment) → Landing points ss → only i j (map (reordered points) ss) ≡ map (reordered points) (only (at points i) (at points j) ss)
    unfolding only
    only-named [] nowhere = refl
    only-named (s ∷ ss) (lands h rest) =
        rw (same_place s.lower i h a, same_place s.lower j h b, only-named ss rest) (go (eqb s.lower (at points i) || eqb s.lower (at points j)) (only (at points i) (at points j) ss))
      where
        go : (c : Bool) (kept : List PlacedSegment) → cond c (reordered points s ∷ map (reordered points) kept) (map (reordered points) kept) ≡ map (reordered points) (cond c (s ∷ kept) kept)
        go true kept = refl
        go false kept = refl

    only-lands : (ss : List PlacedSegment) → Landing points ss → Landing points (only (at points i) (at points j) ss)
    unfolding only
    only-lands [] nowhere = nowhere
    only-lands (s ∷ ss) (lands h rest) = go (eqb s.lower (at points i) || eqb s.lower (at points j)) (only (at points i) (at points j) ss) (only-lands ss rest)
      where
        go : (c : Bool) (kept : List PlacedSegment) → Landing points kept → Landing points (cond c (s ∷ kept) kept)
        go true kept k = lands {s = s} h k
        go false kept k = k

    two-low : Below (length points) (i ∷ j ∷ [])
    two-low = record { below = low }
      where
        low : (k : ℕ) → k < 2 → at (i ∷ j ∷ []) k < length points
        low zero g = a
        low (suc zero) g = b
        low (suc (suc k)) g = absurd (omega arith)

    -- and those of a pair the pair's
    pub pair-named : (ss : List PlacedSegment) → Landing points ss → pair_crossings (map (reordered points) ss) i j ≡ pair_crossings ss (at points i) (at points j)
    pair-named ss h =
        ap (λ (l : List PlacedSegment). crossings_in l (i ∷ j ∷ [])) (only-named ss h)
        ∙ crossings-named (i ∷ j ∷ []) two-low (only (at points i) (at points j) ss) (only-lands ss h)
