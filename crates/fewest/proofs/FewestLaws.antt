-- The first drawing with fewest crossings, and the turns of a loop over the passes that keeps the best so far.
use mathlib.Core.Path.{◌≡◌, refl, sym, ap, ◌∙◌, subst}
use mathlib.Core.Bool.{Bool, true, false, cond}
use mathlib.Core.List.{List, [], ◌∷◌, map}
use Prim.Native.Nat.{ℕ, zero, suc, ◌≤◌, ◌<◌}
use native.Mathlib.Omega.{arith}
use borrow.Author.Tests.{lt-ltb, le-ltb, ltb-true, ltb-false}
use lib.Dec.{ltb}
use lib.ListN.{length, get_or, get_or-map}
use Rattle.points.specs.Points.{Segment}
use Rattle.passes.specs.Order.{Direction, downward, upward, turned, pass, results, start_order}
use Rattle.crossings.specs.Crossings.{crossings}
use Rattle.fewest.specs.Fewest.{Drawing, drawn, fewest, pass_count, best_order}
use Rattle.fewest.specs.Drafts.{rest_from}

-- The drawing d is the first with fewest crossings of the list ds: it is one of them, none has fewer, and each before it has more.
pub record FirstFewest (none : Drawing) (ds : List Drawing) (d : Drawing) : Type 0 where
  pub which : ℕ
  pub inside : which < length ds
  pub one : d ≡ get_or ds which none
  pub least : (i : ℕ) → i < length ds → d.crossings ≤ (get_or ds i none).crossings
  pub first : (i : ℕ) → i < which → d.crossings < (get_or ds i none).crossings

-- one drawing more in front: it has more crossings than the best of the others, which stays the first
first-after : {none d : Drawing} {ds : List Drawing} (a : Drawing) → FirstFewest none ds d → d.crossings < a.crossings → FirstFewest none (a ∷ ds) d
first-after {none} {d} {ds} a h l = record { which = suc h.which; inside = omega (arith, h.inside); one = h.one; least = least; first = first }
  where
    least : (i : ℕ) → i < suc (length ds) → d.crossings ≤ (get_or (a ∷ ds) i none).crossings
    least zero g = omega arith
    least (suc i) g = h.least i (omega arith)

    first : (i : ℕ) → i < suc h.which → d.crossings < (get_or (a ∷ ds) i none).crossings
    first zero g = l
    first (suc i) g = h.first i (omega arith)

-- one more behind the first that is no better than it: the first with fewest is the same
first-beside : {none d b : Drawing} {ds : List Drawing} (a : Drawing) → FirstFewest none (b ∷ ds) d → b.crossings ≤ a.crossings → FirstFewest none (b ∷ a ∷ ds) d
first-beside {none} {d} {b} {ds} a h l = go h.which refl
  where
    least : (i : ℕ) → i < suc (suc (length ds)) → d.crossings ≤ (get_or (b ∷ a ∷ ds) i none).crossings
    least zero g = h.least 0 (omega arith)
    least (suc zero) g = omega (arith, h.least 0 (omega arith))
    least (suc (suc i)) g = h.least (suc i) (omega arith)

    go : (w : ℕ) → w ≡ h.which → FirstFewest none (b ∷ a ∷ ds) d
    go zero e = record { which = 0; inside = omega arith; one = h.one ∙ ap (λ (k : ℕ). get_or (b ∷ ds) k none) (sym e); least = least; first = λ i g. absurd (omega arith) }
    go (suc w) e = record { which = suc (suc w); inside = omega (arith, h.inside); one = h.one ∙ ap (λ (k : ℕ). get_or (b ∷ ds) k none) (sym e); least = least; first = first }
      where
        first : (i : ℕ) → i < suc (suc w) → d.crossings < (get_or (b ∷ a ∷ ds) i none).crossings
        first zero g = h.first 0 (omega arith)
        first (suc zero) g = omega (arith, h.first 0 (omega arith))
        first (suc (suc i)) g = h.first (suc i) (omega arith)

-- `fewest` hands out the first with fewest. Of one drawing it is that; of b and d, the one that is kept stands for both: where d is
-- better, b has more crossings than all that is handed out after it, and where d is no better, b comes before it with no more.
pub fewest-first : (none b : Drawing) (ds : List Drawing) → FirstFewest none (b ∷ ds) (fewest b ds)
unfolding fewest
fewest-first none b [] = record { which = 0; inside = omega arith; one = refl; least = least; first = λ i g. absurd (omega arith) }
  where
    least : (i : ℕ) → i < 1 → b.crossings ≤ (get_or (b ∷ []) i none).crossings
    least zero g = omega arith
    least (suc i) g = absurd (omega arith)
fewest-first none b (d ∷ ds) = go (ltb d.crossings b.crossings) refl (fewest-first none d ds) (fewest-first none b ds)
  where
    go : (t : Bool) → ltb d.crossings b.crossings ≡ t → FirstFewest none (d ∷ ds) (fewest d ds) → FirstFewest none (b ∷ ds) (fewest b ds)
        → FirstFewest none (b ∷ d ∷ ds) (fewest (cond t d b) ds)
    go true e better same = first-after b better (omega (arith, better.least 0 (omega arith), ltb-true d.crossings b.crossings e))
    go false e better same = first-beside d same (ltb-false _ _ e)

-- Each turn of a loop over the passes leaves the drawing that is handed out as it was.
module _ (ys : List ℕ) (segs : List Segment) where
  pub rest-start : (count : ℕ) → best_order count ys segs ≡ rest_from ys segs (start_order count ys) pass_count downward (start_order count ys)
  unfolding best_order rest_from
  rest-start count = refl

  module _ (best : List (List ℕ)) (k : ℕ) (d : Direction) (o : List (List ℕ)) where
    rest-turn : (t : Bool) → ltb (crossings ys segs (pass segs ys d o)) (crossings ys segs best) ≡ t
        → rest_from ys segs best (suc k) d o ≡ fewest (cond t (drawn ys segs (pass segs ys d o)) (drawn ys segs best)) (map (drawn ys segs) (results segs ys k (turned d) (pass segs ys d o)))
    unfolding rest_from fewest drawn results
    rest-turn t e =
        ap (λ (b : Bool). fewest (cond b (drawn ys segs (pass segs ys d o)) (drawn ys segs best)) (map (drawn ys segs) (results segs ys k (turned d) (pass segs ys d o)))) e

    -- a result with fewer crossings is the best from now on
    pub rest-better : crossings ys segs (pass segs ys d o) < crossings ys segs best
        → rest_from ys segs best (suc k) d o ≡ rest_from ys segs (pass segs ys d o) k (turned d) (pass segs ys d o)
    unfolding rest_from
    rest-better h = rest-turn true (lt-ltb _ _ h)

    -- one with as many or more is not: the first stays
    pub rest-kept : crossings ys segs best ≤ crossings ys segs (pass segs ys d o)
        → rest_from ys segs best (suc k) d o ≡ rest_from ys segs best k (turned d) (pass segs ys d o)
    unfolding rest_from
    rest-kept h = rest-turn false (le-ltb _ _ h)

  pub rest_end : (best : List (List ℕ)) (d : Direction) (o : List (List ℕ)) → rest_from ys segs best 0 d o ≡ drawn ys segs best
  unfolding rest_from fewest results
  rest_end best d o = refl

  -- Where a pass down and a pass up lead back to the order that they began with, and the best so far has no more crossings than either
  -- result, the passes that are left give these two results again and again, and none takes the place of the best.
  pub rest-still : (best o : List (List ℕ)) (k : ℕ) → pass segs ys upward (pass segs ys downward o) ≡ o
      → crossings ys segs best ≤ crossings ys segs (pass segs ys downward o) → crossings ys segs best ≤ crossings ys segs o
      → rest_from ys segs best k downward o ≡ drawn ys segs best
  rest-still best o zero e down up = rest_end best downward o
  rest-still best o (suc zero) e down up = rest-kept best 0 downward o down ∙ rest_end best upward (pass segs ys downward o)
  rest-still best o (suc (suc k)) e down up =
      rest-kept best (suc k) downward o down
      ∙ rest-kept best k upward (pass segs ys downward o) (subst (λ (x : List (List ℕ)). crossings ys segs best ≤ crossings ys segs x) (sym e) up)
      ∙ ap (rest_from ys segs best k downward) e ∙ rest-still best o k e down up

  -- The orders that are compared: the start and the results of the passes.
  unfoldable pub orders : ℕ → List (List (List ℕ))
  orders count = start_order count ys ∷ results segs ys pass_count downward (start_order count ys)

  -- The drawing of a chart is the first with fewest crossings of these.
  pub best-first : (count : ℕ) → FirstFewest (drawn ys segs []) (map (drawn ys segs) (orders count)) (best_order count ys segs)
  unfolding best_order orders
  best-first count = fewest-first (drawn ys segs []) _ _

  -- The crossings that it has are those of the order that it has: it is one of the drawings, and each of them is so.
  pub best_crossings : (count : ℕ) → (best_order count ys segs).crossings ≡ crossings ys segs (best_order count ys segs).order
  unfolding drawn
  best_crossings count =
      let f = best-first count in
      let e = f.one ∙ get_or-map (drawn ys segs) (orders count) f.which [] in
      ap (λ (d : Drawing). d.crossings) e ∙ sym (ap (λ (d : Drawing). crossings ys segs d.order) e)
