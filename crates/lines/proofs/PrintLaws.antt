-- The points in front that stand in a row, and the lines of the rows.
use mathlib.Core.Path.{◌≡◌, refl, ap, ◌∙◌, subst}
use mathlib.Core.Bool.{Bool, true, false, cond}
use mathlib.Core.List.{List, [], ◌∷◌, ◌++◌, map}
use Prim.Native.Nat.{ℕ, suc, ◌+◌, ◌-◌, ◌≤◌, ◌<◌}
use native.Mathlib.Numerals.{add-one}
use native.Mathlib.Omega.{arith}
use borrow.Author.Tests.{eq-eqb, ne_eqb}
use lib.Dec.{eqb}
use lib.ListN.{length, take, drop, drop_of_length-le, length-drop, length-append}
use lib.Seq.{drop-cons, get_or-take, get_or-drop}
use Rattle.graph.specs.Rows.{at}
use Rattle.buffers.specs.Lists.{Below}
use Rattle.labels.specs.Text.{blank, newline, decimal, blanked}
use Rattle.labels.proofs.PageLaws.{Parts}
use Rattle.lines.specs.Lines.{line}
use Rattle.lines.specs.Printing.{leading, behind, line_in, lines_from}

-- ---- the points of a row

leading-more : (ys : List ℕ) (r p : ℕ) (ps : List ℕ) → at ys p ≡ r → leading ys r (p ∷ ps) ≡ p ∷ leading ys r ps
unfolding leading
leading-more ys r p ps e = rw (eq-eqb (at ys p) r e)

leading-stop : (ys : List ℕ) (r p : ℕ) (ps : List ℕ) → (at ys p ≡ r → ⊥) → leading ys r (p ∷ ps) ≡ []
unfolding leading
leading-stop ys r p ps e = rw (ne_eqb (at ys p) r e)

module _ (ys : List ℕ) (r : ℕ) (ps : List ℕ) (i : ℕ) where
  front : i < length ps → drop i ps ≡ at ps i ∷ drop (i + 1) ps
  front h = rw (add-one i) (drop-cons ps i 0 h)

  pub leading-turn : i < length ps → at ys (at ps i) ≡ r → leading ys r (drop i ps) ≡ at ps i ∷ leading ys r (drop (i + 1) ps)
  leading-turn h e = ap (leading ys r) (front h) ∙ leading-more ys r (at ps i) (drop (i + 1) ps) e

  pub leading-other : i < length ps → (at ys (at ps i) ≡ r → ⊥) → leading ys r (drop i ps) ≡ []
  leading-other h e = ap (leading ys r) (front h) ∙ leading-stop ys r (at ps i) (drop (i + 1) ps) e

  pub leading_end : length ps ≤ i → leading ys r (drop i ps) ≡ []
  unfolding leading
  leading_end h = ap (leading ys r) (drop_of_length-le ps h)

-- they are the first ones
pub leading-front : (ys : List ℕ) (r : ℕ) (ps : List ℕ) → take (length (leading ys r ps)) ps ≡ leading ys r ps
unfolding leading
leading-front ys r [] = refl
leading-front ys r (p ∷ ps) = go (eqb (at ys p) r) (leading-front ys r ps)
  where
    go : (b : Bool) → take (length (leading ys r ps)) ps ≡ leading ys r ps
        → take (length (cond b (p ∷ leading ys r ps) [])) (p ∷ ps) ≡ cond b (p ∷ leading ys r ps) []
    go true e = ap (p ∷◌) e
    go false e = refl

pub leading-few : (ys : List ℕ) (r : ℕ) (ps : List ℕ) → length (leading ys r ps) ≤ length ps
unfolding leading
leading-few ys r [] = omega arith
leading-few ys r (p ∷ ps) = go (eqb (at ys p) r) (leading-few ys r ps)
  where
    go : (b : Bool) → length (leading ys r ps) ≤ length ps → length (cond b (p ∷ leading ys r ps) []) ≤ suc (length ps)
    go true h = omega arith
    go false h = omega arith

-- the points are parted where the row ends
module _ (ys : List ℕ) (r : ℕ) (ps : List ℕ) {k : ℕ} (e : k ≡ length (leading ys r ps)) where
  pub parted-front : {row : List ℕ} → row ≡ take k ps → row ≡ leading ys r ps
  parted-front f = f ∙ ap (λ n. take n ps) e ∙ leading-front ys r ps

  pub parted-back : {rest : List ℕ} → rest ≡ drop k ps → rest ≡ behind ys r ps
  parted-back f = f ∙ ap (λ n. drop n ps) e

-- those in front and those behind are points of the chart as well
module _ {n : ℕ} (ys : List ℕ) (r : ℕ) {ps : List ℕ} (b : Below n ps) where
  pub leading-below : Below n (leading ys r ps)
  leading-below =
      subst (Below n) (leading-front ys r ps)
      (record {
        below = λ i h. let inside : i < length (leading ys r ps) = omega (arith, ap length (leading-front ys r ps)) in
            rw (get_or-take (length (leading ys r ps)) ps i 0 inside) (b.below i (omega (arith, leading-few ys r ps)));
      })

  pub behind-below : Below n (behind ys r ps)
  behind-below =
      record {
        below = λ i h. let inside : length (leading ys r ps) + i < length ps = omega (arith, length-drop (length (leading ys r ps)) ps) in
            rw (get_or-drop (length (leading ys r ps)) ps i 0) (b.below (length (leading ys r ps) + i) inside);
      }

-- ---- the points of a row, each behind a blank

module _ (show : ℕ → List ℕ) (ps : List ℕ) (i : ℕ) where
  pub next-field : i < length ps → Parts (blanked (map show (drop i ps))) (blank ∷ show (at ps i)) (blanked (map show (drop (i + 1) ps)))
  unfolding blanked
  next-field h = record { is = rw (add-one, drop-cons ps i 0) }

  pub last-field : length ps ≤ i → blanked (map show (drop i ps)) ≡ []
  unfolding blanked
  last-field h = ap (λ l. blanked (map show l)) (drop_of_length-le ps h)

-- ---- a line: what stands in front of its end, and how long it is

pub line-parts : (first : List ℕ) (rest : List (List ℕ)) → Parts (line first rest) (first ++ blanked rest) (newline ∷ [])
line-parts first rest = record { is = refl }

pub field-parts : (first : List ℕ) (rest : List (List ℕ)) → Parts (first ++ blanked rest) first (blanked rest)
field-parts first rest = record { is = refl }

pub line-length : (first : List ℕ) (rest : List (List ℕ)) → length (line first rest) ≡ length first + length (blanked rest) + 1
line-length first rest = rw (length-append (first ++ blanked rest) (newline ∷ []), length-append first (blanked rest))

-- ---- the rows

-- the line of a row by its points
pub line-of : (show : ℕ → List ℕ) (ys : List ℕ) (r : ℕ) (ps : List ℕ) {row : List ℕ} → row ≡ leading ys r ps → line (decimal r) (map show row) ≡ line_in show ys r ps
unfolding line_in
line-of show ys r ps e = ap (λ l. line (decimal r) (map show l)) e

module _ (show : ℕ → List ℕ) (ys : List ℕ) (r height : ℕ) (ps : List ℕ) where
  pub next-line : r < height
      → Parts (lines_from show ys r (height - r) ps) (line_in show ys r ps) (lines_from show ys (r + 1) (height - (r + 1)) (behind ys r ps))
  unfolding lines_from
  next-line h =
      let k : height - r ≡ suc (height - (r + 1)) = omega arith in
      record { is = rw (k, add-one r) }

  pub last-line : height ≤ r → lines_from show ys r (height - r) ps ≡ []
  unfolding lines_from
  last-line h = let k : height - r ≡ 0 = omega arith in rw k
