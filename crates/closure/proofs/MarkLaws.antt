-- What marking one row leaves of the whole matrix.
use mathlib.Core.Path.{◌≡◌, ap, ◌∙◌}
use mathlib.Core.Bool.{Bool, false, ◌||◌}
use mathlib.Core.List.{List, ◌++◌}
use Prim.Native.Nat.{ℕ, ◌+◌, ◌-◌, ◌≤◌, ◌<◌}
use native.Mathlib.Omega.{arith}
use borrow.Rule.Slice.PartMut.{mid_of, post_of, put_mid, same_len_mid}
use lib.ListN.{length, get_or, take, drop, length-drop, get_or-append}
use lib.Seq.{get_or-append_right, get_or-drop, get_or-take, length-take-le}
use Rattle.closure.specs.Closure.{RowMarked}

-- n marks from base on are set where fresh is, and no others
pub record Overlaid (base n : ℕ) (fresh old new : List Bool) : Type 0 where
  pub long : length new ≡ length old
  pub inside : (v : ℕ) → v < n → get_or new (base + v) false ≡ get_or old (base + v) false || get_or fresh v false
  pub before : (i : ℕ) → i < base → get_or new i false ≡ get_or old i false
  pub behind : (i : ℕ) → base + n ≤ i → get_or new i false ≡ get_or old i false

module _ (base n k : ℕ) (fresh old row : List Bool) (room : base + n ≤ length old) (part : k ≡ n) (m : RowMarked fresh (mid_of base k old) row) where
  abbrev new : List Bool
  new = put_mid base k old row

  front-long : length (take base old) ≡ base
  front-long = length-take-le base old (omega arith)

  row_long : length row ≡ n
  row_long = m.long ∙ length-take-le k (drop base old) (omega (arith, length-drop base old)) ∙ part

  -- what stands from base on
  after-at : (i : ℕ) → base ≤ i → get_or new i false ≡ get_or (row ++ post_of base k old) (i - base) false
  after-at i h = get_or-append_right (take base old) (row ++ post_of base k old) i false (omega (arith, front-long)) ∙ ap (λ (j : ℕ). get_or (row ++ post_of base k old) (i - j) false) front-long

  pub overlaid : Overlaid base n fresh old new
  overlaid = record { long = same_len_mid base k old row m.long; inside = inside; before = before; behind = behind }
    where
      inside : (v : ℕ) → v < n → get_or new (base + v) false ≡ get_or old (base + v) false || get_or fresh v false
      inside v h =
          let place : base + v - base ≡ v = omega arith in
          after-at (base + v) (omega arith) ∙ ap (λ (j : ℕ). get_or (row ++ post_of base k old) j false) place
          ∙ get_or-append row (post_of base k old) false v (omega (arith, row_long))
          ∙ m.inside v (omega (arith, row_long, m.long))
          ∙ ap (λ (x : Bool). x || get_or fresh v false) (get_or-take k (drop base old) v false (omega arith) ∙ get_or-drop base old v false)

      before : (i : ℕ) → i < base → get_or new i false ≡ get_or old i false
      before i h = get_or-append (take base old) (row ++ post_of base k old) false i (omega (arith, front-long)) ∙ get_or-take base old i false h

      behind : (i : ℕ) → base + n ≤ i → get_or new i false ≡ get_or old i false
      behind i h =
          let place : base + (k + (i - base - length row)) ≡ i = omega (arith, row_long) in
          after-at i (omega arith) ∙ get_or-append_right row (post_of base k old) (i - base) false (omega (arith, row_long))
          ∙ get_or-drop k (drop base old) (i - base - length row) false ∙ get_or-drop base old (k + (i - base - length row)) false
          ∙ ap (λ (j : ℕ). get_or old j false) place
