-- An element put in the first blank place.
use Rattle.std.proofs.Common.{◌≡◌, sym, ap, ◌∙◌, ℕ, suc, ◌+◌, ◌-◌, ◌<◌, List, [], ◌∷◌, ◌++◌, length, take, replicate, length-take-le, arith}
use Rattle.std.proofs.Math.ListN.{set}
use Rattle.std.proofs.Math.Seq.{set-append_seam}
use Rattle.std.proofs.lemmas.List.{append_assoc, length_push, take_more_set}
use Rattle.copylist.specs.Listed.{filled}

module _ {T : Type 0} (none x : T) (room : ℕ) (front : List T) (h : length front < room) where
  first : replicate (room - length front) none ≡ none ∷ replicate (room - length front - 1) none
  first = let e : room - length front ≡ suc (room - length front - 1) = omega (arith, h) in ap (λ n. replicate n none) e

  rest : replicate (room - length front - 1) none ≡ replicate (room - length (front ++ x ∷ [])) none
  rest = let e : room - length front - 1 ≡ room - length (front ++ x ∷ []) = omega (arith, h, length_push front x) in ap (λ n. replicate n none) e

  pub filled-push : set (filled room none front) (length front) x ≡ filled room none (front ++ x ∷ [])
  filled-push =
      ap (λ (l : List T). set (front ++ l) (length front) x) first
      ∙ set-append_seam front none (replicate (room - length front - 1) none) x
      ∙ sym (append_assoc front (x ∷ []) (replicate (room - length front - 1) none))
      ∙ ap (λ (l : List T). front ++ x ∷ [] ++ l) rest

-- so a list whose places behind the first are blank has such places behind one more
pub filled-set : {T : Type 0} (none x : T) (room : ℕ) (cells : List T) (len : ℕ) → len < room → length cells ≡ room → cells ≡ filled room none (take len cells)
    → set cells len x ≡ filled room none (take (len + 1) (set cells len x))
filled-set {T} none x room cells len h long e =
    let front : List T = take len cells in
    let many : length front ≡ len = length-take-le len cells (omega (arith, h, long)) in
    ap (λ (l : List T). set l len x) e
    ∙ ap (λ i. set (filled room none front) i x) (sym many)
    ∙ filled-push none x room front (omega (arith, many, h))
    ∙ ap (filled room none) (sym (take_more_set cells len x (omega (arith, h, long))))
