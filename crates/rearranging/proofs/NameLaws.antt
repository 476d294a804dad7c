-- The points of a row named by their places, in the front of a buffer.
use mathlib.Core.Path.{◌≡◌, refl, sym, ap, ◌∙◌}
use mathlib.Core.List.{List, [], ◌∷◌, ◌++◌, map}
use Prim.Native.Nat.{ℕ, zero, suc, ◌+◌, ◌<◌}
use native.Mathlib.Omega.{arith}
use lib.ListN.{length, take, drop, set, length-map}
use Rattle.graph.specs.Rows.{at}
use Rattle.buffers.proofs.CopyLaws.{paste_more}

named-at : (points places : List ℕ) (i : ℕ) → i < length places → at (map (at points) places) i ≡ at points (at places i)
named-at points [] i h = absurd (omega arith)
named-at points (p ∷ places) zero h = refl
named-at points (p ∷ places) (suc i) h = named-at points places i (omega arith)

-- one place more
pub named_more : (points places old new : List ℕ) (i : ℕ) → i < length places → i < length old → new ≡ take i (map (at points) places) ++ drop i old
    → set new i (at points (at places i)) ≡ take (i + 1) (map (at points) places) ++ drop (i + 1) old
named_more points places old new i h l e =
    ap (λ (l : List ℕ). set l i (at points (at places i))) e
    ∙ ap (set (take i (map (at points) places) ++ drop i old) i) (sym (named-at points places i h))
    ∙ paste_more (map (at points) places) old i (omega (arith, length-map places (at points))) l
