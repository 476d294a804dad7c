-- What stands at an index of the strokes of a line.
use mathlib.Core.Path.{◌≡◌, ap, ◌∙◌}
use mathlib.Core.Bool.{Bool, true, false, cond}
use mathlib.Core.Logic.{◌≢◌}
use mathlib.Core.List.{List, [], ◌∷◌, ◌++◌, map, reverse, reverse-append}
use Rattle.std.specs.Prelude.{Option, Some, None, slice_get, option_map}
use Rattle.std.proofs.lemmas.Option.{slice_get_past, slice_get-map, slice_get-get_or}
use Prim.Native.Nat.{ℕ, zero, suc, ◌+◌, ◌-◌, ◌≤◌, ◌<◌}
use native.Mathlib.Nat.{not-suc-le-zero, le_of_suc-le-suc}
use native.Mathlib.Decide.{ℕ_discrete, dec_lt}
use native.Mathlib.Omega.{arith}
use lib.ListN.{length, get_or, length-append, length-map, length-reverse, get_or-append}
use lib.Seq.{get_or_at}
use Rattle.graph.specs.Search.{run}
use Rattle.buffers.proofs.RunLaws.{run_length, run_at, run-last}
use Rattle.merging.specs.declared.MergedEdge.{MergedEdge}
use Rattle.routes.specs.declared.Visit.{Visit}
use Rattle.routes.specs.Routes.{line_to, move_to, travelled, line_visits}

-- ---- the numbers of a line's dummies

-- from the last to the first
run-back : (d k : ℕ) → reverse (run d (suc k)) ≡ (d + k) ∷ reverse (run d k)
run-back d k = ap reverse (run-last d k) ∙ reverse-append (run d k) ((d + k) ∷ [])

back_at : (d k j : ℕ) → j < k → get_or (reverse (run d k)) j 0 ≡ d + k - suc j
back_at d zero j h = absurd (not-suc-le-zero h)
back_at d (suc k) zero h = let e : d + k ≡ d + suc k - 1 = omega arith in ap (λ (l : List ℕ). get_or l 0 0) (run-back d k) ∙ e
back_at d (suc k) (suc j) h =
    let e : d + k - suc j ≡ d + suc k - suc (suc j) = omega arith in
    ap (λ (l : List ℕ). get_or l (suc j) 0) (run-back d k) ∙ back_at d k j (le_of_suc-le-suc h) ∙ e

travelled-count : (b : Bool) (d k : ℕ) → length (travelled b (run d k)) ≡ k
travelled-count true d k = length-reverse (run d k) ∙ run_length d k
travelled-count false d k = run_length d k

-- ---- the strokes of a line

line-elem : (l : List ℕ) (j : ℕ) → j < length l → slice_get (map line_to l) j ≡ Some (line_to (get_or l j 0))
line-elem l j h = slice_get-map line_to l j ∙ ap (option_map line_to) (slice_get-get_or l j 0 h)

module _ (e : MergedEdge) (d k : ℕ) where
  points-count : (b : Bool) → length (travelled b (run d k) ++ e.to ∷ []) ≡ suc k
  points-count b = length-append (travelled b (run d k)) (e.to ∷ []) ∙ omega (arith, travelled-count b d k)

  -- one more than its segments
  pub line-count : (b : Bool) → length (line_visits b e d k) ≡ k + 2
  unfolding line_visits
  line-count b = omega (arith, length-map (travelled b (run d k) ++ e.to ∷ []) line_to, points-count b)

  -- it starts with a move
  pub line_start : (b : Bool) (at : ℕ) → at ≡ 0 → slice_get (line_visits b e d k) at ≡ Some (move_to e.from)
  unfolding line_visits
  line_start b at z = ap (slice_get (line_visits b e d k)) z

  line-behind : (b : Bool) (at j : ℕ) → at ≡ suc j → j ≤ k
      → slice_get (line_visits b e d k) at ≡ Some (line_to (get_or (travelled b (run d k) ++ e.to ∷ []) j 0))
  unfolding line_visits
  line-behind b at j s h = ap (slice_get (line_visits b e d k)) s ∙ line-elem (travelled b (run d k) ++ e.to ∷ []) j (omega (arith, points-count b))

  -- and ends at the step where the edge does
  pub line_end : (b : Bool) (at : ℕ) → at ≡ k + 1 → slice_get (line_visits b e d k) at ≡ Some (line_to e.to)
  line_end b at s =
      line-behind b at k (omega arith) (omega arith)
      ∙ ap (λ (p : ℕ). Some (line_to p)) (get_or_at (travelled b (run d k)) e.to [] 0 k (travelled-count b d k))

  -- between them are the dummies: downwards, or upwards if it is turned
  pub line_down : (at : ℕ) → 0 < at → at < k + 1 → slice_get (line_visits false e d k) at ≡ Some (line_to (d + at - 1))
  line_down at h l =
      let j : at - 1 < k = omega arith in
      let same : d + (at - 1) ≡ d + at - 1 = omega arith in
      line-behind false at (at - 1) (omega arith) (omega arith)
      ∙ ap (λ (p : ℕ). Some (line_to p)) (get_or-append (run d k) (e.to ∷ []) 0 (at - 1) (omega (arith, run_length d k)) ∙ run_at d k (at - 1) 0 j ∙ same)

  pub line_up : (at : ℕ) → 0 < at → at < k + 1 → slice_get (line_visits true e d k) at ≡ Some (line_to (d + k - at))
  line_up at h l =
      let j : at - 1 < k = omega arith in
      let same : d + k - suc (at - 1) ≡ d + k - at = omega arith in
      line-behind true at (at - 1) (omega arith) (omega arith)
      ∙ ap (λ (p : ℕ). Some (line_to p)) (get_or-append (reverse (run d k)) (e.to ∷ []) 0 (at - 1) (omega (arith, travelled-count true d k)) ∙ back_at d k (at - 1) j ∙ same)

-- ---- which it is

-- a visit at an index of a line's strokes: its start, its end, or one of its dummies
pub data OnLine (b : Bool) (e : MergedEdge) (d k at : ℕ) (v : Visit) : Type 0 where
  at-start : at ≡ 0 → v ≡ move_to e.from → OnLine b e d k at v
  at-end : at ≡ k + 1 → v ≡ line_to e.to → OnLine b e d k at v
  at-dummy : 0 < at → at < k + 1 → v ≡ line_to (cond b (d + k - at) (d + at - 1)) → OnLine b e d k at v

same_some : {A : Type 0} {x y : A} {o : Option A} → o ≡ Some x → o ≡ Some y → y ≡ x
same_some p q = cc

never-some : {A X : Type 0} {x : A} {o : Option A} → o ≡ None → o ≡ Some x → X
never-some p q = let z : ◌≡◌ {A = ℕ} 0 1 = cc in absurd (omega arith)

line-between : (b : Bool) (e : MergedEdge) (d k at : ℕ) → 0 < at → at < k + 1 → slice_get (line_visits b e d k) at ≡ Some (line_to (cond b (d + k - at) (d + at - 1)))
line-between true e d k at h l = line_up e d k at h l
line-between false e d k at h l = line_down e d k at h l

pub on_line : (b : Bool) (e : MergedEdge) (d k at : ℕ) (v : Visit) → slice_get (line_visits b e d k) at ≡ Some v → OnLine b e d k at v
on_line b e d k at v f = first (ℕ_discrete at 0)
  where
    last : 0 < at → at ≢ k + 1 → Dec (at < k + 1) → OnLine b e d k at v
    last h n (yes l) = at-dummy h l (same_some (line-between b e d k at h l) f)
    last h n (no m) = never-some (slice_get_past (line_visits b e d k) at (omega (arith, n, line-count e d k b))) f

    second : 0 < at → Dec (at ≡ k + 1) → OnLine b e d k at v
    second h (yes s) = at-end s (same_some (line_end e d k b at s) f)
    second h (no n) = last h n (dec_lt at (k + 1))

    first : Dec (at ≡ 0) → OnLine b e d k at v
    first (yes z) = at-start z (same_some (line_start e d k b at z) f)
    first (no n) = second (omega (arith, n)) (ℕ_discrete at (k + 1))
