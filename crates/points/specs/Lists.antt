-- Lists of segments, one for each point that is their near end, linked through `next`: 0 ends a list, and k + 1 is segment k, after
-- which the list goes on with what `next` has for k. The near ends are the upper ones, or the lower.
use Rattle.std.specs.Prelude.{◌≡◌, cond, List, [], ◌∷◌, ℕ, zero, suc, ◌≤◌, ◌<◌, eqb, length}
use Rattle.graph.specs.Rows.{at}

-- the segments of the list from h on, n of them at most
unfoldable pub list_from : ℕ → List ℕ → ℕ → List ℕ
list_from zero next h = []
list_from (suc n) next zero = []
list_from (suc n) next (suc k) = k ∷ list_from n next (at next k)

-- all of them: a list falls, so that it has no more than h
abbrev pub listed : List ℕ → ℕ → List ℕ
listed next h = list_from h next h

-- every list leads to smaller numbers
pub record Falls (next : List ℕ) : Type 0 where
  pub falls : (k : ℕ) → k < length next → at next k ≤ k

-- the segments below n whose near end is point p, the last first
unfoldable pub segments_at : List ℕ → ℕ → ℕ → List ℕ
segments_at near p zero = []
segments_at near p (suc k) = let rest = segments_at near p k in cond (eqb (at near k) p) (k ∷ rest) rest

-- lists of segments, each with its far end: every list leads to smaller numbers, and starts with a segment or is empty
pub record Lists (far head next : List ℕ) : Type 0 where
  pub falls : Falls next
  pub one_each : length next ≡ length far
  pub heads_in : (p : ℕ) → p < length head → at head p ≤ length next

-- lists of all segments, one for each point that `head` has
pub record Linked (near head next : List ℕ) : Type 0 where
  pub long : length next ≡ length near
  pub falls : Falls next
  pub heads_in : (p : ℕ) → p < length head → at head p ≤ length next
  pub lists : (p : ℕ) → p < length head → listed next (at head p) ≡ segments_at near p (length near)
