-- The segments of a linked list, one after the other.
use mathlib.Core.Path.{◌≡◌, refl, sym, ap, ◌∙◌}
use mathlib.Core.List.{List, [], ◌∷◌}
use Prim.Native.Nat.{ℕ, zero, suc, ◌-◌, ◌≤◌, ◌<◌}
use native.Mathlib.Omega.{arith}
use lib.ListN.{length, set}
use lib.Seq.{get_or-set_other}
use Rattle.graph.specs.Rows.{at}
use Rattle.points.specs.Lists.{list_from, listed, Falls}

list-none : (n : ℕ) (next : List ℕ) → list_from n next 0 ≡ []
unfolding list_from
list-none zero next = refl
list-none (suc n) next = refl

list_length : (n : ℕ) (next : List ℕ) (h : ℕ) → length (list_from n next h) ≤ n
unfolding list_from
list_length zero next h = omega arith
list_length (suc n) next zero = omega arith
list_length (suc n) next (suc k) = omega (arith, list_length n next (at next k))

-- A list that falls from h has no more than h segments, so that a larger limit changes nothing.
list-enough : (next : List ℕ) (top : ℕ) → ((k : ℕ) → k < top → at next k ≤ k) → (m n h : ℕ) → h ≤ m → h ≤ n → h ≤ top
    → list_from m next h ≡ list_from n next h
unfolding list_from
list-enough next top f zero n zero a b l = sym (list-none n next)
list-enough next top f zero n (suc k) a b l = absurd (omega arith)
list-enough next top f (suc m) n zero a b l = sym (list-none n next)
list-enough next top f (suc m) zero (suc k) a b l = absurd (omega arith)
list-enough next top f (suc m) (suc n) (suc k) a b l =
    let g : at next k ≤ k = f k (omega arith) in
    ap (λ (r : List ℕ). k ∷ r) (list-enough next top f m n (at next k) (omega arith) (omega arith) (omega arith))

pub listed_more : (next : List ℕ) (top : ℕ) → ((k : ℕ) → k < top → at next k ≤ k) → (k : ℕ) → k < top → listed next (suc k) ≡ k ∷ listed next (at next k)
unfolding list_from
listed_more next top f k h =
    let g : at next k ≤ k = f k h in
    ap (λ (r : List ℕ). k ∷ r) (list-enough next top f k (at next k) (at next k) g (omega arith) (omega arith))

-- a list below k does not read entry k
pub list_set : (next : List ℕ) (k v : ℕ) → ((j : ℕ) → j < k → at next j ≤ j) → (n h : ℕ) → h ≤ k → list_from n (set next k v) h ≡ list_from n next h
unfolding list_from
list_set next k v f zero h l = refl
list_set next k v f (suc n) zero l = refl
list_set next k v f (suc n) (suc j) l =
    let other : at (set next k v) j ≡ at next j = get_or-set_other next k j v 0 (λ e. absurd (omega arith)) in
    let g : at next j ≤ j = f j (omega arith) in
    ap (λ (x : ℕ). j ∷ list_from n (set next k v) x) other ∙ ap (λ (r : List ℕ). j ∷ r) (list_set next k v f n (at next j) (omega arith))

-- ---- the turns of a loop along a list

-- a list of h has no more than h segments
pub listed-length : (next : List ℕ) (h : ℕ) → length (listed next h) ≤ h
listed-length next h = list_length h next h

pub listed-turn : {next : List ℕ} → Falls next → (h : ℕ) → 0 < h → h ≤ length next → listed next h ≡ (h - 1) ∷ listed next (at next (h - 1))
listed-turn f zero a l = absurd (omega arith)
listed-turn {next} f (suc k) a l =
    let q : suc k - 1 ≡ k = omega arith in
    rw q (listed_more next (length next) f.falls k (omega arith))

pub listed-end : (next : List ℕ) (h : ℕ) → h ≤ 0 → listed next h ≡ []
listed-end next h l =
    let z : h ≡ 0 = omega arith in
    ap (listed next) z ∙ list-none 0 next
