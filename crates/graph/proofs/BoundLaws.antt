-- Best rows are at most (n − 1) times the widest gap, and so the trial of every placement finds them.
use mathlib.Core.Path.{◌≡◌, refl, ap, ◌∙◌}
use mathlib.Core.Logic.{◌⊎◌, inl, inr}
use mathlib.Core.List.{List, [], ◌∷◌, map}
use Prim.Native.Nat.{ℕ, zero, suc, ◌+◌, ◌*◌, ◌-◌, ◌≤◌, ◌<◌, min, suc-le-suc}
use native.Mathlib.Nat.{not-suc-le-zero, le_of_suc-le-suc, zero-lt-suc, le_refl, mul-le-mul_left, mul-le-mul_right}
use native.Mathlib.Decide.{ℕ_discrete, dec_lt, dec_le}
use native.Mathlib.Omega.{arith}
use lib.ListN.{length, get_or}
use Rattle.graph.specs.declared.Edge.{Edge}
use Rattle.graph.specs.Rows.{no_edge, at, Kept, Feasible, total, Best, Within}
use Rattle.graph.specs.Search.{widest, rows_of}
use Rattle.graph.proofs.PigeonLaws.{any_below, pigeonhole}
use Rattle.graph.proofs.SearchLaws.{bounded-is-rows_of}

pub gap-le-widest : (edges : List Edge) (i : ℕ) → i < length edges → (get_or edges i no_edge).gap ≤ widest edges
unfolding widest
gap-le-widest [] i h = absurd (not-suc-le-zero h)
gap-le-widest (e ∷ edges) zero h = omega arith
gap-le-widest (e ∷ edges) (suc i) h = omega (arith, gap-le-widest edges i (le_of_suc-le-suc h))

pub widest-le : (edges : List Edge) (k : ℕ) → ((i : ℕ) → i < length edges → (get_or edges i no_edge).gap ≤ k) → widest edges ≤ k
unfolding widest
widest-le [] k h = omega arith
widest-le (e ∷ edges) k h = omega (arith, h zero (zero-lt-suc (length edges)), widest-le edges k (λ i b. h (suc i) (suc-le-suc b)))

-- x, or one less where it is above t
low : ℕ → ℕ → ℕ
low t x = x - min 1 (x - t)

low-cases : (t x : ℕ) → ((x ≤ t) × (low t x ≡ x)) ⊎ ((t < x) × (suc (low t x) ≡ x))
unfolding low
low-cases t x = elim (dec_le x t) [ yes l ↦ inl (l, omega arith) | no l ↦ inr (omega arith, omega arith) ]

-- the rows ys with each above t brought down by one
low-at : (t : ℕ) (ys : List ℕ) (i : ℕ) → at (map (low t) ys) i ≡ low t (at ys i)
unfolding low
low-at t [] i = omega arith
low-at t (x ∷ ys) zero = refl
low-at t (x ∷ ys) (suc i) = low-at t ys i

low-length : (t : ℕ) (ys : List ℕ) → length (map (low t) ys) ≡ length ys
low-length t [] = refl
low-length t (x ∷ ys) = ap suc (low-length t ys)

-- an edge over the cut at t has room
abbrev Room : ℕ → (ℕ → ℕ) → Edge → Type 0
Room t y e = y e.from ≤ t → t < y e.to → y e.from + e.gap < y e.to

module _ (t : ℕ) (y z : ℕ → ℕ) (is : (i : ℕ) → z i ≡ low t (y i)) where
  low-kept : (e : Edge) → Kept y e → Room t y e → Kept z e × (z e.to - z e.from ≤ y e.to - y e.from)
  low-kept e k r = go (low-cases t (y e.from)) (low-cases t (y e.to))
    where
      go : ((y e.from ≤ t) × (low t (y e.from) ≡ y e.from)) ⊎ ((t < y e.from) × (suc (low t (y e.from)) ≡ y e.from))
          → ((y e.to ≤ t) × (low t (y e.to) ≡ y e.to)) ⊎ ((t < y e.to) × (suc (low t (y e.to)) ≡ y e.to))
          → Kept z e × (z e.to - z e.from ≤ y e.to - y e.from)
      go (inl p) (inl q) = omega (arith, is e.from, is e.to)
      go (inl p) (inr q) = omega (arith, is e.from, is e.to, r p.0 q.0)
      go (inr p) (inl q) = omega (arith, is e.from, is e.to)
      go (inr p) (inr q) = omega (arith, is e.from, is e.to)

  low_total : (edges : List Edge) → Feasible edges y → ((i : ℕ) → i < length edges → Room t y (get_or edges i no_edge)) → total edges z ≤ total edges y
  unfolding total
  low_total [] f r = le_refl 0
  low_total (e ∷ edges) f r =
      let ih = low_total edges (λ i h. f (suc i) (suc-le-suc h)) (λ i h. r (suc i) (suc-le-suc h)) in
      let k = low-kept e (f zero (zero-lt-suc (length edges))) (r zero (zero-lt-suc (length edges))) in
      omega (arith, mul-le-mul_left e.weight k.1)

module _ (n : ℕ) (edges : List Edge) (within : Within n edges) (ys : List ℕ) (best : Best n edges ys) where
  -- No cut has room: where every edge over the cut at t were longer than its gap, all rows above t could come down by one. That keeps
  -- the edges, makes no edge longer, and is smaller somewhere.
  no_room : (t : ℕ) → ((i : ℕ) → i < length edges → Room t (at ys) (get_or edges i no_edge)) → (v : ℕ) → v < n → t < at ys v → ⊥
  no_room t r v h l =
      let zs = map (low t) ys in
      let long : length zs ≡ n = low-length t ys ∙ best.one_a_node in
      let f : Feasible edges (at zs) = λ i b. (low-kept t (at ys) (at zs) (low-at t ys) (get_or edges i no_edge) (best.feasible i b) (r i b)).0 in
      let e : total edges (at zs) ≡ total edges (at ys) =
      omega (arith, best.least zs long f, low_total t (at ys) (at zs) (low-at t ys) edges best.feasible r) in
      let b = best.lowest zs long f e v h in
      elim (low-cases t (at ys v)) [ inl p ↦ omega arith | inr p ↦ omega (arith, low-at t ys v) ]

  -- below a row in use, the next widest-many rows hold one in use
  no-hole : (t v : ℕ) → v < n → t < at ys v → (u : ℕ) × (u < n) × ((t < at ys u) × (at ys u ≤ t + widest edges))
  no-hole t v h l = go (any_below (λ u. (t < at ys u) × (at ys u ≤ t + widest edges)) dec n)
    where
      dec : (u : ℕ) → Dec ((t < at ys u) × (at ys u ≤ t + widest edges))
      dec u = pair (dec_lt t (at ys u)) (dec_le (at ys u) (t + widest edges))
        where
          pair : Dec (t < at ys u) → Dec (at ys u ≤ t + widest edges) → Dec ((t < at ys u) × (at ys u ≤ t + widest edges))
          pair (yes p) (yes q) = yes (p, q)
          pair (yes p) (no q) = no (λ k. q k.1)
          pair (no p) q = no (λ k. p k.0)

      go : ((u : ℕ) × (u < n) × ((t < at ys u) × (at ys u ≤ t + widest edges))) ⊎ ((u : ℕ) → u < n → (t < at ys u) × (at ys u ≤ t + widest edges) → ⊥)
          → (u : ℕ) × (u < n) × ((t < at ys u) × (at ys u ≤ t + widest edges))
      go (inl s) = s
      go (inr none) =
          absurd (no_room t (λ i b p q. elim (dec_le (at ys (get_or edges i no_edge).to) (t + widest edges)) [
            | yes k ↦ absurd (none (get_or edges i no_edge).to (within i b).1 (q, k))
            | no k ↦ omega (arith, gap-le-widest edges i b)
          ]) v h l)

  some-ground : (v : ℕ) → v < n → (u : ℕ) × (u < n) × (at ys u ≡ 0)
  some-ground v h = go (any_below (λ u. at ys u ≡ 0) (λ u. ℕ_discrete (at ys u) 0) n)
    where
      go : ((u : ℕ) × (u < n) × (at ys u ≡ 0)) ⊎ ((u : ℕ) → u < n → at ys u ≡ 0 → ⊥) → (u : ℕ) × (u < n) × (at ys u ≡ 0)
      go (inl s) = s
      go (inr none) =
          absurd (no_room 0 (λ i b p q. absurd (none (get_or edges i no_edge).from (within i b).0 (omega arith))) v h (omega (arith, none v h)))

  -- A row above the bound leaves a node for each of n + 1 slots: at 0; in each of the n - 1 windows; above them
  record Slot (j : ℕ) : Type 0 where
    who : ℕ
    who-lt : who < n
    above : 1 ≤ j → j ≤ n → (j - 1) * widest edges < at ys who
    upto : j < n → at ys who ≤ j * widest edges

  slot : (v : ℕ) → v < n → (n - 1) * widest edges < at ys v → (j : ℕ) → Slot j
  slot v h l zero =
      let g = some-ground v h in
      record { who = g.0; who-lt = g.1; above = λ p q. omega arith; upto = λ p. omega arith }
  slot v h l (suc k) = go (dec_lt (suc k) n)
    where
      go : Dec (suc k < n) → Slot (suc k)
      go (yes b) =
          let m : k * widest edges ≤ (n - 1) * widest edges = mul-le-mul_right (widest edges) (omega arith) in
          let s = no-hole (k * widest edges) v h (omega arith) in
          let e : suc k - 1 ≡ k = omega arith in
          record { who = s.0; who-lt = s.1; above = λ p q. rw e s.2.0; upto = λ p. omega (arith, s.2.1) }
      go (no b) = record { who = v; who-lt = h; above = λ p q. rw (same q) l; upto = λ p. absurd (b p) }
        where
          same : suc k ≤ n → suc k ≡ n
          same q = omega arith

  -- Best rows are at most (n − 1) · widest. Row 0 is in use, and above each row in use that is not the last there is another within the
  -- widest gap, or the cut between them had room. A row past the bound would make n + 1 different rows in use, by n nodes.
  pub best-bounded : (v : ℕ) → v < n → at ys v ≤ (n - 1) * widest edges
  best-bounded v h = elim (dec_le (at ys v) ((n - 1) * widest edges)) [ yes b ↦ b | no b ↦ absurd (clash (omega arith)) ]
    where
      clash : (n - 1) * widest edges < at ys v → ⊥
      clash l =
          let t = pigeonhole n (λ j. (slot v h l j).who) (λ j b. (slot v h l j).who-lt) in
          let i = t.early in
          let j = t.late in
          let m : i * widest edges ≤ (j - 1) * widest edges = mul-le-mul_right (widest edges) (omega (arith, t.early_lt)) in
          omega (arith, (slot v h l i).upto (omega (arith, t.early_lt, t.late_le)), (slot v h l j).above (omega (arith, t.early_lt)) t.late_le, ap (at ys) t.same, m)

-- So the trial of every placement up to that bound finds the best rows.
pub best-is-rows_of : (n : ℕ) (edges : List Edge) (ys : List ℕ) → Within n edges → Best n edges ys → rows_of n edges ≡ ys
best-is-rows_of n edges ys w best = bounded-is-rows_of n edges ys w (λ i h. best-bounded n edges w ys best i h) best
