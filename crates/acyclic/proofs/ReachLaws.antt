-- The nodes marked by n sweeps are those that a walk leads to. A sweep marks a node more, or every edge from s or a marked node leads
-- to a marked one; that stays so, and n nodes cannot be marked more than n times.
use mathlib.Core.Path.{◌≡◌, refl, ap, ◌∙◌, subst}
use mathlib.Core.Logic.{◌⊎◌, inl, inr, ⊎_elim}
use mathlib.Core.Bool.{Bool, true, false, ◌||◌, cond}
use mathlib.Core.List.{List, [], ◌∷◌}
use Prim.Native.Nat.{ℕ, zero, suc, ◌+◌, ◌≤◌, ◌<◌, min, suc-le-suc}
use native.Mathlib.Nat.{not-suc-le-zero, le_of_suc-le-suc, zero-lt-suc}
use native.Mathlib.Omega.{arith}
use lib.ListN.{length, get_or, set, replicate, length-set, length-replicate}
use lib.Dec.{ltb, eqb}
use borrow.Author.Tests.{ltb-true, ltb-false, eqb-true, eqb-false}
use Rattle.graph.specs.declared.Edge.{Edge}
use Rattle.graph.specs.Rows.{at, no_edge}
use Rattle.acyclic.specs.Loops.{Walk, mark, sweep, sweeps, reached}
use Rattle.acyclic.specs.Loops as loops

-- ---- one mark

set-stays : (m : List ℕ) (t v : ℕ) → 0 < at m v → 0 < at (set m t 1) v
set-stays [] t v h = h
set-stays (x ∷ m) zero zero h = omega arith
set-stays (x ∷ m) zero (suc v) h = h
set-stays (x ∷ m) (suc t) zero h = h
set-stays (x ∷ m) (suc t) (suc v) h = set-stays m t v h

set_back : (m : List ℕ) (t v : ℕ) → 0 < at (set m t 1) v → (t ≡ v) ⊎ (0 < at m v)
set_back [] t v h = inr h
set_back (x ∷ m) zero zero h = inl refl
set_back (x ∷ m) zero (suc v) h = inr h
set_back (x ∷ m) (suc t) zero h = inr h
set_back (x ∷ m) (suc t) (suc v) h = ⊎_elim (λ e. inl (ap suc e)) (λ p. inr p) (set_back m t v h)

-- how many are marked
marked : List ℕ → ℕ
marked [] = 0
marked (x ∷ m) = min 1 x + marked m

marked-le : (m : List ℕ) → marked m ≤ length m
unfolding marked
marked-le [] = omega arith
marked-le (x ∷ m) = omega (arith, marked-le m)

marked-set : (m : List ℕ) (t : ℕ) → marked m ≤ marked (set m t 1)
unfolding marked
marked-set [] t = omega arith
marked-set (x ∷ m) zero = omega arith
marked-set (x ∷ m) (suc t) = omega (arith, marked-set m t)

marked-new : (m : List ℕ) (t : ℕ) → t < length m → at m t ≡ 0 → marked m < marked (set m t 1)
unfolding marked
marked-new [] t h e = absurd (not-suc-le-zero h)
marked-new (x ∷ m) zero h e = omega arith
marked-new (x ∷ m) (suc t) h e = omega (arith, marked-new m t (le_of_suc-le-suc h) e)

marked_all : (m : List ℕ) → length m ≤ marked m → (v : ℕ) → v < length m → 0 < at m v
unfolding marked
marked_all [] l v h = absurd (not-suc-le-zero h)
marked_all (x ∷ m) l zero h = omega (arith, marked-le m)
marked_all (x ∷ m) l (suc v) h = marked_all m (omega arith) v (le_of_suc-le-suc h)

-- ---- one edge

-- an edge comes from s or from a marked node
abbrev Comes : ℕ → List ℕ → Edge → Type 0
Comes s m e = (e.from ≡ s) ⊎ (0 < at m e.from)

data Marked (s : ℕ) (m : List ℕ) (e : Edge) : List ℕ → Type 0 where
  still : (Comes s m e → ⊥) → Marked s m e m
  new : Comes s m e → Marked s m e (set m e.to 1)

mark-is : (s : ℕ) (m : List ℕ) (e : Edge) → Marked s m e (mark s m e)
unfolding mark
mark-is s m e = go (eqb e.from s) refl (ltb 0 (at m e.from)) refl
  where
    go : (p : Bool) → eqb e.from s ≡ p → (q : Bool) → ltb 0 (at m e.from) ≡ q → Marked s m e (cond (p || q) (set m e.to 1) m)
    go true f q g = new (inl (eqb-true e.from s f))
    go false f true g = new (inr (ltb-true 0 (at m e.from) g))
    go false f false g =
        still (λ c. ⊎_elim (λ z. eqb-false e.from s f z) (λ z. omega (arith, ltb-false 0 (at m e.from) g)) c)

module _ (s : ℕ) (m : List ℕ) (e : Edge) where
  mark-length : {r : List ℕ} → Marked s m e r → length r ≡ length m
  mark-length (still c) = refl
  mark-length (new c) = length-set m e.to 1

  mark-stays : {r : List ℕ} → Marked s m e r → (v : ℕ) → 0 < at m v → 0 < at r v
  mark-stays (still c) v h = h
  mark-stays (new c) v h = set-stays m e.to v h

  mark-up : {r : List ℕ} → Marked s m e r → marked m ≤ marked r
  mark-up (still c) = omega arith
  mark-up (new c) = marked-set m e.to

-- ---- sweeps

abbrev Heads : ℕ → List Edge → Type 0
Heads n edges = (i : ℕ) → i < length edges → (get_or edges i no_edge).to < n

-- whatever an edge leads to from s or a marked node is marked
abbrev Closed : ℕ → List Edge → List ℕ → Type 0
Closed s edges m = (i : ℕ) → i < length edges → Comes s m (get_or edges i no_edge) → 0 < at m (get_or edges i no_edge).to

module _ (s : ℕ) where
  sweep-length : (edges : List Edge) (m : List ℕ) → length (sweep s edges m) ≡ length m
  unfolding sweep
  sweep-length [] m = refl
  sweep-length (e ∷ edges) m = sweep-length edges (mark s m e) ∙ mark-length s m e (mark-is s m e)

  sweep-stays : (edges : List Edge) (m : List ℕ) (v : ℕ) → 0 < at m v → 0 < at (sweep s edges m) v
  unfolding sweep
  sweep-stays [] m v h = h
  sweep-stays (e ∷ edges) m v h = sweep-stays edges (mark s m e) v (mark-stays s m e (mark-is s m e) v h)

  sweep-up : (edges : List Edge) (m : List ℕ) → marked m ≤ marked (sweep s edges m)
  unfolding sweep
  sweep-up [] m = omega arith
  sweep-up (e ∷ edges) m = omega (arith, mark-up s m e (mark-is s m e), sweep-up edges (mark s m e))

  -- a mark that was there already changes nothing
  closed-again : (edges : List Edge) (m : List ℕ) (t : ℕ) → 0 < at m t → Closed s edges (set m t 1) → Closed s edges m
  closed-again edges m t p c i h w =
      ⊎_elim (λ e. subst (λ (v : ℕ). 0 < at m v) e p) (λ q. q) (set_back m t _ (c i h (⊎_elim (λ e. inl e) (λ q. inr (set-stays m t _ q)) w)))

  closed-cons : (e : Edge) (edges : List Edge) (m : List ℕ) → (Comes s m e → 0 < at m e.to) → Closed s edges m → Closed s (e ∷ edges) m
  closed-cons e edges m f c zero h = f
  closed-cons e edges m f c (suc i) h = c i (le_of_suc-le-suc h)

  sweep-cases : (edges : List Edge) (m : List ℕ) → Heads (length m) edges → Closed s edges m ⊎ (marked m < marked (sweep s edges m))
  unfolding sweep
  sweep-cases [] m w = inl (λ i h. absurd (not-suc-le-zero h))
  sweep-cases (e ∷ edges) m w = go (mark-is s m e) (sweep-cases edges (mark s m e)) (sweep-up edges (mark s m e))
    where
      rest : Heads (length m) edges
      rest i h = w (suc i) (suc-le-suc h)

      go : {r : List ℕ} → Marked s m e r → (Heads (length r) edges → Closed s edges r ⊎ (marked r < marked (sweep s edges r)))
          → marked r ≤ marked (sweep s edges r) → Closed s (e ∷ edges) m ⊎ (marked m < marked (sweep s edges r))
      go (still c) ih up = ⊎_elim (λ k. inl (closed-cons e edges m (λ d. absurd (c d)) k)) (λ l. inr l) (ih rest)
      go (new c) ih up = test (at m e.to) refl
        where
          test : (x : ℕ) → at m e.to ≡ x → Closed s (e ∷ edges) m ⊎ (marked m < marked (sweep s edges (set m e.to 1)))
          test zero z = inr (omega (arith, marked-new m e.to (w zero (zero-lt-suc (length edges))) z))
          test (suc x) z =
              let p : 0 < at m e.to = omega arith in
              ⊎_elim (λ k. inl (closed-cons e edges m (λ _. p) (closed-again edges m e.to p k)))
              (λ l. inr (omega (arith, marked-set m e.to))) (ih (rw (length-set m e.to 1) rest))

  sweeps-length : (k : ℕ) (edges : List Edge) (m : List ℕ) → length (sweeps k s edges m) ≡ length m
  unfolding sweeps
  sweeps-length zero edges m = refl
  sweeps-length (suc k) edges m = sweeps-length k edges (sweep s edges m) ∙ sweep-length edges m

  sweeps-stays : (k : ℕ) (edges : List Edge) (m : List ℕ) (v : ℕ) → 0 < at m v → 0 < at (sweeps k s edges m) v
  unfolding sweeps
  sweeps-stays zero edges m v h = h
  sweeps-stays (suc k) edges m v h = sweeps-stays k edges (sweep s edges m) v (sweep-stays edges m v h)

  -- whatever holds of the marked nodes and goes along the edges holds of all that sweeps mark
  module _ (P : ℕ → Type 0) where
    mark-sound : (m : List ℕ) (e : Edge) → ((e.from ≡ s) ⊎ P e.from → P e.to) → ((v : ℕ) → 0 < at m v → P v)
        → {r : List ℕ} → Marked s m e r → (v : ℕ) → 0 < at r v → P v
    mark-sound m e f h (still c) v p = h v p
    mark-sound m e f h (new c) v p =
        ⊎_elim (λ z. subst P z (f (⊎_elim (λ q. inl q) (λ q. inr (h e.from q)) c))) (λ q. h v q) (set_back m e.to v p)

    sweep_sound : (edges : List Edge) (m : List ℕ)
        → ((i : ℕ) → i < length edges → ((get_or edges i no_edge).from ≡ s) ⊎ P (get_or edges i no_edge).from → P (get_or edges i no_edge).to)
        → ((v : ℕ) → 0 < at m v → P v) → (v : ℕ) → 0 < at (sweep s edges m) v → P v
    unfolding sweep
    sweep_sound [] m f h = h
    sweep_sound (e ∷ edges) m f h =
        sweep_sound edges (mark s m e) (λ i l. f (suc i) (suc-le-suc l)) (mark-sound m e (f zero (zero-lt-suc (length edges))) h (mark-is s m e))

    sweeps-sound : (k : ℕ) (edges : List Edge) (m : List ℕ)
        → ((i : ℕ) → i < length edges → ((get_or edges i no_edge).from ≡ s) ⊎ P (get_or edges i no_edge).from → P (get_or edges i no_edge).to)
        → ((v : ℕ) → 0 < at m v → P v) → (v : ℕ) → 0 < at (sweeps k s edges m) v → P v
    unfolding sweeps
    sweeps-sound zero edges m f h = h
    sweeps-sound (suc k) edges m f h = sweeps-sound k edges (sweep s edges m) f (sweep_sound edges m f h)

  closed-stays : (k : ℕ) (edges : List Edge) (m : List ℕ) → Closed s edges m → Closed s edges (sweeps k s edges m)
  closed-stays k edges m c i h w =
      sweeps-stays k edges m _ (c i h (⊎_elim (λ e. inl e) (λ p. inr (sweeps-sound (λ v. 0 < at m v) k edges m c (λ v q. q) _ p)) w))

  sweeps-cases : (k : ℕ) (edges : List Edge) (m : List ℕ) → Heads (length m) edges
      → Closed s edges (sweeps k s edges m) ⊎ (k + marked m ≤ marked (sweeps k s edges m))
  unfolding sweeps
  sweeps-cases zero edges m w = inr (omega arith)
  sweeps-cases (suc k) edges m w =
      go (sweep-cases edges m w) (sweeps-cases k edges (sweep s edges m) (rw (sweep-length edges m) w))
    where
      go : Closed s edges m ⊎ (marked m < marked (sweep s edges m))
          → Closed s edges (sweeps k s edges (sweep s edges m)) ⊎ (k + marked (sweep s edges m) ≤ marked (sweeps k s edges (sweep s edges m)))
          → Closed s edges (sweeps k s edges (sweep s edges m)) ⊎ (suc k + marked m ≤ marked (sweeps k s edges (sweep s edges m)))
      go (inl c) r = inl (closed-stays (suc k) edges m c)
      go (inr l) (inl c) = inl c
      go (inr l) (inr h) = inr (omega arith)

-- ---- the nodes that walks lead to

blank : (n v : ℕ) → at (replicate n 0) v ≡ 0
blank zero v = refl
blank (suc n) zero = refl
blank (suc n) (suc v) = blank n v

module _ (n : ℕ) (edges : List Edge) (s : ℕ) where
  pub reached-sound : (v : ℕ) → 0 < at (reached n edges s) v → Walk edges s v
  unfolding reached
  reached-sound v p =
      sweeps-sound s (Walk edges s) _ edges (replicate n 0) (λ i h. ⊎_elim (λ e. loops.one i h e) (λ w. loops.more i h w))
      (λ u q. absurd (omega (arith, blank n u))) v p

  module _ (heads : Heads n edges) where
    reached-closed : Closed s edges (reached n edges s)
    unfolding reached
    reached-closed = go (sweeps-cases s n edges (replicate n 0) (rw (length-replicate {A = ℕ} n 0) heads))
      where
        long : length (sweeps n s edges (replicate n 0)) ≡ n
        long = sweeps-length s n edges (replicate n 0) ∙ length-replicate n 0

        go : Closed s edges (sweeps n s edges (replicate n 0)) ⊎ (n + marked (replicate n 0) ≤ marked (sweeps n s edges (replicate n 0)))
            → Closed s edges (sweeps n s edges (replicate n 0))
        go (inl c) = c
        go (inr l) = λ i h w. marked_all (sweeps n s edges (replicate n 0)) (omega (arith, long)) _ (omega (arith, long, heads i h))

    pub reached-complete : {v : ℕ} → Walk edges s v → 0 < at (reached n edges s) v
    reached-complete (loops.one i h e) = reached-closed i h (inl e)
    reached-complete (loops.more i h w) = reached-closed i h (inr (reached-complete w))
