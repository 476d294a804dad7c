-- The definition that computes agrees with the one by walks.
use mathlib.Core.Path.{◌≡◌, refl, ap, subst}
use mathlib.Core.Logic.{◌↔◌}
use mathlib.Core.Bool.{Bool, true, false, cond}
use Rattle.std.specs.Prelude.{Option, Some, None}
use mathlib.Core.List.{List}
use Prim.Native.Nat.{ℕ, zero, suc, ◌+◌, ◌≤◌, ◌<◌}
use native.Mathlib.Nat.{le_refl}
use native.Mathlib.Decide.{dec_lt}
use native.Mathlib.Omega.{arith}
use lib.ListN.{length, get_or}
use borrow.Author.Tests.{ltb-true, ltb-false}
use Rattle.graph.specs.declared.Edge.{Edge}
use Rattle.graph.specs.Rows.{no_edge, Feasible, Within}
use Rattle.acyclic.specs.Loops.{Walk, Lowest, LoopFree, LoopIs, on_loop, first_from, lowest_on_loop}
use Rattle.acyclic.specs.Loops as loops
use Rattle.acyclic.proofs.ReachLaws.{reached-sound, reached-complete}

-- ---- the first number that passes

-- what it means that the first of the numbers from a to below b with P is found
FirstIs : (ℕ → Type 0) → ℕ → ℕ → Option ℕ → Type 0
FirstIs P a b (Some s) = (a ≤ s) × (s < b) × P s × ((j : ℕ) → a ≤ j → j < s → P j → ⊥)
FirstIs P a b None = (j : ℕ) → a ≤ j → j < b → P j → ⊥

module _ (P : ℕ → Type 0) (test : ℕ → Bool) (pass : (j : ℕ) → test j ≡ true → P j) (fail : (j : ℕ) → test j ≡ false → P j → ⊥) where
  -- a number from a on is a, which fails, or a later one
  later : (a j : ℕ) → test a ≡ false → a ≤ j → (suc a ≤ j → P j → ⊥) → P j → ⊥
  later a j e h rest p = go (dec_lt a j)
    where
      go : Dec (a < j) → ⊥
      go (yes l) = rest l p
      go (no l) = let same : j ≡ a = omega arith in fail a e (subst P same p)

  first-is : (a k : ℕ) → FirstIs P a (a + k) (first_from test a k)
  unfolding first_from FirstIs
  first-is a zero = λ j h l p. omega arith
  first-is a (suc k) = go (test a) refl (first_from test (suc a) k) (first-is (suc a) k)
    where
      go : (t : Bool) → test a ≡ t → (r : Option ℕ) → FirstIs P (suc a) (suc a + k) r → FirstIs P a (a + suc k) (cond t (Some a) r)
      go true e r ih = (le_refl a, omega arith, pass a e, λ j h l p. omega arith)
      go false e (Some s) ih = (omega (arith, ih.0), omega (arith, ih.1), ih.2, λ j h l. later a j e h (λ m. ih.3 j m l))
      go false e None ih = λ j h l. later a j e h (λ m. ih j m (omega arith))

-- ---- the lowest node on a loop

-- a walk ends at a node
pub walk_inside : {n : ℕ} {edges : List Edge} {s v : ℕ} → Within n edges → Walk edges s v → v < n
walk_inside w (loops.one i h e) = (w i h).1
walk_inside w (loops.more i h r) = (w i h).1

module _ (n : ℕ) (edges : List Edge) (within : Within n edges) where
  on-loop : (s : ℕ) → on_loop n edges s ≡ true → Walk edges s s
  unfolding on_loop
  on-loop s e = reached-sound n edges s s (ltb-true _ _ e)

  off-loop : (s : ℕ) → on_loop n edges s ≡ false → Walk edges s s → ⊥
  unfolding on_loop
  off-loop s e w = omega (arith, ltb-false, reached-complete n edges s (λ i h. (within i h).1) w)

  -- the definition that computes gives the lowest node on a loop
  pub loop-is : LoopIs n edges (lowest_on_loop n edges)
  unfolding lowest_on_loop FirstIs
  loop-is = go (first_from (on_loop n edges) 0 n) (first-is (λ k. Walk edges k k) (on_loop n edges) on-loop off-loop 0 n)
    where
      go : (r : Option ℕ) → FirstIs (λ k. Walk edges k k) 0 (0 + n) r → LoopIs n edges r
      go (Some s) f = record { inside = omega (arith, f.1); closed = f.2; lowest = λ k h. f.3 k (omega arith) h }
      go None f = record { free = λ k w. f k (omega arith) (omega (arith, walk_inside within w)) w }

  -- no two answers are right
  pub loop-unique : (r q : Option ℕ) → LoopIs n edges r → LoopIs n edges q → r ≡ q
  loop-unique (Some s) (Some t) a b = go (dec_lt s t) (dec_lt t s)
    where
      go : Dec (s < t) → Dec (t < s) → Some s ≡ Some t
      go (yes l) d = absurd (b.lowest s l a.closed)
      go (no l) (yes m) = absurd (a.lowest t m b.closed)
      go (no l) (no m) = let same : s ≡ t = omega arith in ap Some same
  loop-unique (Some s) None a b = absurd (b.free s a.closed)
  loop-unique None (Some t) a b = absurd (a.free t b.closed)
  loop-unique None None a b = refl

  -- so an answer is right exactly if the definition computes it
  pub loop-iff : (r : Option ℕ) → LoopIs n edges r ↔ (lowest_on_loop n edges ≡ r)
  loop-iff r = (λ a. loop-unique (lowest_on_loop n edges) r loop-is a, λ e. subst (LoopIs n edges) e loop-is)

  pub lowest-iff : (s : ℕ) → Lowest n edges s ↔ (lowest_on_loop n edges ≡ Some s)
  lowest-iff s = loop-iff (Some s)

  pub free-iff : LoopFree edges ↔ (lowest_on_loop n edges ≡ None)
  free-iff = loop-iff None

-- ---- rows leave no loop

-- Along an edge rows grow by at least its gap, which is not 0. So a walk ends at a larger row than it starts at, and None comes back.
module _ (edges : List Edge) (y : ℕ → ℕ) (feasible : Feasible edges y) (gaps : (i : ℕ) → i < length edges → 0 < (get_or edges i no_edge).gap) where
  walk-climbs : {s v : ℕ} → Walk edges s v → y s < y v
  walk-climbs (loops.one i h e) = omega (arith, feasible i h, gaps i h, ap y e)
  walk-climbs (loops.more i h w) = omega (arith, feasible i h, gaps i h, walk-climbs w)

  pub feasible-free : LoopFree edges
  feasible-free = record { free = λ k w. omega (arith, walk-climbs w) }

  pub feasible-none : (n : ℕ) → Within n edges → lowest_on_loop n edges ≡ None
  feasible-none n within = (free-iff n edges within).0 feasible-free
