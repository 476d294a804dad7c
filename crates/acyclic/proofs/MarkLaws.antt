-- What the marks of one node show: whatever is marked is reached, and where no edge is open all that is reached is marked.
use mathlib.Core.Path.{◌≡◌, refl, sym, ◌∙◌, subst}
use mathlib.Core.Logic.{◌⊎◌, inl, inr, ⊎_elim}
use mathlib.Core.Bool.{Bool, true, false, true≢false}
use mathlib.Core.List.{List, []}
use Prim.Native.Nat.{ℕ, ◌<◌}
use lib.ListN.{length, get_or, set, replicate}
use Rattle.graph.specs.Rows.{at}
use Rattle.buffers.proofs.ListLaws.{blank-at}
use Rattle.relaxation.specs.Network.{edges_of}
use Rattle.acyclic.specs.Loops.{Walk}
use Rattle.acyclic.specs.Scan.{Open}
use Rattle.acyclic.proofs.SetLaws.{mark_cases}
use Rattle.acyclic.proofs.WalkLaws.{walk-one, walk_more, walk-along}

-- each marked node is reached from s, and s is not marked
pub record Sound (from to : List ℕ) (s : ℕ) (seen : List Bool) : Type 0 where
  pub sound : (v : ℕ) → get_or seen v false ≡ true → Walk (edges_of from to [] []) s v
  pub apart : get_or seen s false ≡ false

pub sound-blank : (from to : List ℕ) (s n : ℕ) → Sound from to s (replicate n false)
sound-blank from to s n = record { sound = λ v p. absurd (true≢false (sym p ∙ blank-at n v false)); apart = blank-at n s false }

module _ (from to : List ℕ) (s : ℕ) (seen : List Bool) where
  -- an open edge leads to a node that is reached
  pub open-walk : (i : ℕ) → i < length from → Open from to s seen i → Sound from to s seen → Walk (edges_of from to [] []) s (at to i)
  open-walk i h o m = ⊎_elim (λ e. walk-one from to [] [] i h e) (λ p. walk_more from to [] [] i h (m.sound _ p)) o.comes

  -- to mark its head keeps the marks sound, unless it is s
  pub sound_more : (i : ℕ) → i < length from → at to i < length seen → Open from to s seen i → (at to i ≡ s → ⊥)
      → Sound from to s seen → Sound from to s (set seen (at to i) true)
  sound_more i h l o away m =
      record {
        sound = λ v. mark_cases (λ (x : Bool). x ≡ true → Walk (edges_of from to [] []) s v) seen (at to i) v l
            (λ e _. subst (Walk (edges_of from to [] []) s) e (open-walk i h o m)) (λ _. m.sound v);
        apart = mark_cases (λ (x : Bool). x ≡ false) seen (at to i) s l (λ e. absurd (away e)) (λ _. m.apart);
      }

  -- where no edge is open, s is not reached
  pub no_return : ((i : ℕ) → i < length from → Open from to s seen i → ⊥) → get_or seen s false ≡ false → Walk (edges_of from to [] []) s s → ⊥
  no_return shut apart w =
      true≢false
      (sym (walk-along from to [] [] (λ v. get_or seen v false ≡ true) (λ i h e. close i h (inl e)) (λ i h p. close i h (inr p)) w) ∙ apart)
    where
      close : (i : ℕ) → i < length from → (at from i ≡ s) ⊎ (get_or seen (at from i) false ≡ true) → get_or seen (at to i) false ≡ true
      close i h c = go (get_or seen (at to i) false) (λ z. shut i h (record { comes = c; fresh = z }))
        where
          go : (b : Bool) → (b ≡ false → ⊥) → b ≡ true
          go true k = refl
          go false k = absurd (k refl)
