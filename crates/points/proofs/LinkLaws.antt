-- The lists of segments, built by putting each segment in front.
use mathlib.Core.Path.{◌≡◌, sym, ap, ◌∙◌}
use mathlib.Core.List.{List, ◌∷◌}
use Prim.Native.Nat.{ℕ, suc, ◌+◌, ◌≤◌, ◌<◌}
use native.Mathlib.Decide.{ℕ_discrete}
use native.Mathlib.Numerals.{add-one}
use native.Mathlib.Omega.{arith}
use borrow.Author.Count.{below_more}
use borrow.Author.Tests.{eq-eqb, ne_eqb}
use lib.ListN.{length, set, replicate, length-set, get_or-replicate, length-replicate}
use lib.Seq.{get_or-set_same, get_or-set_other}
use Rattle.graph.specs.Rows.{at}
use Rattle.points.specs.Lists.{list_from, listed, segments_at, Linked}
use Rattle.points.proofs.ListLaws.{list_set, listed_more}

-- the first k segments are in their lists
pub record Linking (near : List ℕ) (n : ℕ) (head next : List ℕ) (k : ℕ) : Type 0 where
  pub within : k ≤ length near
  pub kept : length head ≡ n
  pub long : length next ≡ length near
  pub falls : (j : ℕ) → j < k → at next j ≤ j
  pub heads_in : (p : ℕ) → p < n → at head p ≤ k
  pub lists : (p : ℕ) → p < n → listed next (at head p) ≡ segments_at near p k

linking-zero : (near : List ℕ) (n : ℕ) (next : List ℕ) → length next ≡ length near → Linking near n (replicate n 0) next 0
unfolding segments_at list_from
linking-zero near n next e = record {
  within = omega arith;
  kept = length-replicate {A = ℕ} n 0;
  long = e;
  falls = λ j h. absurd (omega arith);
  heads_in = λ p h. omega (arith, get_or-replicate {A = ℕ} n p 0 0 h);
  lists = λ p h. ap (listed next) (get_or-replicate {A = ℕ} n p 0 0 h);
}

pub linking-none : {near : List ℕ} (n : ℕ) {head next : List ℕ} → head ≡ replicate n 0 → length next ≡ length near → Linking near (length head) head next 0
linking-none {near} n {head} {next} e l = rw (e, length-replicate {A = ℕ} n 0) (linking-zero near n next l)

starts-own : (near : List ℕ) (p k : ℕ) → at near k ≡ p → segments_at near p (suc k) ≡ k ∷ segments_at near p k
unfolding segments_at
starts-own near p k e = rw (eq-eqb (at near k) p e)

starts_other : (near : List ℕ) (p k : ℕ) → (at near k ≡ p → ⊥) → segments_at near p (suc k) ≡ segments_at near p k
unfolding segments_at
starts_other near p k d = rw (ne_eqb (at near k) p d)

module _ {near head next : List ℕ} {n k : ℕ} (c : Linking near n head next k) (h : k < length near) (b : at near k < n) where
  falls' : (j : ℕ) → j < k + 1 → at (set next k (at head (at near k))) j ≤ j
  falls' = below_more (λ j. at (set next k (at head (at near k))) j ≤ j) k
      (λ j l. rw (get_or-set_other next k j (at head (at near k)) 0 (λ e. absurd (omega arith))) (c.falls j l))
      (rw (get_or-set_same next k (at head (at near k)) 0 (omega (arith, c.long))) (c.heads_in (at near k) b))

  -- The list of segment k's near end is k and the list that was there; no other list reads entry k.
  lists' : (p : ℕ) → p < n → Dec (at near k ≡ p)
      → listed (set next k (at head (at near k))) (at (set head (at near k) (k + 1)) p) ≡ segments_at near p (suc k)
  lists' p a (yes e) =
      ap (λ (x : ℕ). listed (set next k (at head (at near k))) (at (set head (at near k) (k + 1)) x)) (sym e)
      ∙ ap (listed (set next k (at head (at near k)))) (get_or-set_same head (at near k) (k + 1) 0 (omega (arith, c.kept)) ∙ add-one k)
      ∙ listed_more (set next k (at head (at near k))) (k + 1) falls' k (omega arith)
      ∙ ap (λ (x : ℕ). k ∷ listed (set next k (at head (at near k))) x) (get_or-set_same next k (at head (at near k)) 0 (omega (arith, c.long)))
      ∙ ap (λ (r : List ℕ). k ∷ r) (list_set next k (at head (at near k)) c.falls (at head (at near k)) (at head (at near k)) (c.heads_in (at near k) b))
      ∙ ap (λ (r : List ℕ). k ∷ r) (c.lists (at near k) b)
      ∙ ap (λ (x : ℕ). k ∷ segments_at near x k) e
      ∙ sym (starts-own near p k e)
  lists' p a (no d) =
      ap (listed (set next k (at head (at near k)))) (get_or-set_other head (at near k) p (k + 1) 0 (λ e. d (sym e)))
      ∙ list_set next k (at head (at near k)) c.falls (at head p) (at head p) (c.heads_in p a)
      ∙ c.lists p a
      ∙ sym (starts_other near p k d)

  pub linking-more : Linking near n (set head (at near k) (k + 1)) (set next k (at head (at near k))) (k + 1)
  linking-more = record {
    within = omega arith;
    kept = length-set head (at near k) (k + 1) ∙ c.kept;
    long = length-set next k (at head (at near k)) ∙ c.long;
    falls = falls';
    heads_in = λ p a. heads p a (ℕ_discrete p (at near k));
    lists = λ p a. lists' p a (ℕ_discrete (at near k) p) ∙ ap (segments_at near p) (sym (add-one k));
  }
    where
      heads : (p : ℕ) → p < n → Dec (p ≡ at near k) → at (set head (at near k) (k + 1)) p ≤ k + 1
      heads p a (yes e) = omega (arith, ap (at (set head (at near k) (k + 1))) e, get_or-set_same head (at near k) (k + 1) 0 (omega (arith, c.kept)))
      heads p a (no d) = omega (arith, get_or-set_other head (at near k) p (k + 1) 0 d, c.heads_in p a)

pub linking-end : {near head next : List ℕ} {n k : ℕ} → Linking near n head next k → length near ≤ k → Linked near head next
linking-end {near} {head} {next} {n} {k} c h =
    let e : k ≡ length near = omega (arith, c.within) in
    record {
      long = c.long;
      falls = record { falls = λ j l. c.falls j (omega (arith, c.long)) };
      heads_in = λ p a. omega (arith, c.heads_in p (omega (arith, c.kept)), c.long);
      lists = λ p a. c.lists p (omega (arith, c.kept)) ∙ ap (segments_at near p) e;
    }
