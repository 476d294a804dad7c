-- One edge relaxed, and a sweep over all of them.
use mathlib.Core.Path.{◌≡◌, refl, sym, ap, ◌∙◌, subst}
use mathlib.Core.Bool.{Bool, false}
use mathlib.Core.List.{List}
use Prim.Native.Nat.{ℕ, ◌+◌, ◌≤◌, ◌<◌, max}
use native.Mathlib.Nat.{not-suc-le-zero}
use native.Mathlib.Decide.{ℕ_discrete}
use native.Mathlib.Omega.{arith}
use lib.ListN.{length, set, drop}
use lib.Seq.{set-get_or}
use lib.Dec.{ltb}
use mir.Val.{bool_byte}
use borrow.Author.Tests.{ltb-true, ltb-false}
use Rattle.graph.specs.Rows.{at}
use Rattle.relaxation.specs.Limits.{row_limit}
use Rattle.relaxation.specs.Network.{Shaped}
use Rattle.relaxation.specs.Relax.{Holder, Sums, TailIs, MovedIs, neither, tail-moved, head-moved, up, down, Eases, holds, lifts, Heights, headroom, Swept}
use Rattle.buffers.proofs.ListLaws.{miss}
use Rattle.relaxation.proofs.RelaxLaws.{sums, lift-heights, lift-long, lift-rest, lift-less}

-- Both ends of an edge are written. A head that is too low comes to the tail's row plus the gap; a tail below a used edge that is too long
-- comes to the head's row less the gap; never both. An end that does not move is written as it was.
module _ (from to gap flow y : List ℕ) (a low high : ℕ) (r : Bool)
    (tail : TailIs (at y (at from a)) (at gap a) (at y (at to a)) (at flow a) low)
    (head : high ≡ max (at y (at to a)) (at y (at from a) + at gap a)) where
  same-both : low ≡ at y (at from a) → high ≡ at y (at to a) → set (set y (at from a) low) (at to a) high ≡ y
  same-both e k =
      ap (λ (l : List ℕ). set l (at to a) high) (ap (set y (at from a)) e ∙ set-get_or y (at from a) 0)
      ∙ ap (set y (at to a)) k
      ∙ set-get_or y (at to a) 0

  pub eases : MovedIs (at y (at from a)) low (at y (at to a)) high r → Eases from to gap flow y a (set (set y (at from a) low) (at to a) high) r
  eases (neither z e k) = holds z (same-both e k) (omega arith) (λ u. tail.still e u)
  eases (tail-moved o ne) =
      let lt : at y (at from a) < low = omega (arith, tail.no_lower, ne) in
      let up_by = tail.raised lt in
      let k : high ≡ at y (at to a) = omega arith in
      let apart : at to a ≡ at from a → ⊥ = λ q. omega (arith, ap (at y) q) in
      let there : at (set y (at from a) low) (at to a) ≡ at y (at to a) = miss y (at from a) low (at to a) apart in
      let is : set (set y (at from a) low) (at to a) high ≡ set y (at from a) low =
      ap (set (set y (at from a) low) (at to a)) (k ∙ sym there) ∙ set-get_or (set y (at from a) low) (at to a) 0 in
      lifts o (down up_by.0 (omega arith) (is ∙ ap (set y (at from a)) (omega arith)))
  eases (head-moved o ne) =
      let k : at y (at to a) < at y (at from a) + at gap a = omega (arith, ne) in
      let still : low ≡ at y (at from a) = elim (ℕ_discrete low (at y (at from a))) [
        | yes e ↦ e
        | no q ↦ absurd (omega (
          arith,
          q,
          tail.no_lower,
          tail.raised (omega (arith, q, tail.no_lower)),
        ))
      ] in
      lifts o (up k
      (ap (λ (l : List ℕ). set l (at to a) high) (ap (set y (at from a)) still ∙ set-get_or y (at from a) 0)
      ∙ ap (set y (at to a)) (omega arith)))

-- the first a edges are swept, and an end was lifted at so many of them
pub record Sweeping (from to gap flow : List ℕ) (n : ℕ) (old y : List ℕ) (lifted a : ℕ) : Type 0 where
  pub long : length y ≡ length old
  pub rest : drop n y ≡ drop n old
  pub heights : Heights from to gap flow n y
  pub none : lifted ≡ 0 → (i : ℕ) → i < a
      → (at y (at from i) + at gap i ≤ at y (at to i)) × (0 < at flow i → at y (at to i) ≤ at y (at from i) + at gap i)
  pub less : headroom row_limit y ≤ headroom row_limit old
  pub some : 0 < lifted → headroom row_limit y < headroom row_limit old
  pub few : lifted ≤ a

module _ (from to gap flow : List ℕ) (n : ℕ) (shape : Shaped from to gap n) (hold : Holder from to gap flow n row_limit) where
  pub sweeping-start : (y : List ℕ) → Heights from to gap flow n y → Sweeping from to gap flow n y y 0 0
  sweeping-start y hs =
      record {
        long = refl;
        rest = refl;
        heights = hs;
        none = λ e i h. absurd (not-suc-le-zero h);
        less = omega arith;
        some = λ p. absurd (not-suc-le-zero p);
        few = omega arith;
      }

  module _ (old y : List ℕ) (lifted a : ℕ) (fits : n ≤ length old) (s : Sweeping from to gap flow n old y lifted a) where
    pub fits-now : n ≤ length y
    fits-now = omega (arith, s.long)

    pub sums-now : Sums from gap y
    sums-now = sums from to gap flow n row_limit shape hold y fits-now s.heights (omega arith)

    -- A turn: an edge that is held changes nothing; one that is not has an end lifted, to the height of a walk, below the rows that are
    -- held, so there is less room to rise.
    pub sweeping-turn : (y' : List ℕ) (r : Bool) → a < length from → Eases from to gap flow y a y' r
        → Sweeping from to gap flow n old y' (lifted + bool_byte r) (a + 1)
    sweeping-turn y' r h (holds z e k t) =
        rw e (record {
          long = s.long;
          rest = s.rest;
          heights = s.heights;
          none = λ q i b. elim (ℕ_discrete i a) [
            | yes m ↦ subst (λ (j : ℕ). (at y (at from j) + at gap j ≤ at y (at to j)) × (0 < at flow j → at y (at to j) ≤ at y (at from j) + at gap j)) (sym m) (k, t)
            | no m ↦ s.none (omega arith) i (omega arith)
          ];
          less = s.less;
          some = λ p. s.some (omega (arith, ap bool_byte z));
          few = omega (arith, s.few, ap bool_byte z);
        })
    sweeping-turn y' r h (lifts o l) =
        let fall = lift-less from to gap flow n row_limit shape hold y fits-now s.heights a h y' l in
        record {
          long = lift-long from to gap flow n row_limit shape hold y fits-now s.heights a h y' l ∙ s.long;
          rest = lift-rest from to gap flow n row_limit shape hold y fits-now s.heights a h y' l ∙ s.rest;
          heights = lift-heights from to gap flow n row_limit shape hold y fits-now s.heights a h y' l;
          none = λ q i b. absurd (omega (arith, ap bool_byte o));
          less = omega (arith, s.less);
          some = λ p. omega (arith, s.less);
          few = omega (arith, s.few, ap bool_byte o);
        }

    pub sweeping-ends : length from ≤ a → Swept from to gap flow n old y (ltb 0 lifted)
    sweeping-ends h =
        record {
          long = s.long;
          rest = s.rest;
          heights = s.heights;
          none = λ e. record { kept = λ i b. (s.none (no-lift e) i (omega arith)).0; tight = λ i b. (s.none (no-lift e) i (omega arith)).1 };
          some = λ e. s.some (ltb-true 0 lifted e);
        }
      where
        no-lift : ltb 0 lifted ≡ false → lifted ≡ 0
        no-lift e = omega (arith, ltb-false 0 lifted e)
