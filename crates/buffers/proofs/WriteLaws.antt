-- Buffers written entry by entry.
use mathlib.Core.Path.{◌≡◌, refl, sym, ap, ◌∙◌}
use mathlib.Core.List.{List, [], ◌∷◌, ◌++◌, append_assoc}
use Prim.Native.Nat.{ℕ, suc, ◌+◌, ◌-◌, ◌≤◌, ◌<◌}
use native.Mathlib.Nat.{add-zero}
use native.Mathlib.Numerals.{add-one}
use native.Mathlib.Omega.{arith}
use lib.ListN.{length, get_or, take, drop, set, length-set, length-append, get_or-append, drop_of_length-le}
use lib.Seq.{drop-cons, drop-drop, sets, sets-eq, take-append_seam, drop-append_seam, take_all}
use Rattle.buffers.specs.Written.{written, Stored}

pub written-append : (l : List ℕ) (i : ℕ) (vs ws : List ℕ) → written l i (vs ++ ws) ≡ written (written l i vs) (i + length vs) ws
unfolding written
written-append l i [] ws = rw (add-zero i)
written-append l i (v ∷ vs) ws =
    let e : suc i + length vs ≡ i + suc (length vs) = omega arith in
    written-append (set l i v) (suc i) vs ws ∙ ap (λ (k : ℕ). written (written (set l i v) (suc i) vs) k ws) e

pub written-length : (l : List ℕ) (i : ℕ) (vs : List ℕ) → length (written l i vs) ≡ length l
unfolding written
written-length l i [] = refl
written-length l i (v ∷ vs) = written-length (set l i v) (suc i) vs ∙ length-set l i v

written-sets : (l : List ℕ) (i : ℕ) (vs : List ℕ) → written l i vs ≡ sets l i vs
unfolding written
written-sets l i [] = refl
written-sets l i (v ∷ vs) = written-sets (set l i v) (suc i) vs

-- What a written buffer holds: the list in front, and behind it what was there.
module _ (l vs : List ℕ) (fits : length vs ≤ length l) where
  pub written_is : written l 0 vs ≡ vs ++ drop (length vs) l
  written_is = let h : 0 + length vs ≤ length l = omega arith in
      let e : 0 + length vs ≡ length vs = omega arith in
      written-sets l 0 vs ∙ sets-eq vs l 0 h ∙ ap (λ (k : ℕ). vs ++ drop k l) e

  pub written-take : take (length vs) (written l 0 vs) ≡ vs
  written-take = rw written_is (take-append_seam vs (drop (length vs) l))

  pub written-drop : drop (length vs) (written l 0 vs) ≡ drop (length vs) l
  written-drop = rw written_is (drop-append_seam vs (drop (length vs) l))

  pub written_at : (i : ℕ) → i < length vs → get_or (written l 0 vs) i 0 ≡ get_or vs i 0
  written_at i h = rw written_is (get_or-append vs (drop (length vs) l) 0 i h)

pub drop-turn : (l : List ℕ) (i : ℕ) → i < length l → drop i l ≡ get_or l i 0 ∷ drop (i + 1) l
drop-turn l i h = rw (add-one i) (drop-cons l i 0 h)

pub drop-end : (l : List ℕ) (i : ℕ) → length l ≤ i → drop i l ≡ []
drop-end l i h = drop_of_length-le l h

-- ---- one entry, none, a part, and two parts

pub stored_one : (l : List ℕ) (p v : ℕ) → Stored l p (v ∷ []) (set l p v) (p + 1)
unfolding written
stored_one l p v = record { holds = refl; counts = refl }

pub stored-none : (l : List ℕ) (p : ℕ) → Stored l p [] l p
unfolding written
stored-none l p = record { holds = refl; counts = omega arith }

-- a list put in the place of as many entries, from entry p up to entry q
pub stored-put : (l : List ℕ) (p q : ℕ) (vs : List ℕ) → q ≡ p + length vs → q ≤ length l → Stored l p vs (take p l ++ (vs ++ drop (q - p) (drop p l))) q
stored-put l p q vs e h = record {
  holds =
      let k : p + (q - p) ≡ p + length vs = omega arith in
      rw (drop-drop (q - p) p l) (ap (λ (n : ℕ). take p l ++ (vs ++ drop n l)) k ∙ sym (append_assoc (take p l) vs (drop (p + length vs) l)) ∙ sym (written-sets l p vs ∙ sets-eq vs l p (omega arith)));
  counts = e;
}

pub stored-long : {l l' vs : List ℕ} {i p : ℕ} → Stored l i vs l' p → length l' ≡ length l
stored-long {l} {l'} {vs} {i} s = ap length s.holds ∙ written-length l i vs

pub stored-append : {l l₁ l₂ : List ℕ} {i p₁ p₂ : ℕ} (vs ws : List ℕ) → Stored l i vs l₁ p₁ → Stored l₁ p₁ ws l₂ p₂ → Stored l i (vs ++ ws) l₂ p₂
stored-append {l} {l₁} {l₂} {i} vs ws s t =
    record {
      holds = t.holds ∙ rw (s.holds, s.counts) (sym (written-append l i vs ws));
      counts = simp length-append (omega (arith, s.counts, t.counts));
    }

-- a list stored over one of its length takes its place
pub stored-all : {l l' vs : List ℕ} {p : ℕ} → length l ≡ length vs → Stored l 0 vs l' p → l' ≡ vs
stored-all {l} {l'} {vs} e s =
    sym (take_all (length vs) l' (omega (arith, ap length s.holds, written-length l 0 vs)))
    ∙ ap (take (length vs)) s.holds ∙ written-take l vs (omega arith)

-- a list copied over the front is stored there
pub stored-front : (l vs : List ℕ) {front : List ℕ} → length vs ≤ length l → front ≡ vs → Stored l 0 vs (front ++ drop (length vs) l) (length vs)
stored-front l vs h e = record { holds = ap (λ (f : List ℕ). f ++ drop (length vs) l) e ∙ sym (written_is l vs h); counts = omega arith }

-- ---- on the way

-- A list that goes into a buffer from entry i on, part by part: to write the rest, from entry p on, would complete it. Loops that
-- write have this as their invariant.
pub record Writing (old : List ℕ) (i : ℕ) (vs : List ℕ) (l : List ℕ) (p : ℕ) (rest : List ℕ) : Type 0 where
  pub completes : written l p rest ≡ written old i vs
  pub ends : p + length rest ≡ i + length vs
  pub room : i + length vs ≤ length old

pub writing_start : (old : List ℕ) (i : ℕ) (vs : List ℕ) → i + length vs ≤ length old → Writing old i vs old i vs
writing_start old i vs h = record { completes = refl; ends = refl; room = h }

module _ {old vs l : List ℕ} {i p : ℕ} where
  pub writing-long : {rest : List ℕ} → Writing old i vs l p rest → length l ≡ length old
  writing-long {rest} w = sym (written-length l p rest) ∙ ap length w.completes ∙ written-length old i vs

  -- there is room for the next part of the rest
  pub writing-room : {rest : List ℕ} (part more : List ℕ) → rest ≡ part ++ more → Writing old i vs l p rest → p + length part ≤ length l
  writing-room part more e w = omega (arith, writing-long w, w.ends, w.room, simp length-append at (ap length e))

  pub writing-next : {rest : List ℕ} (v : ℕ) (more : List ℕ) → rest ≡ v ∷ more → Writing old i vs l p rest → p < length l
  writing-next v more e w = omega (arith, writing-room (v ∷ []) more e w)

  -- one part more
  pub writing-part : {rest l' : List ℕ} {p' : ℕ} (part more : List ℕ) → rest ≡ part ++ more → Writing old i vs l p rest → Stored l p part l' p'
      → Writing old i vs l' p' more
  writing-part part more e w s =
      record {
        completes = rw (s.holds, s.counts) (sym (written-append l p part more) ∙ ap (written l p) (sym e) ∙ w.completes);
        ends = omega (arith, w.ends, s.counts, simp length-append at (ap length e));
        room = w.room;
      }

  -- one entry more
  pub writing-one : {rest : List ℕ} (v : ℕ) (more : List ℕ) → rest ≡ v ∷ more → Writing old i vs l p rest → Writing old i vs (set l p v) (p + 1) more
  writing-one v more e w = writing-part (v ∷ []) more e w (stored_one l p v)

  -- and none
  pub writing-end : {rest : List ℕ} → rest ≡ [] → Writing old i vs l p rest → Stored old i vs l p
  unfolding written
  writing-end {rest} e w = record { holds = ap (written l p) (sym e) ∙ w.completes; counts = omega (arith, w.ends, ap length e) }
