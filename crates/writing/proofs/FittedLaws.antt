-- Bytes made on a page and handed out: what becomes of the lent buffer.
use mathlib.Core.Path.{◌≡◌, refl}
use mathlib.Core.Bool.{Bool, true, false}
use mathlib.Core.List.{List, [], ◌∷◌, ◌++◌}
use Prim.Native.Nat.{ℕ, ◌≤◌, ◌<◌}
use native.Mathlib.Omega.{arith}
use borrow.Author.Tests.{le-leb, lt-leb, leb-true}
use lib.Dec.{leb}
use lib.ListN.{length, drop}
use Rattle.std.specs.Prelude.{Ok, Err}
use Rattle.outcome.specs.declared.Refusal.TheVariants.{ShortBuffer}
use Rattle.outcome.specs.Refusal.{Outcome, done, refused, demand}
use Rattle.outcome.proofs.ToldLaws.{told-done}
use Rattle.writing.specs.Calls.{fitted, count_of, write_end, write_numbers}

module _ (text old : List ℕ) where
  pub end_short : length old < length text → (write_numbers (Err ShortBuffer) ≡ (write_end (done text) old).numbers) × (old ≡ (write_end (done text) old).out)
  unfolding fitted
  end_short l = let b = lt-leb (length text) (length old) l in (rw b, rw b)

  pub end-written : {new : List ℕ} → length text ≤ length old → new ≡ text ++ drop (length text) old
      → (write_numbers (Ok (length text)) ≡ (write_end (done text) old).numbers) × (new ≡ (write_end (done text) old).out)
  unfolding fitted
  end-written l e = let b = le-leb (length text) (length old) l in (rw b, rw b e)

  -- a buffer that is long enough is not refused
  pub end_fits : length text ≤ length old → (write_end (done text) old).numbers ≡ 0 ∷ length text ∷ []
  unfolding fitted
  end_fits l = rw (le-leb (length text) (length old) l)

  -- what was written is in the buffer
  pub written-fits : {len : ℕ} → write_numbers (Ok len) ≡ (write_end (done text) old).numbers → len ≤ length old
  unfolding fitted
  written-fits {len} e = let h = told-done count_of (demand (leb (length text) (length old)) ShortBuffer (done text)) e in go (leb (length text) (length old)) refl h.outcome h.says
    where
      go : (b : Bool) → leb (length text) (length old) ≡ b → {t : List ℕ} → demand b ShortBuffer (done text) ≡ done t → len ∷ [] ≡ count_of t → len ≤ length old
      go true l {t} o s =
          let k : text ≡ t = cc in
          let n : len ≡ length text = cc in
          omega (arith, leb-true (length text) (length old) l)
      go false l o s = let z : ◌≡◌ {A = ℕ} 0 1 = cc in absurd (omega arith)

-- what fits is what was to be written
pub fitted-is : (what : Outcome (List ℕ)) (old : List ℕ) {text : List ℕ} → fitted what old ≡ done text → what ≡ done text
unfolding fitted
fitted-is (done t) old {text} e = go (leb (length t) (length old)) e
  where
    go : (b : Bool) → demand b ShortBuffer (done t) ≡ done text → done t ≡ done text
    go true e = e
    go false e = let z : ◌≡◌ {A = ℕ} 0 1 = cc in absurd (omega arith)
fitted-is (refused r) old e = e
