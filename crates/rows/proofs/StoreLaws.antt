-- Rows handed out: the answers that go with a buffer.
use mathlib.Core.Path.{◌≡◌, refl, sym, ap, ◌∙◌, subst}
use mathlib.Core.Bool.{Bool, true, false, cond}
use mathlib.Core.Logic.{◌⊎◌, inl, inr}
use mathlib.Core.List.{List, [], ◌∷◌, ◌++◌}
use Prim.Native.Nat.{ℕ, ◌≤◌, ◌<◌}
use native.Mathlib.Omega.{arith}
use borrow.Author.Tests.{le-leb, lt-leb}
use lib.Dec.{leb}
use lib.ListN.{length, take, drop}
use lib.Seq.{take_at}
use Rattle.std.specs.Prelude.{Result, Ok, Err, IfOk}
use Rattle.graph.specs.declared.Edge.{Edge}
use Rattle.graph.specs.Rows.{Best}
use Rattle.outcome.specs.declared.Refusal.{Refusal}
use Rattle.outcome.specs.declared.Refusal.TheVariants.{ShortBuffer}
use Rattle.outcome.specs.Refusal.{Outcome, done, numbers_of, number_of, refusal_in}
use Rattle.outcome.proofs.ToldLaws.{number-some}
use Rattle.rows.specs.declared.types.RowsFound.{RowsFound}
use Rattle.rows.specs.Answers.{RowsEnd, rows_end, rows_numbers, RowsBest}
use Rattle.rows.specs.Placed.{held_rows, RowsPlaced, Placed, RowsHandedOut}

-- ---- rows handed out

-- a refusal leaves the buffer as it was
pub handed-refused : (old : List ℕ) (f : Result RowsFound Refusal) {r : Refusal} → f ≡ Err r → RowsHandedOut (held_rows f) old old (Err r)
handed-refused old f e = rw e (record { numbers = refl; rows = refl })

module _ (rows old : List ℕ) where
  pub handed-short : length old < length rows → RowsHandedOut (done rows) old old (Err ShortBuffer)
  handed-short h = record { numbers = simp (lt-leb (length rows) (length old) h); rows = simp (lt-leb (length rows) (length old) h) }

  pub handed-done : length rows ≤ length old → (new : List ℕ) → new ≡ rows ++ drop (length rows) old → RowsHandedOut (done rows) old new (Ok tt)
  handed-done h new e = record { numbers = simp (le-leb (length rows) (length old) h); rows = simp (le-leb (length rows) (length old) h) e }

-- ---- what was handed out is the best

-- the end of a call that found rows, by the test of the buffer
abbrev ends : List ℕ → List ℕ → Bool → RowsEnd
ends rows old b = cond b (record { numbers = 0 ∷ []; rows = rows ++ drop (length rows) old }) (record { numbers = numbers_of ShortBuffer; rows = old })

module _ (n : ℕ) (edges : List Edge) (old new : List ℕ) where
  -- By what was found, and by the test of the buffer: where the answer is 0, the first entries of the buffer are the rows.
  found-best : (f : Result RowsFound Refusal) → IfOk f (RowsPlaced edges n) → (r : Result Unit Refusal) → RowsHandedOut (held_rows f) old new r
      → RowsBest n edges (rows_numbers r) new
  found-best (Ok f) p r h zero = fits (leb (length f.rows.items) (length old)) (sym zero ∙ ap refusal_in h.numbers) h.rows
    where
      fits : (b : Bool) → 0 ≡ refusal_in (ends f.rows.items old b).numbers → new ≡ (ends f.rows.items old b).rows → Best n edges (take n new)
      fits true x y = subst (Best n edges) (sym (ap (take n) y ∙ take_at f.rows.items _ n p.best.one_a_node)) p.best
      fits false x y = absurd (omega arith)
  found-best (Err k) p r h zero =
      let q : 0 ≡ number_of k = sym zero ∙ ap refusal_in h.numbers in
      absurd (omega (arith, number-some k))

  pub handed-best : {what : Outcome (List ℕ)} {f : Result RowsFound Refusal} → Placed n edges what f → {r : Result Unit Refusal} → RowsHandedOut what old new r
      → RowsBest n edges (rows_numbers r) new
  handed-best {what} {f} placed {r} h = found-best f placed.placed r (subst (λ o. RowsHandedOut o old new r) (sym placed.says) h)

-- ---- what a call tells

-- of rows that were found it tells 0, or that the buffer is short
pub told-done : (rows old : List ℕ) → ((rows_end (done rows) old).numbers ≡ 0 ∷ []) ⊎ ((rows_end (done rows) old).numbers ≡ numbers_of ShortBuffer)
told-done rows old = go (leb (length rows) (length old))
  where
    go : (b : Bool) → ((ends rows old b).numbers ≡ 0 ∷ []) ⊎ ((ends rows old b).numbers ≡ numbers_of ShortBuffer)
    go true = inl refl
    go false = inr refl
