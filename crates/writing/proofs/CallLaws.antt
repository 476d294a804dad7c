-- From a table that was read to the call: how long its shortest table is, and the outcome of the call by cases.
use mathlib.Core.Path.{◌≡◌, refl, sym, ap, subst, ◌∙◌}
use mathlib.Core.Bool.{Bool, true, false}
use mathlib.Core.List.{List, [], ◌++◌}
use Prim.Native.Nat.{ℕ, ◌≤◌}
use native.Mathlib.Omega.{arith}
use lib.Dec.{leb}
use lib.ListN.{length}
use Rattle.std.specs.Prelude.{Result, Ok, Err}
use Rattle.outcome.specs.declared.Refusal.{Refusal}
use Rattle.outcome.specs.declared.Refusal.TheVariants.{ShortBuffer}
use Rattle.outcome.specs.Refusal.{Outcome, done, refused, then_do, demand, step_of}
use Rattle.outcome.proofs.ToldLaws.{told-refused, told-done}
use Rattle.table.specs.declared.rule.Rule.{Rule}
use Rattle.table.specs.Table.{Contents, read_by}
use Rattle.table.proofs.FairLaws.{read-fair-by}
use Rattle.table.proofs.RangeLaws.{read-alone-by}
use Rattle.encoding.specs.Limits.{max_shortest}
use Rattle.encoding.specs.Said.{said}
use Rattle.encoding.specs.Shortest.{shortest}
use Rattle.writing.specs.Calls.{shortened_by, text_of, fitted, count_of, write_end, write_call_by, write_numbers}
use Rattle.writing.proofs.PageLaws.{fair-bytes}
use Rattle.writing.proofs.FittedLaws.{fitted-is}

-- no shortest table has more bytes
pub shortest-bytes : (rule : Rule) (bytes : List ℕ) (c : Contents) → read_by rule bytes ≡ done c → length (shortest (said bytes c)) ≤ max_shortest
shortest-bytes rule bytes c e = fair-bytes (read-fair-by rule bytes e)

-- what is made of a table that was read, and of one that was refused
module _ (rule : Rule) (bytes : List ℕ) where
  pub made-of : {c : Contents} → read_by rule bytes ≡ done c → shortened_by rule bytes ≡ done (shortest (said bytes c))
  unfolding shortened_by
  made-of e = rw e

  pub made-none : {f : Refusal} → read_by rule bytes ≡ refused f → shortened_by rule bytes ≡ refused f
  unfolding shortened_by
  made-none e = rw e

  -- so a refusal is that of the call, and leaves its buffer, and bytes that were made are handed out
  pub call-refused : {f : Refusal} (old : List ℕ) → shortened_by rule bytes ≡ refused f
      → (write_numbers (Err f) ≡ (write_call_by rule bytes old).numbers) × (old ≡ (write_call_by rule bytes old).out)
  unfolding write_call_by fitted
  call-refused old e = (rw e, rw e)

  pub call-fitted : {text page : List ℕ} (old : List ℕ) → shortened_by rule bytes ≡ done text → page ≡ text → write_end (done page) old ≡ write_call_by rule bytes old
  unfolding write_call_by
  call-fitted old e p = rw (p, e)

-- a page that was blank has the bytes that were made
pub page-is : {what : Outcome (List ℕ)} {text old page : List ℕ} → old ≡ [] → what ≡ done text → page ≡ old ++ text_of what → page ≡ text
page-is {what} {text} {old} {page} n e s = s ∙ ap (λ l. l ++ text_of what) n ∙ ap text_of e

-- ---- from the answer back to the outcome

-- what refuses to make a table is the reader, and no step comes with that
pub made-alone : (rule : Rule) (bytes : List ℕ) {f : Refusal} → shortened_by rule bytes ≡ refused f → step_of f ≡ 0
unfolding shortened_by
made-alone rule bytes {f} e = go (read_by rule bytes) refl e
  where
    go : (o : Outcome Contents) → read_by rule bytes ≡ o → then_do o (λ c. done (shortest (said bytes c))) ≡ refused f → step_of f ≡ 0
    go (done c) r e = let z : ◌≡◌ {A = ℕ} 0 1 = cc in absurd (omega arith)
    go (refused g) r e = let k : g ≡ f = cc in subst (λ x. step_of x ≡ 0) k (read-alone-by rule bytes r)

-- a refusal of the call is the reader's or 13, and no step comes with either
out-alone : (rule : Rule) (bytes old : List ℕ) {f : Refusal} → fitted (shortened_by rule bytes) old ≡ refused f → step_of f ≡ 0
unfolding fitted
out-alone rule bytes old {f} e = go (shortened_by rule bytes) refl e
  where
    test : (b : Bool) (table : List ℕ) → demand b ShortBuffer (done table) ≡ refused f → step_of f ≡ 0
    test true table e = let z : ◌≡◌ {A = ℕ} 0 1 = cc in absurd (omega arith)
    test false table e = let k : ShortBuffer ≡ f = cc in subst (λ x. step_of x ≡ 0) k refl

    go : (o : Outcome (List ℕ)) → shortened_by rule bytes ≡ o
        → then_do o (λ table. demand (leb (length table) (length old)) ShortBuffer (done table)) ≡ refused f → step_of f ≡ 0
    go (done table) r e = test (leb (length table) (length old)) table e
    go (refused g) r e = let k : g ≡ f = cc in subst (λ x. step_of x ≡ 0) k (made-alone rule bytes r)

-- a table that is handed out is the shortest one of the table that was read
pub record HandedOut (rule : Rule) (bytes table : List ℕ) : Type 0 where
  pub contents : Contents
  pub reads : read_by rule bytes ≡ done contents
  pub is : shortest (said bytes contents) ≡ table

shortened-is : (rule : Rule) (bytes : List ℕ) {table : List ℕ} → shortened_by rule bytes ≡ done table → HandedOut rule bytes table
unfolding shortened_by
shortened-is rule bytes {table} e = go (read_by rule bytes) refl e
  where
    go : (o : Outcome Contents) → read_by rule bytes ≡ o → then_do o (λ c. done (shortest (said bytes c))) ≡ done table → HandedOut rule bytes table
    go (done c) r e = record { contents = c; reads = r; is = cc }
    go (refused g) r e = let z : ◌≡◌ {A = ℕ} 0 1 = cc in absurd (omega arith)

pub out-is : (rule : Rule) (bytes old : List ℕ) {table : List ℕ} → fitted (shortened_by rule bytes) old ≡ done table → HandedOut rule bytes table
out-is rule bytes old e = shortened-is rule bytes (fitted-is (shortened_by rule bytes) old e)

module _ (rule : Rule) (bytes old : List ℕ) {a : Result ℕ Refusal} (e : write_numbers a ≡ (write_call_by rule bytes old).numbers) where
  pub write_alone : {f : Refusal} → a ≡ Err f → step_of f ≡ 0
  unfolding write_call_by
  write_alone {f} v = out-alone rule bytes old {f = f} (told-refused count_of (fitted (shortened_by rule bytes) old) (sym (ap write_numbers v) ∙ e))

  pub write_low : {len : ℕ} → a ≡ Ok len → len ≤ max_shortest
  unfolding write_call_by
  write_low {len} v =
      let h = told-done count_of (fitted (shortened_by rule bytes) old) (sym (ap write_numbers v) ∙ e) in
      let w = h.says in
      let k : len ≡ length h.value = cc in
      let o = out-is rule bytes old h.outcome in
      omega (arith, shortest-bytes rule bytes o.contents o.reads, ap length o.is)
