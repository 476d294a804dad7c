-- What the buffer of a call holds: a table that says what the input says. And which buffers are never too short.
use mathlib.Core.Path.{◌≡◌, refl, sym, ap, subst, ◌∙◌}
use mathlib.Core.List.{List, [], ◌∷◌, ◌++◌}
use Prim.Native.Nat.{ℕ, ◌≤◌}
use native.Mathlib.Omega.{arith}
use borrow.Author.Tests.{le-leb}
use lib.Dec.{leb}
use lib.ListN.{length, take, drop}
use lib.Seq.{take-append_seam}
use Rattle.outcome.specs.declared.Refusal.TheVariants.{ShortBuffer}
use Rattle.outcome.specs.Refusal.{Outcome, done, refused, then_do, demand}
use Rattle.outcome.proofs.ToldLaws.{told-done}
use Rattle.table.specs.declared.rule.Rule.{Rule}
use Rattle.table.specs.Table.{Contents, read_by}
use Rattle.encoding.specs.Limits.{max_shortest}
use Rattle.encoding.specs.Said.{said}
use Rattle.encoding.specs.Shortest.{shortest}
use Rattle.writing.specs.Calls.{shortened_by, fitted, put_out, count_of, write_call_by}
use Rattle.writing.specs.Sayable.{Says}
use Rattle.writing.proofs.CallLaws.{shortest-bytes, out-is}
use Rattle.writing.proofs.TableLaws.{written_back, none-shorter}

-- ---- what a call hands out

-- the input is a table, and the first bytes of the buffer are one that says the same
pub record SameSaid (rule : Rule) (bytes out : List ℕ) (len : ℕ) : Type 0 where
  pub contents : Contents
  pub reads : read_by rule bytes ≡ done contents
  pub back : Says (take len out) (said bytes contents)

pub call_back : (rule : Rule) (bytes old : List ℕ) (len : ℕ) → (write_call_by rule bytes old).numbers ≡ 0 ∷ len ∷ [] → SameSaid rule bytes (write_call_by rule bytes old).out len
unfolding write_call_by
call_back rule bytes old len e =
    let h = told-done count_of (fitted (shortened_by rule bytes) old) (sym e) in
    let table = h.value in
    let w = h.says in
    let k : len ≡ length table = cc in
    let o = out-is rule bytes old h.outcome in
    let front : take len (put_out (fitted (shortened_by rule bytes) old) old) ≡ table = ap (λ x. take len (put_out x old)) h.outcome
    ∙ ap (λ n. take n (table ++ drop (length table) old)) k ∙ take-append_seam table (drop (length table) old) in
    record {
      contents = o.contents;
      reads = o.reads;
      back = subst (λ t. Says t (said bytes o.contents)) (o.is ∙ sym front) (written_back rule bytes o.reads);
    }

-- ---- buffers that are never too short

module _ (rule : Rule) (bytes old : List ℕ) where
  enough : ((c : Contents) → read_by rule bytes ≡ done c → length (shortest (said bytes c)) ≤ length old) → fitted (shortened_by rule bytes) old ≡ shortened_by rule bytes
  unfolding fitted shortened_by
  enough h = go (read_by rule bytes) refl
    where
      go : (o : Outcome Contents) → read_by rule bytes ≡ o
          → then_do (then_do o λ c. done (shortest (said bytes c))) (λ table. demand (leb (length table) (length old)) ShortBuffer (done table))
          ≡ then_do o λ c. done (shortest (said bytes c))
      go (done c) r = rw (le-leb (length (shortest (said bytes c))) (length old) (h c r))
      go (refused f) r = refl

  -- as long as the table itself
  pub enough-own : length bytes ≤ length old → fitted (shortened_by rule bytes) old ≡ shortened_by rule bytes
  enough-own h = enough (λ c r. omega (arith, none-shorter rule bytes r rule bytes r refl))

  -- as long as any shortest table may be
  pub enough-any : max_shortest ≤ length old → fitted (shortened_by rule bytes) old ≡ shortened_by rule bytes
  enough-any h = enough (λ c r. omega (arith, shortest-bytes rule bytes c r))
