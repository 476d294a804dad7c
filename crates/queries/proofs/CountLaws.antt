-- The counts call: what it tells of a table that was read, and from its numbers back to the outcome.
use mathlib.Core.Path.{◌≡◌}
use mathlib.Core.List.{List, [], ◌∷◌}
use Prim.Native.Nat.{ℕ, ◌≤◌}
use native.Mathlib.Omega.{arith}
use lib.ListN.{length}
use Rattle.std.specs.Prelude.{Ok, Err}
use Rattle.outcome.specs.declared.Refusal.{Refusal}
use Rattle.table.specs.declared.types.Table.{Table}
use Rattle.queries.specs.declared.types.Counts.{Counts}
use Rattle.table.specs.Limits.{max_steps, max_edges}
use Rattle.outcome.specs.Refusal.{refused}
use Rattle.table.specs.Table.{read}
use Rattle.table.specs.Calls.{read_end, read_call}
use Rattle.queries.specs.Calls.{counts_of, counts_call, counts_numbers}
use Rattle.outcome.proofs.ToldLaws.{told-refused, Values, told-done}
use Rattle.table.proofs.AnswerLaws.{read-refused, read-accepted}
use Rattle.table.proofs.FairLaws.{read-fair}

-- ---- from a table that was read

pub counted : (s : List ℕ) (t : Table) → read_end (Ok t) ≡ read_call s
    → counts_numbers (Ok (record { steps = length t.steps.items; edges = length t.edges.items })) ≡ counts_call s
unfolding counts_call
counted s t e = rw (read-accepted s e)

pub counts_refused : (s : List ℕ) (f : Refusal) → read_end (Err f) ≡ read_call s → counts_numbers (Err f) ≡ counts_call s
unfolding counts_call
counts_refused s f e = rw (read-refused s e)

-- ---- from the answer back to the outcome

module _ (s : List ℕ) where
  pub counts-not : {f : Refusal} → counts_numbers (Err f) ≡ counts_call s → read s ≡ refused f
  unfolding counts_call
  counts-not e = told-refused counts_of (read s) e

  pub counts-low : {c : Counts} → counts_numbers (Ok c) ≡ counts_call s → (c.steps ≤ max_steps) × (c.edges ≤ max_edges)
  unfolding counts_call
  counts-low {c} e = go (told-done counts_of (read s) e)
    where
      go : Values counts_of (read s) (c.steps ∷ c.edges ∷ []) → (c.steps ≤ max_steps) × (c.edges ≤ max_edges)
      go h =
          let w = h.says in
          let fair = read-fair s h.outcome in
          let n : c.steps ≡ length h.value.steps = cc in
          let m : c.edges ≡ length h.value.edges = cc in
          (omega (arith, fair.few_steps), omega (arith, fair.few_edges))
