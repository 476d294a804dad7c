-- The numbers and the contents that the reader answers tell its whole outcome.
use mathlib.Core.Path.{◌≡◌, sym, ap, ◌∙◌}
use mathlib.Core.List.{List, []}
use Prim.Native.Nat.{ℕ}
use Rattle.std.specs.Prelude.{Result}
use Rattle.outcome.specs.declared.Refusal.{Refusal}
use Rattle.table.specs.declared.rule.Rule.{Rule}
use Rattle.table.specs.declared.types.Table.{Table}
use Rattle.outcome.specs.Refusal.{Outcome, done, refused, bare}
use Rattle.table.specs.Table.{Contents, read_by}
use Rattle.table.specs.Calls.{table_outcome, end_of, read_end, read_call_by}
use Rattle.outcome.proofs.ToldLaws.{told-refused, told-done, Values}

-- outcomes with the same numbers and contents are the same
end-same : (o p : Outcome Contents) → end_of o ≡ end_of p → o ≡ p
end-same o (refused f) e = told-refused bare o (sym (ap (λ x. x.numbers) e))
end-same o (done t) e = go (told-done bare o (sym (ap (λ x. x.numbers) e)))
  where
    go : Values bare o [] → o ≡ done t
    go h = h.outcome ∙ ap done (ap (λ p. (end_of p).contents) (sym h.outcome) ∙ ap (λ x. x.contents) e)

-- the numbers and the contents tell the whole answer
pub read_whole : (rule : Rule) (s : List ℕ) (r : Result Table Refusal) → read_end r ≡ read_call_by rule s → table_outcome r ≡ read_by rule s
unfolding read_call_by
read_whole rule s r e = end-same (table_outcome r) (read_by rule s) e

pub whole-read : (rule : Rule) (s : List ℕ) (r : Result Table Refusal) → table_outcome r ≡ read_by rule s → read_end r ≡ read_call_by rule s
unfolding read_call_by
whole-read rule s r e = ap end_of e
