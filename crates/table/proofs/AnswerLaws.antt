-- What the answer of the reader tells the calls above.
use mathlib.Core.Path.{◌≡◌, sym}
use mathlib.Core.List.{List}
use Prim.Native.Nat.{ℕ}
use Rattle.std.specs.Prelude.{Ok, Err}
use Rattle.outcome.specs.declared.Refusal.{Refusal}
use Rattle.table.specs.declared.rule.Rule.{Rule}
use Rattle.table.specs.declared.rule.Rule.TheVariants.{Shortest}
use Rattle.table.specs.declared.types.Table.{Table}
use Rattle.outcome.specs.Refusal.{done, refused}
use Rattle.table.specs.Table.{read_by, read}
use Rattle.table.specs.Calls.{contents_in, read_end, read_call_by, read_call}
use Rattle.table.proofs.WholeReadLaws.{read_whole}

module _ (rule : Rule) (s : List ℕ) where
  pub read-refused-by : {f : Refusal} → read_end (Err f) ≡ read_call_by rule s → read_by rule s ≡ refused f
  read-refused-by {f} e = sym (read_whole rule s (Err f) e)

  pub read-accepted-by : {t : Table} → read_end (Ok t) ≡ read_call_by rule s → read_by rule s ≡ done (contents_in t)
  read-accepted-by {t} e = sym (read_whole rule s (Ok t) e)

-- the same of today's tables
module _ (s : List ℕ) where
  pub read-refused : {f : Refusal} → read_end (Err f) ≡ read_call s → read s ≡ refused f
  read-refused e = read-refused-by Shortest s e

  pub read-accepted : {t : Table} → read_end (Ok t) ≡ read_call s → read s ≡ done (contents_in t)
  read-accepted e = read-accepted-by Shortest s e
