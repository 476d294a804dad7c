-- What the converter writes: what the old rule read, in a table that is accepted today; or a line that is no table.
use mathlib.Core.Path.{◌≡◌, refl, sym, ap, subst, ◌∙◌}
use mathlib.Core.List.{List}
use Prim.Native.Nat.{ℕ, ◌≤◌, ◌<◌}
use native.Mathlib.Omega.{arith}
use lib.ListN.{length}
use lib.Seq.{take_all}
use Rattle.outcome.specs.declared.Refusal.{Refusal}
use Rattle.outcome.specs.declared.Refusal.TheVariants.{BadEdition}
use Rattle.outcome.specs.Refusal.{Outcome, done, refused}
use Rattle.table.specs.declared.rule.Rule.{Rule}
use Rattle.table.specs.declared.rule.Rule.TheVariants.{Old, Shortest}
use Rattle.table.specs.Limits.{max_table, max_input}
use Rattle.table.specs.Number.{number_in}
use Rattle.table.specs.Table.{Contents, read_by, read, table_within, read_within}
use Rattle.table.proofs.NumberLaws.{one}
use Rattle.table.proofs.FairLaws.{read-short-by}
use Rattle.table.proofs.RangeLaws.{read-alone-by}
use Rattle.table.proofs.PrefixLaws.{read-prefix}
use Rattle.table.proofs.OldLaws.{read-old}
use Rattle.lines.specs.Lines.{refusal_text}
use Rattle.lines.proofs.RefusalLaws.{refusal-short}
use Rattle.encoding.specs.Limits.{max_shortest}
use Rattle.encoding.specs.Said.{said}
use Rattle.encoding.specs.Shortest.{shortest}
use Rattle.writing.specs.Calls.{shortened_by, shortened}
use Rattle.writing.specs.Sayable.{Says}
use Rattle.writing.proofs.CallLaws.{shortest-bytes}
use Rattle.writing.proofs.TableLaws.{written_back, written-again, same_bytes, same-said}
use Rattle.converting.specs.Calls.{conversion, converted, converted_input}

-- ---- a table that the old rule accepts

module _ (bytes : List ℕ) {c : Contents} (e : read_by Old bytes ≡ done c) where
  shortened-is : shortened_by Old bytes ≡ done (shortest (said bytes c))
  unfolding shortened_by
  shortened-is = rw e

  pub converted-is : converted bytes ≡ shortest (said bytes c)
  unfolding converted
  converted-is = ap conversion shortened-is

  -- what is written is accepted today, and says what the old rule read
  pub converted-back : Says (converted bytes) (said bytes c)
  converted-back = subst (λ t. Says t (said bytes c)) (sym converted-is) (written_back Old bytes e)

  -- to convert it again changes nothing
  pub converted-again : converted (converted bytes) ≡ converted bytes
  unfolding converted
  converted-again = ap converted converted-is ∙ ap conversion (written-again Old bytes e Old) ∙ sym converted-is

-- Two stored tables that say the same become the same bytes, and two that do not become different ones.
module _ (bytes : List ℕ) {c : Contents} (e : read_by Old bytes ≡ done c) (other : List ℕ) {d : Contents} (f : read_by Old other ≡ done d) where
  pub same-converted : said bytes c ≡ said other d → converted bytes ≡ converted other
  unfolding converted
  same-converted h = ap conversion (same_bytes Old bytes e Old other f h)

  pub converted-same : converted bytes ≡ converted other → said bytes c ≡ said other d
  converted-same h =
      same-said Old bytes e Old other f
      (shortened-is bytes e ∙ ap done (sym (converted-is bytes e) ∙ h ∙ converted-is other f) ∙ sym (shortened-is other f))

-- a table of today becomes what the writer makes of it
pub converted-today : (bytes : List ℕ) {c : Contents} → read bytes ≡ done c → shortened bytes ≡ done (converted bytes)
unfolding shortened_by
converted-today bytes e = rw e (ap done (sym (converted-is bytes (read-old Shortest bytes e))))

-- ---- one that it refuses

pub refusal_is : (bytes : List ℕ) {f : Refusal} → read_by Old bytes ≡ refused f → converted bytes ≡ refusal_text f
unfolding converted shortened_by
refusal_is bytes e = rw e

-- The line of a refusal is no table by any rule: its first byte is a letter, which is no edition. So the first byte of what was written
-- tells whether it is a table.
pub line_refused : (rule : Rule) (f : Refusal) → read_by rule (refusal_text f) ≡ refused BadEdition
unfolding read_within table_within number_in
line_refused rule f = rw (one rule (refusal_text f) 0 (omega arith) (omega arith))

pub converted-refused : (rule : Rule) (bytes : List ℕ) {f : Refusal} → read_by Old bytes ≡ refused f → read_by rule (converted bytes) ≡ refused BadEdition
converted-refused rule bytes {f} e = ap (read_by rule) (refusal_is bytes e) ∙ line_refused rule f

-- ---- any input

-- no more bytes than a shortest table has
pub converted-short : (bytes : List ℕ) → length (converted bytes) ≤ max_shortest
converted-short bytes = go (read_by Old bytes) refl
  where
    go : (o : Outcome Contents) → read_by Old bytes ≡ o → length (converted bytes) ≤ max_shortest
    go (done c) e = omega (arith, shortest-bytes Old bytes c e, ap length (converted-is bytes e))
    go (refused f) e = omega (arith, refusal-short f (omega (arith, read-alone-by Old bytes e)), ap length (refusal_is bytes e))

-- the program takes more than any table has that a rule accepts
enough : max_table Old < max_input
enough = omega arith

-- Of a longer input the program writes what is written for the whole. A table that is accepted is no longer than what is taken, and of one
-- that is refused both readings end with the same refusal.
pub converted-whole : (input : List ℕ) → converted_input input ≡ converted input
unfolding converted_input
converted-whole input = go (read_by Old input) refl
  where
    go : (o : Outcome Contents) → read_by Old input ≡ o → converted_input input ≡ converted input
    go (done t) e = ap converted (take_all max_input input (omega (arith, read-short-by Old input e)))
    go (refused r) e = refusal_is _ (read-prefix Old max_input input enough ∙ e) ∙ sym (refusal_is input e)
