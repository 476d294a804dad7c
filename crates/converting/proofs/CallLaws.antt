-- From the page to the call: what stands on the page, and the outcome of the call by cases.
use mathlib.Core.Path.{◌≡◌, sym, ap, ◌∙◌}
use mathlib.Core.List.{List, [], ◌∷◌, ◌++◌, append-nil}
use Prim.Native.Nat.{ℕ, ◌+◌, ◌≤◌}
use native.Mathlib.Omega.{arith}
use lib.ListN.{length}
use Rattle.std.specs.Prelude.{Ok}
use Rattle.outcome.specs.declared.Refusal.{Refusal}
use Rattle.outcome.specs.Refusal.{done, numbers_of, told, bare}
use Rattle.outcome.proofs.ToldLaws.{told-refused, told-done}
use Rattle.table.specs.declared.rule.Rule.{Rule}
use Rattle.table.specs.declared.rule.Rule.TheVariants.{Old}
use Rattle.lines.specs.Lines.{refusal_text}
use Rattle.lines.proofs.RefusalLaws.{refusal-short}
use Rattle.encoding.specs.Limits.{max_shortest}
use Rattle.writing.specs.Calls.{shortened_by, text_of, write_end, write_numbers}
use Rattle.writing.proofs.CallLaws.{made-alone}
use Rattle.writing.proofs.FittedLaws.{end_fits, written-fits}
use Rattle.converting.specs.Calls.{conversion, converted, convert_call}
use Rattle.converting.proofs.ConvertLaws.{converted-short}

-- ---- the page

-- a table that was made is what is written
pub page-table : (bytes page : List ℕ) {next : List ℕ} → 0 ∷ [] ≡ told bare (shortened_by Old bytes) → next ≡ page ++ text_of (shortened_by Old bytes)
    → next ≡ page ++ converted bytes
unfolding converted
page-table bytes page n o =
    let h = told-done bare (shortened_by Old bytes) n in
    o ∙ ap (λ l. page ++ l) (ap text_of h.outcome ∙ sym (ap conversion h.outcome))

module _ (rule : Rule) (bytes : List ℕ) (f : Refusal) (n : numbers_of f ≡ told bare (shortened_by rule bytes)) (page : List ℕ) {next : List ℕ} (o : next ≡ page ++ text_of (shortened_by rule bytes)) where
  -- where the writer refuses, by whichever rule it reads, the page is as it was, with room for the line
  page-is : next ≡ page
  page-is = o ∙ ap (λ x. page ++ text_of x) (told-refused bare (shortened_by rule bytes) n) ∙ append-nil page

  pub line-room : length next + length (refusal_text f) ≤ length page + max_shortest
  line-room = omega (arith, ap length page-is, refusal-short f (omega (arith, made-alone rule bytes (told-refused bare (shortened_by rule bytes) n))))

-- and the line is what is written
pub page-line : (bytes : List ℕ) (f : Refusal) → numbers_of f ≡ told bare (shortened_by Old bytes) → (page : List ℕ) {next last : List ℕ}
    → next ≡ page ++ text_of (shortened_by Old bytes) → last ≡ next ++ refusal_text f → last ≡ page ++ converted bytes
unfolding converted
page-line bytes f n page o s =
    s ∙ ap (λ l. l ++ refusal_text f) (page-is Old bytes f n page o) ∙ ap (λ x. page ++ conversion x) (sym (told-refused bare (shortened_by Old bytes) n))

-- ---- the call

pub call-fitted : (bytes old : List ℕ) {page : List ℕ} → page ≡ converted bytes → write_end (done page) old ≡ convert_call bytes old
unfolding convert_call
call-fitted bytes old e = ap (λ text. write_end (done text) old) e

-- a buffer of so many bytes is never too short, whatever the input
pub never-short : (bytes old : List ℕ) → max_shortest ≤ length old → (convert_call bytes old).numbers ≡ 0 ∷ length (converted bytes) ∷ []
unfolding convert_call
never-short bytes old h = end_fits (converted bytes) old (omega (arith, converted-short bytes))

-- and what was written lies in it
pub call-inside : (bytes old : List ℕ) {len : ℕ} → write_numbers (Ok len) ≡ (convert_call bytes old).numbers → len ≤ length old
unfolding convert_call
call-inside bytes old e = written-fits (converted bytes) old e
