-- What the converter of document 02's third request writes for a stored table, and its call.
use Rattle.std.specs.Prelude.{List, ℕ, take}
use Rattle.outcome.specs.Refusal.{Outcome, done, refused}
use Rattle.table.specs.declared.rule.Rule.TheVariants.{Old}
use Rattle.table.specs.Limits.{max_input}
use Rattle.lines.specs.Lines.{refusal_text}
use Rattle.writing.specs.Calls.{shortened_by, WriteEnd, write_end}

-- the shortest table, or the line of a refusal with no byte beside it
abbrev pub conversion : Outcome (List ℕ) → List ℕ
conversion (done table) = table
conversion (refused r) = refusal_text r

-- The table is read by the old rule for the forms of its numbers, and by today's rules in all else; loops are not looked for.
unfoldable pub converted : List ℕ → List ℕ
converted bytes = conversion (shortened_by Old bytes)

-- The call: 0 and how many bytes there are, which are the first of the buffer; or 13 for a buffer with fewer, which stays as it was.
unfoldable pub convert_call : List ℕ → List ℕ → WriteEnd
convert_call bytes old = write_end (done (converted bytes)) old

-- what the program writes for all that comes on its standard input: it judges the first bytes of a longer input
unfoldable pub converted_input : List ℕ → List ℕ
converted_input input = converted (take max_input input)
