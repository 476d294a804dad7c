-- How long the line of a refusal is.
use mathlib.Core.List.{[], ◌∷◌}
use Prim.Native.Nat.{ℕ, ◌≤◌, ◌<◌}
use native.Mathlib.Omega.{arith}
use lib.ListN.{length, length-append}
use Rattle.outcome.specs.declared.Refusal.{Refusal}
use Rattle.outcome.specs.declared.Refusal.TheVariants.{Cut, Overlong, BadEdition, ManySteps, BadKind, OutOfRange, BadNameByte, ManyEdges, BadEnd, Spare, Loop, ManyPoints, ShortBuffer, NoStep, BadFirmness, LargeChart, BadRow, ManyTries}
use Rattle.outcome.specs.Refusal.{step_of}
use Rattle.labels.specs.Text.{text, decimal, blanked}
use Rattle.labels.proofs.DecimalLaws.{tens, decimal-short}
use Rattle.lines.specs.Lines.{line, refusal_text, refusal_bytes}

one-short : (x : ℕ) → x < tens 2 → length (line (text "refused") (decimal x ∷ [])) ≤ refusal_bytes
unfolding blanked
one-short x h = simp length-append (omega (arith, decimal-short 1 x h))

-- the step of a loop has at most two digits
pub refusal-short : (r : Refusal) → step_of r < tens 2 → length (refusal_text r) ≤ refusal_bytes
unfolding blanked
refusal-short Cut h = one-short 1 (omega arith)
refusal-short Overlong h = one-short 2 (omega arith)
refusal-short BadEdition h = one-short 3 (omega arith)
refusal-short ManySteps h = one-short 4 (omega arith)
refusal-short BadKind h = one-short 5 (omega arith)
refusal-short OutOfRange h = one-short 6 (omega arith)
refusal-short BadNameByte h = one-short 7 (omega arith)
refusal-short ManyEdges h = one-short 8 (omega arith)
refusal-short BadEnd h = one-short 9 (omega arith)
refusal-short Spare h = one-short 10 (omega arith)
refusal-short (Loop s) h = simp length-append (omega (arith, decimal-short 1 11 (omega arith), decimal-short 1 s h))
refusal-short ManyPoints h = one-short 12 (omega arith)
refusal-short ShortBuffer h = one-short 13 (omega arith)
refusal-short NoStep h = one-short 14 (omega arith)
refusal-short BadFirmness h = one-short 15 (omega arith)
refusal-short LargeChart h = one-short 16 (omega arith)
refusal-short BadRow h = one-short 17 (omega arith)
refusal-short ManyTries h = one-short 18 (omega arith)
