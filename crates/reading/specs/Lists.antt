-- What the answers of the reader's lists stand for.
use Rattle.std.specs.Prelude.{◌≡◌, List, ℕ, ◌^◌, ◌<◌, Result, Ok, Err}
use Rattle.copylist.specs.Listed.{Listed}
use Rattle.outcome.specs.declared.Refusal.{Refusal}
use Rattle.table.specs.Number.{Read, got, fault, read_of}

-- the items and the place behind them, or the fault
abbrev pub list_of : {A : Type 0} → Result (Listed A × ℕ) Refusal → Read (List A)
list_of (Ok r) = got r.0.items r.1
list_of (Err f) = fault f

-- a function of the code, by what it may answer at a place, reads what a definition reads
abbrev pub Reads : {A : Type 0} → (ℕ → Result (A × ℕ) Refusal → Type 0) → (ℕ → Read A) → Type 0
Reads {A} answers read = (p : ℕ) (r : Result (A × ℕ) Refusal) → p < 2 ^ 64 → answers p r → read_of r ≡ read p
