-- Reading from left to right, and the numbers of a table. What is read is judged at once, and the first fault decides.
use Rattle.std.specs.Prelude.{Bool, true, false, not, ◌&&◌, cond, List, [], ◌∷◌, ℕ, zero, suc, ◌+◌, ◌-◌, ◌*◌, leb, ltb, eqb, length, get_or, Result, Ok, Err}
use Rattle.outcome.specs.declared.Refusal.{Refusal}
use Rattle.outcome.specs.declared.Refusal.TheVariants.{Cut, Overlong}
use Rattle.table.specs.declared.rule.Rule.{Rule}
use Rattle.table.specs.declared.rule.Rule.TheVariants.{Old, Shortest}

-- what is read from a place on: a value and the place behind it, or the first fault
pub data Read (A : Type 0) : Type 0 where
  got : A → ℕ → Read A
  fault : Refusal → Read A

abbrev pub and_then : {A B : Type 0} → Read A → (A → ℕ → Read B) → Read B
and_then (got a p) f = f a p
and_then (fault r) f = fault r

-- go on where the test holds
abbrev pub judge : {A : Type 0} → Bool → Refusal → Read A → Read A
judge true r next = next
judge false r next = fault r

-- a byte, where the bytes go on
unfoldable pub byte_at : List ℕ → ℕ → Read ℕ
byte_at s at = cond (ltb at (length s)) (got (get_or s at 0) (at + 1)) (fault Cut)

-- Whether a number of several bytes is taken, by the last of them. Document 01 takes every number of groups that fits; document 02 (its third
-- request) no longer takes a last group of 0, which says nothing. Tables stored before that are read by the old rule, to be converted.
abbrev pub takes : Rule → ℕ → Bool
takes Old last = true
takes Shortest last = not (eqb last 0)

-- A number: up to three bytes with seven bits of it each, lowest group first. A set high bit says that a byte follows, and the third byte must
-- not have one. Which last bytes are taken is a rule's; it is asked for here alone.
unfoldable pub number_at : Rule → List ℕ → ℕ → Read ℕ
number_at rule s at =
    and_then (byte_at s at) λ a p. cond (ltb a 0x80) (got a p)
    (and_then (byte_at s p) λ b q. cond (ltb b 0x80) (judge (takes rule b) Overlong (got (a - 0x80 + b * 0x80) q))
    (and_then (byte_at s q) λ c e. judge (ltb c 0x80 && takes rule c) Overlong (got (a - 0x80 + (b - 0x80) * 0x80 + c * 0x4000) e)))

-- a number from low to high, and the refusal of any other
unfoldable pub number_in : Rule → ℕ → ℕ → Refusal → List ℕ → ℕ → Read ℕ
number_in rule low high r s at = and_then (number_at rule s at) λ v p. judge (leb low v && leb v high) r (got v p)

-- k items, one behind the other
unfoldable pub many : {A : Type 0} → (ℕ → Read A) → ℕ → ℕ → Read (List A)
many item zero at = got [] at
many item (suc k) at = and_then (item at) λ a p. and_then (many item k p) λ l e. got (a ∷ l) e

-- how many items there were, in their place
abbrev pub counted : {A : Type 0} → Read (List A) → Read ℕ
counted (got l e) = got (length l) e
counted (fault r) = fault r

-- what an answer of the code stands for
abbrev pub read_of : {A : Type 0} → Result (A × ℕ) Refusal → Read A
read_of (Ok r) = got r.0 r.1
read_of (Err f) = fault f
