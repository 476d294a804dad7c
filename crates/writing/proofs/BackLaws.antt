-- A number in its fewest bytes: reading them gives the number back, and no reading of it by any rule takes fewer.
use mathlib.Core.Path.{◌≡◌, sym, subst, ◌∙◌}
use mathlib.Core.Bool.{◌&&◌}
use mathlib.Core.List.{List, [], ◌∷◌}
use Prim.Native.Nat.{ℕ, ◌+◌, ◌-◌, ◌*◌, ◌/◌, ◌%◌, ◌≤◌, ◌<◌}
use native.Mathlib.Decide.{dec_lt}
use native.Mathlib.Omega.{arith}
use borrow.Author.Tests.{le-leb, ne_eqb}
use lib.Dec.{leb}
use lib.ListN.{length, get_or}
use Rattle.outcome.specs.declared.Refusal.{Refusal}
use Rattle.outcome.specs.declared.Refusal.TheVariants.{Overlong}
use Rattle.table.specs.declared.rule.Rule.{Rule}
use Rattle.table.specs.declared.rule.Rule.TheVariants.{Shortest}
use Rattle.table.specs.Limits.{width}
use Rattle.table.specs.Number.{got, takes, number_at, number_in}
use Rattle.table.proofs.NumberLaws.{one, none-two, two, none-three, three, long as long-three, in-limits}
use Rattle.table.proofs.InverseLaws.{never, came, passed, got-value, got-place}
use Rattle.table.proofs.PlaceLaws.{Took, number-place}
use Rattle.encoding.specs.Limits.{number_limit}
use Rattle.encoding.specs.Shortest.{short_number}
use Rattle.encoding.proofs.ShortLaws.{short_one, short_two, bytes_one, bytes-two}
use Rattle.writing.proofs.StandsLaws.{Stands, stands-in, stands-byte, stands-next}

-- ---- read back

-- Wherever they stand, the bytes of a number are read as that number. The first of two has its high bit set, so that the reader goes
-- on, and the last has not, so that it stops there; the groups add up to the number.
pub number-back : (s : List ℕ) (at v : ℕ) → v < number_limit → Stands s at (short_number v) → number_at Shortest s at ≡ got v (at + length (short_number v))
number-back s at v low h = go (dec_lt v 0x80)
  where
    go : Dec (v < 0x80) → number_at Shortest s at ≡ got v (at + length (short_number v))
    go (yes l) =
        let e = short_one v l in
        let a : Stands s at (v ∷ []) = subst (Stands s at) e h in
        let b = stands-byte a in
        one Shortest s at (stands-in a) (omega arith) ∙ rw (e, b)
    go (no l) =
        let e = short_two v (omega arith) low in
        let a : Stands s at ((v % 0x80 + 0x80) ∷ v / 0x80 ∷ []) = subst (Stands s at) e h in
        let c = stands-next a in
        let b = stands-byte a in
        let d = stands-byte c in
        let sum : get_or s at 0 - 0x80 + get_or s (at + 1) 0 * 0x80 ≡ v = omega arith in
        two Shortest s at (stands-in a) (omega arith) (stands-in c) (omega arith) ∙ rw (ne_eqb (get_or s (at + 1) 0) 0 (λ z. omega arith), e, sum)

pub limits-back : (low high : ℕ) (r : Refusal) (s : List ℕ) (at v : ℕ) → low ≤ v → v ≤ high → high < number_limit → Stands s at (short_number v)
    → number_in Shortest low high r s at ≡ got v (at + length (short_number v))
unfolding number_in
limits-back low high r s at v l k m h = rw (number-back s at v (omega arith) h, le-leb low v l, le-leb v high k)

-- ---- no fewer bytes

-- A number that was read has no fewer bytes than its shortest form: what is read from one byte is below 2^7, and has one byte then.
pub number_short : (rule : Rule) (s : List ℕ) (at : ℕ) {v p : ℕ} → v < number_limit → number_at rule s at ≡ got v p → at + length (short_number v) ≤ p
number_short rule s at {v} {p} low e = go (dec_lt (get_or s at 0) 0x80)
  where
    took : Took s at (width rule v) p
    took = number-place rule s at e

    long : 0x80 ≤ get_or s at 0 → at + 2 ≤ p
    long h = second (dec_lt (at + 1) (length s))
      where
        third : (k : at + 1 < length s) → 0x80 ≤ get_or s (at + 1) 0 → Dec (at + 2 < length s) → Dec (get_or s (at + 2) 0 < 0x80) → at + 2 ≤ p
        third k b (no z) _ = never (sym (none-three rule s at (omega (arith, took)) h k b (omega arith)) ∙ e)
        third k b (yes z) (yes c) =
            let t = passed (takes rule (get_or s (at + 2) 0)) Overlong _ (sym (three rule s at (omega (arith, took)) h k b z c) ∙ e) in
            omega (arith, got-place t.1)
        third k b (yes z) (no c) = never (sym (long-three rule s at (omega (arith, took)) h k b z (omega arith)) ∙ e)

        pair : (k : at + 1 < length s) → Dec (get_or s (at + 1) 0 < 0x80) → at + 2 ≤ p
        pair k (yes b) =
            let t = passed (takes rule (get_or s (at + 1) 0)) Overlong _ (sym (two rule s at (omega (arith, took)) h k b) ∙ e) in
            omega (arith, got-place t.1)
        pair k (no b) = third k (omega arith) (dec_lt (at + 2) (length s)) (dec_lt (get_or s (at + 2) 0) 0x80)

        second : Dec (at + 1 < length s) → at + 2 ≤ p
        second (yes k) = pair k (dec_lt (get_or s (at + 1) 0) 0x80)
        second (no k) = never (sym (none-two rule s at (omega (arith, took)) h (omega arith)) ∙ e)

    go : Dec (get_or s at 0 < 0x80) → at + length (short_number v) ≤ p
    go (yes h) =
        let a = got-value (sym (one rule s at (omega (arith, took)) h) ∙ e) in
        omega (arith, took, bytes_one v (omega arith))
    go (no h) = omega (arith, long (omega arith), bytes-two v low)

pub limits-short : (rule : Rule) (low high : ℕ) (r : Refusal) (s : List ℕ) (at : ℕ) {v p : ℕ} → high < number_limit → number_in rule low high r s at ≡ got v p
    → at + length (short_number v) ≤ p
unfolding number_in
limits-short rule low high r s at {v} {p} l e =
    let k = in-limits rule low high r s at e in
    let c = came (number_at rule s at) _ e in
    let t = passed (leb low c.value && leb c.value high) r _ c.next in
    number_short rule s at (omega arith) (c.first ∙ t.1)
