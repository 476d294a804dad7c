-- Where reading a number ends: behind its start, no more bytes on than the rule gives a number so large, and within the table.
use mathlib.Core.Path.{◌≡◌, refl, sym, ap, ◌∙◌}
use mathlib.Core.Bool.{Bool, true, false, ◌&&◌, cond}
use mathlib.Core.List.{List}
use Prim.Native.Nat.{ℕ, zero, suc, ◌+◌, ◌-◌, ◌*◌, ◌≤◌, ◌<◌}
use native.Mathlib.Omega.{arith}
use borrow.Author.Tests.{ltb-true, ltb-false, le-ltb}
use lib.Dec.{leb, ltb}
use lib.ListN.{length, get_or}
use Rattle.outcome.specs.declared.Refusal.{Refusal}
use Rattle.outcome.specs.declared.Refusal.TheVariants.{Cut, Overlong}
use Rattle.table.specs.declared.rule.Rule.{Rule}
use Rattle.table.specs.declared.rule.Rule.TheVariants.{Old, Shortest}
use Rattle.table.specs.Limits.{number_bytes, width}
use Rattle.table.specs.Number.{got, fault, and_then, judge, byte_at, takes, number_at, number_in}
use Rattle.table.proofs.NumberLaws.{in-limits}
use Rattle.table.proofs.InverseLaws.{never, Came, came, passed, both, got-value, got-place}

-- a byte that was read is the next one
pub byte-place : (s : List ℕ) (at : ℕ) {b p : ℕ} → byte_at s at ≡ got b p → (at < length s) × (p ≡ at + 1)
unfolding byte_at
byte-place s at {b} {p} e = go (ltb at (length s)) refl e
  where
    go : (t : Bool) → ltb at (length s) ≡ t → cond t (got (get_or s at 0) (at + 1)) (fault Cut) ≡ got b p → (at < length s) × (p ≡ at + 1)
    go true l e = (ltb-true at (length s) l, sym (got-place e))
    go false l e = never e

-- so many bytes from `at` on were read, and they are there
abbrev pub Took : List ℕ → ℕ → ℕ → ℕ → Type 0
Took s at w p = (at < p) × (p ≤ at + w) × (p ≤ length s)

-- ---- how wide a number is

-- a number of two bytes, or of three, that a rule takes is too large for fewer, or the rule is the old one
two-wide : (rule : Rule) (a b : ℕ) → takes rule b ≡ true → 2 ≤ width rule (a + b * 0x80)
two-wide Old a b t = omega arith
two-wide Shortest a zero t = let z : ◌≡◌ {A = ℕ} 0 1 = cc in absurd (omega arith)
two-wide Shortest a (suc b) t = rw (le-ltb (a + suc b * 0x80) 0x80 (omega arith)) (more (ltb (a + suc b * 0x80) 0x4000))
  where
    more : (t : Bool) → 2 ≤ cond t 2 number_bytes
    more true = omega arith
    more false = omega arith

three-wide : (rule : Rule) (a b c : ℕ) → takes rule c ≡ true → number_bytes ≤ width rule (a + b + c * 0x4000)
three-wide Old a b c t = omega arith
three-wide Shortest a b zero t = let z : ◌≡◌ {A = ℕ} 0 1 = cc in absurd (omega arith)
three-wide Shortest a b (suc c) t =
    let v = a + b + suc c * 0x4000 in
    rw (le-ltb v 0x80 (omega arith), le-ltb v 0x4000 (omega arith)) (omega arith)

one-wide : (rule : Rule) (v : ℕ) → 1 ≤ width rule v
one-wide Old v = omega arith
one-wide Shortest v = go (ltb v 0x80) (ltb v 0x4000)
  where
    go : (t u : Bool) → 1 ≤ cond t 1 (cond u 2 number_bytes)
    go true u = omega arith
    go false true = omega arith
    go false false = omega arith

-- no number is wider than three bytes, and a smaller one is no wider
pub width-most : (rule : Rule) (v : ℕ) → width rule v ≤ number_bytes
width-most Old v = omega arith
width-most Shortest v = go (ltb v 0x80) (ltb v 0x4000)
  where
    go : (t u : Bool) → cond t 1 (cond u 2 number_bytes) ≤ number_bytes
    go true u = omega arith
    go false true = omega arith
    go false false = omega arith

pub width-grows : (rule : Rule) (v w : ℕ) → v ≤ w → width rule v ≤ width rule w
width-grows Old v w h = omega arith
width-grows Shortest v w h = go (ltb v 0x80) (ltb w 0x80) (ltb v 0x4000) (ltb w 0x4000) refl refl refl refl
  where
    go : (a b c d : Bool) → ltb v 0x80 ≡ a → ltb w 0x80 ≡ b → ltb v 0x4000 ≡ c → ltb w 0x4000 ≡ d
        → cond a 1 (cond c 2 number_bytes) ≤ cond b 1 (cond d 2 number_bytes)
    go true true c d e f g k = omega arith
    go true false c true e f g k = omega arith
    go true false c false e f g k = omega arith
    go false true c d e f g k = absurd (omega (arith, ltb-false v 0x80 e, ltb-true w 0x80 f))
    go false false true true e f g k = omega arith
    go false false true false e f g k = omega arith
    go false false false true e f g k = absurd (omega (arith, ltb-false v 0x4000 g, ltb-true w 0x4000 k))
    go false false false false e f g k = omega arith

-- ---- where a number ends

pub number-place : (rule : Rule) (s : List ℕ) (at : ℕ) {v p : ℕ} → number_at rule s at ≡ got v p → Took s at (width rule v) p
unfolding number_at
number-place rule s at {v} {p} e = first (came (byte_at s at) _ e)
  where
    -- it ends w bytes on, and is so wide
    wide : (w x q : ℕ) → got x q ≡ got v p → q ≡ at + w → 0 < w → q ≤ length s → w ≤ width rule x → Took s at (width rule v) p
    wide w x q e f g h k =
        let m = got-place e in
        let n = ap (width rule) (got-value e) in
        (omega arith, omega arith, omega arith)

    third : (a b q : ℕ) → Came (byte_at s q) (λ c e. judge (ltb c 0x80 && takes rule c) Overlong (got (a - 0x80 + (b - 0x80) * 0x80 + c * 0x4000) e)) v p
        → q ≡ at + 2 → Took s at (width rule v) p
    third a b q c l =
        let t = passed (ltb c.value 0x80 && takes rule c.value) Overlong _ c.next in
        let u = both (ltb c.value 0x80) (takes rule c.value) t.0 in
        let k = byte-place s q c.first in
        wide number_bytes _ c.place t.1 (omega arith) (omega arith) (omega arith) (three-wide rule (a - 0x80) ((b - 0x80) * 0x80) c.value u.1)

    second : (a q : ℕ) (t : Bool) (b r : ℕ) → q ≡ at + 1 → r ≡ q + 1 → q < length s
        → cond t (judge (takes rule b) Overlong (got (a - 0x80 + b * 0x80) r)) (and_then (byte_at s r) λ c e. judge (ltb c 0x80 && takes rule c) Overlong (got (a - 0x80 + (b - 0x80) * 0x80 + c * 0x4000) e)) ≡ got v p
        → Took s at (width rule v) p
    second a q true b r l h k e =
        let t = passed (takes rule b) Overlong _ e in
        wide 2 _ r t.1 (omega arith) (omega arith) (omega arith) (two-wide rule (a - 0x80) b t.0)
    second a q false b r l h k e = third a b r (came (byte_at s r) _ e) (omega arith)

    one : (t : Bool) (a q : ℕ) → q ≡ at + 1 → at < length s
        → cond t (got a q) (and_then (byte_at s q) λ b r. cond (ltb b 0x80) (judge (takes rule b) Overlong (got (a - 0x80 + b * 0x80) r))
        (and_then (byte_at s r) λ c e. judge (ltb c 0x80 && takes rule c) Overlong (got (a - 0x80 + (b - 0x80) * 0x80 + c * 0x4000) e))) ≡ got v p
        → Took s at (width rule v) p
    one true a q l h e = wide 1 a q e l (omega arith) (omega arith) (one-wide rule a)
    one false a q l h e =
        let c = came (byte_at s q) _ e in
        let k = byte-place s q c.first in
        second a q (ltb c.value 0x80) c.value c.place l k.1 k.0 c.next

    first : Came (byte_at s at) (λ a q. cond (ltb a 0x80) (got a q) (and_then (byte_at s q) λ b r. cond (ltb b 0x80) (judge (takes rule b) Overlong (got (a - 0x80 + b * 0x80) r))
        (and_then (byte_at s r) λ c e. judge (ltb c 0x80 && takes rule c) Overlong (got (a - 0x80 + (b - 0x80) * 0x80 + c * 0x4000) e)))) v p → Took s at (width rule v) p
    first c = let k = byte-place s at c.first in one (ltb c.value 0x80) c.value c.place k.1 k.0 c.next

pub limits-place : (rule : Rule) (low high : ℕ) (r : Refusal) (s : List ℕ) (at : ℕ) {v p : ℕ} → number_in rule low high r s at ≡ got v p → Took s at (width rule high) p
unfolding number_in
limits-place rule low high r s at {v} {p} e =
    let l = in-limits rule low high r s at e in
    let c = came (number_at rule s at) _ e in
    let t = passed (leb low c.value && leb c.value high) r _ c.next in
    let k = number-place rule s at (c.first ∙ t.1) in
    (k.0, omega (arith, k, width-grows rule v high l.1), k.2)
