-- What `number_at` is in each of its cases, and the bounds of a number that was read.
use mathlib.Core.Path.{◌≡◌, refl, ◌∙◌}
use mathlib.Core.Bool.{Bool, true, false, ◌&&◌, cond}
use mathlib.Core.List.{List}
use Prim.Native.Nat.{ℕ, ◌+◌, ◌-◌, ◌*◌, ◌≤◌, ◌<◌}
use native.Mathlib.Omega.{arith}
use borrow.Author.Tests.{le-ltb, lt-ltb, leb-true}
use lib.Dec.{leb, ltb}
use lib.ListN.{length, get_or}
use Rattle.outcome.specs.declared.Refusal.{Refusal}
use Rattle.outcome.specs.declared.Refusal.TheVariants.{Cut, Overlong}
use Rattle.table.specs.declared.rule.Rule.{Rule}
use Rattle.table.specs.Number.{Read, got, fault, and_then, judge, byte_at, takes, number_at, number_in}

-- ---- one law a case, in the order of the code's returns

module _ (rule : Rule) (s : List ℕ) (at : ℕ) where
  pub none : length s ≤ at → number_at rule s at ≡ fault Cut
  unfolding number_at byte_at
  none h = simp (le-ltb at (length s) h)

  module _ (h : at < length s) where
    pub one : get_or s at 0 < 0x80 → number_at rule s at ≡ got (get_or s at 0) (at + 1)
    unfolding number_at byte_at
    one ha = simp (lt-ltb at (length s) h, lt-ltb (get_or s at 0) 0x80 ha)

    module _ (ha : 0x80 ≤ get_or s at 0) where
      second : number_at rule s at ≡ and_then (byte_at s (at + 1)) λ b q. cond (ltb b 0x80) (judge (takes rule b) Overlong (got (get_or s at 0 - 0x80 + b * 0x80) q))
          (and_then (byte_at s q) λ c e. judge (ltb c 0x80 && takes rule c) Overlong (got (get_or s at 0 - 0x80 + (b - 0x80) * 0x80 + c * 0x4000) e))
      unfolding number_at byte_at
      second = simp (lt-ltb at (length s) h, le-ltb (get_or s at 0) 0x80 ha)

      pub none-two : length s ≤ at + 1 → number_at rule s at ≡ fault Cut
      unfolding byte_at
      none-two h2 = second ∙ simp (le-ltb (at + 1) (length s) h2)

      module _ (h2 : at + 1 < length s) where
        pub two : get_or s (at + 1) 0 < 0x80 → number_at rule s at
            ≡ judge (takes rule (get_or s (at + 1) 0)) Overlong (got (get_or s at 0 - 0x80 + get_or s (at + 1) 0 * 0x80) (at + 2))
        unfolding byte_at
        two hb =
            let e : at + 1 + 1 ≡ at + 2 = omega arith in
            second ∙ simp (lt-ltb (at + 1) (length s) h2, lt-ltb (get_or s (at + 1) 0) 0x80 hb, e)

        module _ (hb : 0x80 ≤ get_or s (at + 1) 0) where
          third : number_at rule s at ≡ and_then (byte_at s (at + 2)) λ c e. judge (ltb c 0x80 && takes rule c) Overlong
              (got (get_or s at 0 - 0x80 + (get_or s (at + 1) 0 - 0x80) * 0x80 + c * 0x4000) e)
          unfolding byte_at
          third =
              let e : at + 1 + 1 ≡ at + 2 = omega arith in
              second ∙ simp (lt-ltb (at + 1) (length s) h2, le-ltb (get_or s (at + 1) 0) 0x80 hb, e)

          pub none-three : length s ≤ at + 2 → number_at rule s at ≡ fault Cut
          unfolding byte_at
          none-three h3 = third ∙ simp (le-ltb (at + 2) (length s) h3)

          module _ (h3 : at + 2 < length s) where
            pub three : get_or s (at + 2) 0 < 0x80 → number_at rule s at
                ≡ judge (takes rule (get_or s (at + 2) 0)) Overlong (got (get_or s at 0 - 0x80 + (get_or s (at + 1) 0 - 0x80) * 0x80 + get_or s (at + 2) 0 * 0x4000) (at + 3))
            unfolding byte_at
            three hc =
                let e : at + 2 + 1 ≡ at + 3 = omega arith in
                third ∙ simp (lt-ltb (at + 2) (length s) h3, lt-ltb (get_or s (at + 2) 0) 0x80 hc, e)

            pub long : 0x80 ≤ get_or s (at + 2) 0 → number_at rule s at ≡ fault Overlong
            unfolding byte_at
            long hc = third ∙ simp (lt-ltb (at + 2) (length s) h3, le-ltb (get_or s (at + 2) 0) 0x80 hc)

-- ---- a number within limits is within them

pub in-limits : (rule : Rule) (low high : ℕ) (r : Refusal) (s : List ℕ) (at : ℕ) {v p : ℕ} → number_in rule low high r s at ≡ got v p → (low ≤ v) × (v ≤ high)
unfolding number_in
in-limits rule low high r s at {v} {p} e = go (number_at rule s at) e
  where
    judged : (w q : ℕ) (b c : Bool) → leb low w ≡ b → leb w high ≡ c → judge (b && c) r (got w q) ≡ got v p → (low ≤ v) × (v ≤ high)
    judged w q true true l h e = let k : w ≡ v = cc in (omega (arith, leb-true low w l), omega (arith, leb-true w high h))
    judged w q true false l h e = let z : ◌≡◌ {A = ℕ} 0 1 = cc in absurd (omega arith)
    judged w q false c l h e = let z : ◌≡◌ {A = ℕ} 0 1 = cc in absurd (omega arith)

    go : (x : Read ℕ) → and_then x (λ w q. judge (leb low w && leb w high) r (got w q)) ≡ got v p → (low ≤ v) × (v ≤ high)
    go (got w q) e = judged w q (leb low w) (leb w high) refl refl e
    go (fault f) e = let z : ◌≡◌ {A = ℕ} 0 1 = cc in absurd (omega arith)
