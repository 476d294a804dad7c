-- Loops that copy to the front of an array or of a lent slice, entry by entry.
use mathlib.Core.Path.{◌≡◌, sym, ap, ◌∙◌}
use mathlib.Core.List.{List, ◌++◌, map}
use Prim.Native.Nat.{ℕ, suc, ◌+◌, ◌≤◌, ◌<◌}
use native.Mathlib.Numerals.{add-one}
use native.Mathlib.Omega.{arith}
use lib.ListN.{length, get_or, take, drop, set, replicate, length-set, length-replicate, length-map, get_or-map}
use lib.Seq.{take-suc, set_at, drop-cons, append_snoc, length-take-le, get_or-take, ext_get_or}
use Rattle.graph.specs.Rows.{at}
use Rattle.buffers.proofs.ListLaws.{set_cases}

-- one more entry of s pasted over the front of d
pub paste_more : (s d : List ℕ) (i : ℕ) → i < length s → i < length d
    → set (take i s ++ drop i d) i (at s i) ≡ take (i + 1) s ++ drop (i + 1) d
paste_more s d i h k =
    let seam = set_at (take i s) (get_or d i 0) (drop (suc i) d) (get_or s i 0) i (length-take-le i s (omega arith)) in
    rw (drop-cons d i 0 k, seam, add-one i, take-suc s i 0 h, append_snoc)

-- the same of a list of anything, whose entry i is v
pub paste_entry : {A : Type 0} (s d : List A) (i : ℕ) (v : A) → v ≡ get_or s i v → i < length s → i < length d
    → set (take i s ++ drop i d) i v ≡ take (i + 1) s ++ drop (i + 1) d
paste_entry s d i v e h k =
    let seam = set_at (take i s) (get_or d i v) (drop (suc i) d) v i (length-take-le i s (omega arith)) in
    rw (drop-cons d i v k, seam, add-one i, take-suc s i v h, append_snoc, sym e)

-- the first i entries of an array of n are those of f
pub record Copied (n : ℕ) (f : ℕ → ℕ) (i : ℕ) (xs : List ℕ) : Type 0 where
  pub long : length xs ≡ n
  pub entry : (k : ℕ) → k < i → at xs k ≡ f k

module _ (n : ℕ) (f : ℕ → ℕ) where
  pub copied_none : Copied n f 0 (replicate n 0)
  copied_none = record { long = length-replicate {A = ℕ} n 0; entry = λ k h. absurd (omega arith) }

  pub copied_more : (i : ℕ) (xs : List ℕ) → i < n → Copied n f i xs → Copied n f (i + 1) (set xs i (f i))
  copied_more i xs h c =
      record {
        long = length-set xs i (f i) ∙ c.long;
        entry = λ k l. set_cases (λ (x : ℕ). x ≡ f k) xs i (f i) k (omega (arith, c.long)) (λ e. ap f e) (λ d. c.entry k (omega arith));
      }

  pub copied_take : (m i k : ℕ) (xs : List ℕ) → Copied n f i xs → m ≤ i → k < m → at (take m xs) k ≡ f k
  copied_take m i k xs c l h = get_or-take m xs k 0 h ∙ c.entry k (omega arith)

-- What g makes of the entries of a list. It makes 0 of what stands past the end, as an array of numbers has there.
module _ {A : Type 0} (blank : A) (g : A → ℕ) (zero_of : g blank ≡ 0) where
  pub copied-map : (n : ℕ) (l : List A) (m i : ℕ) (xs : List ℕ) → Copied n (λ (k : ℕ). g (get_or l k blank)) i xs → m ≤ i → m ≤ n → m ≤ length l
      → take m xs ≡ map g (take m l)
  copied-map n l m i xs c done few long = ext_get_or 0 (take m xs) (map g (take m l)) same_length same_at
    where
      count : length (take m xs) ≡ m
      count = length-take-le m xs (omega (arith, c.long))

      same_length : length (take m xs) ≡ length (map g (take m l))
      same_length = count ∙ sym (length-map (take m l) g ∙ length-take-le m l long)

      same_at : (k : ℕ) → k < length (take m xs) → at (take m xs) k ≡ at (map g (take m l)) k
      same_at k h =
          let j : k < m = omega (arith, count) in
          copied_take n (λ (k : ℕ). g (get_or l k blank)) m i k xs c done j
          ∙ sym (ap (λ d. get_or (map g (take m l)) k d) (sym zero_of) ∙ get_or-map g (take m l) k blank ∙ ap g (get_or-take m l k blank j))
