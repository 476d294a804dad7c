-- Three lists of numbers read side by side, with a number for each place or without: what a turn of a loop over them reads.
use mathlib.Core.Path.{◌≡◌, ap, ◌∙◌}
use mathlib.Core.List.{List}
use Prim.Native.Nat.{ℕ, ◌+◌, ◌<◌}
use native.Mathlib.Omega.{arith}
use lib.ListN.{length, get_or}
use Rattle.std.specs.List.{zip, enumerate_from}
use Rattle.std.proofs.lemmas.List.{get_or_read}
use Rattle.std.proofs.lemmas.List.FromFn.{length-enumerate_from, get_or-enumerate_from}
use Rattle.std.proofs.lemmas.Slice.Zip.{length-zip, get_or-zip}
use Rattle.graph.specs.Rows.{at}

module _ (xs ys zs : List ℕ) (a : length ys ≡ length xs) (b : length zs ≡ length xs) where
  sides : length (zip xs ys) ≡ length xs
  sides = omega (arith, length-zip xs ys)

  pub triples : length (zip (zip xs ys) zs) ≡ length xs
  triples = omega (arith, sides, length-zip (zip xs ys) zs)

  pub triple-at : (i x y z : ℕ) → (i < length (zip (zip xs ys) zs)) × (◌≡◌ {A = (ℕ × ℕ) × ℕ} ((x, y), z) (get_or (zip (zip xs ys) zs) i ((x, y), z)))
      → (i < length xs) × (x ≡ at xs i) × (y ≡ at ys i) × (z ≡ at zs i)
  triple-at i x y z p = (
    h,
    get_or_read xs i x h (ap (λ q. q.0.0) each) 0,
    get_or_read ys i y (omega (arith, h)) (ap (λ q. q.0.1) each) 0,
    get_or_read zs i z (omega (arith, h)) (ap (λ q. q.1) each) 0,
  )
    where
      h : i < length xs
      h = omega (arith, p.0, triples)

      each : ◌≡◌ {A = (ℕ × ℕ) × ℕ} ((x, y), z) ((get_or xs i x, get_or ys i y), get_or zs i z)
      each =
          p.1 ∙ get_or-zip (zip xs ys) zs i ((x, y), z) (omega (arith, sides, h)) (omega (arith, h))
          ∙ ap (λ q. (q, get_or zs i z)) (get_or-zip xs ys i (x, y) h (omega (arith, h)))

  pub numbered-triples : length (enumerate_from 0 (zip (zip xs ys) zs)) ≡ length xs
  numbered-triples = length-enumerate_from 0 (zip (zip xs ys) zs) ∙ triples

  pub numbered-triple-at : (i k x y z : ℕ)
      → (i < length (enumerate_from 0 (zip (zip xs ys) zs)))
      × (◌≡◌ {A = ℕ × ((ℕ × ℕ) × ℕ)} (k, ((x, y), z)) (get_or (enumerate_from 0 (zip (zip xs ys) zs)) i (k, ((x, y), z))))
      → (i < length xs) × (k ≡ i) × (x ≡ at xs i) × (y ≡ at ys i) × (z ≡ at zs i)
  numbered-triple-at i k x y z p =
      let l : i < length (zip (zip xs ys) zs) = omega (arith, p.0, length-enumerate_from 0 (zip (zip xs ys) zs)) in
      let e : ◌≡◌ {A = ℕ × ((ℕ × ℕ) × ℕ)} (k, ((x, y), z)) (0 + i, get_or (zip (zip xs ys) zs) i ((x, y), z)) =
      p.1 ∙ get_or-enumerate_from 0 (zip (zip xs ys) zs) i (k, ((x, y), z)) l in
      let t = triple-at i x y z (l, ap (λ q. q.1) e) in
      (t.0, omega (arith, ap (λ q. q.0) e), t.1, t.2, t.3)
