-- The sums over edges and nodes: what a store changes, what bounds them, and where they are 0.
use mathlib.Core.Path.{◌≡◌, refl, ap}
use mathlib.Core.List.{List, [], ◌∷◌, tail}
use Prim.Native.Nat.{ℕ, zero, suc, ◌+◌, ◌*◌, ◌-◌, ◌≤◌, ◌<◌, suc-le-suc}
use native.Mathlib.Nat.{not-suc-le-zero, le_of_suc-le-suc, zero-lt-suc}
use native.Mathlib.Omega.{arith}
use lib.ListN.{length, set, take, replicate}
use Rattle.graph.specs.Rows.{at}
use Rattle.relaxation.specs.Certificate.{flux}
use Rattle.buffers.specs.Lists.{sum}
use Rattle.transport.specs.Flow.{spread}
use Rattle.buffers.proofs.ListLaws.{at_tail}

pub sum-add : (l : List ℕ) (i d : ℕ) → i < length l → sum (set l i (at l i + d)) ≡ sum l + d
unfolding sum
sum-add [] i d h = absurd (not-suc-le-zero h)
sum-add (x ∷ l) zero d h = omega arith
sum-add (x ∷ l) (suc i) d h = omega (arith, sum-add l i d (le_of_suc-le-suc h))

pub sum-sub : (l : List ℕ) (i d : ℕ) → i < length l → d ≤ at l i → sum (set l i (at l i - d)) + d ≡ sum l
unfolding sum
sum-sub [] i d h k = absurd (not-suc-le-zero h)
sum-sub (x ∷ l) zero d h k = omega arith
sum-sub (x ∷ l) (suc i) d h k = omega (arith, sum-sub l i d (le_of_suc-le-suc h) k)

pub sum-ge : (l : List ℕ) (i : ℕ) → at l i ≤ sum l
unfolding sum
sum-ge [] i = omega arith
sum-ge (x ∷ l) zero = omega arith
sum-ge (x ∷ l) (suc i) = omega (arith, sum-ge l i)

pub sum-take : (w : List ℕ) (e : ℕ) → e < length w → sum (take (suc e) w) ≡ sum (take e w) + at w e
unfolding sum
sum-take [] e h = absurd (not-suc-le-zero h)
sum-take (x ∷ w) zero h = omega arith
sum-take (x ∷ w) (suc e) h = omega (arith, sum-take w e (le_of_suc-le-suc h))

pub sum-take-le : (w : List ℕ) (e : ℕ) → sum (take e w) ≤ sum w
unfolding sum
sum-take-le [] zero = omega arith
sum-take-le [] (suc e) = omega arith
sum-take-le (x ∷ w) zero = omega arith
sum-take-le (x ∷ w) (suc e) = omega (arith, sum-take-le w e)

pub sum-zero : (m : ℕ) → sum (replicate m 0) ≡ 0
unfolding sum
sum-zero zero = refl
sum-zero (suc m) = omega (arith, sum-zero m)

pub sum-none : (l : List ℕ) → ((i : ℕ) → i < length l → at l i ≡ 0) → sum l ≡ 0
unfolding sum
sum-none [] h = refl
sum-none (x ∷ l) h = omega (arith, h zero (zero-lt-suc (length l)), sum-none l (λ i b. h (suc i) (omega arith)))

-- d more on edge i adds d times z at its end
pub flux-add : (f ends : List ℕ) (z : ℕ → ℕ) (i d : ℕ) → i < length f → flux (set f i (at f i + d)) ends z ≡ flux f ends z + d * z (at ends i)
unfolding flux
flux-add [] ends z i d h = absurd (not-suc-le-zero h)
flux-add (x ∷ f) ends z zero d h = omega arith
flux-add (x ∷ f) ends z (suc i) d h =
    omega (arith, flux-add f (tail ends) z i d (le_of_suc-le-suc h), ap (λ (k : ℕ). d * z k) (at_tail ends i))

pub flux-sub : (f ends : List ℕ) (z : ℕ → ℕ) (i d : ℕ) → i < length f → d ≤ at f i
    → flux (set f i (at f i - d)) ends z + d * z (at ends i) ≡ flux f ends z
unfolding flux
flux-sub [] ends z i d h l = absurd (not-suc-le-zero h)
flux-sub (x ∷ f) ends z zero d h l =
    let e : (x - d + d) * z (at ends 0) ≡ x * z (at ends 0) = ap (λ (m : ℕ). m * z (at ends 0)) (omega arith) in
    omega arith
flux-sub (x ∷ f) ends z (suc i) d h l =
    omega (arith, flux-sub f (tail ends) z i d (le_of_suc-le-suc h) l, ap (λ (k : ℕ). d * z k) (at_tail ends i))

pub flux-mono : (f a b : List ℕ) (z : ℕ → ℕ) → ((i : ℕ) → i < length f → at f i * z (at a i) ≤ at f i * z (at b i)) → flux f a z ≤ flux f b z
unfolding flux
flux-mono [] a b z h = omega arith
flux-mono (x ∷ f) a b z h =
    omega (arith, h zero (zero-lt-suc (length f)), flux-mono f (tail a) (tail b) z (λ i k. rw (at_tail a i, at_tail b i) (h (suc i) (suc-le-suc k))))

pub flux-take : (w ends : List ℕ) (z : ℕ → ℕ) (e : ℕ) → e < length w → flux (take (suc e) w) ends z ≡ flux (take e w) ends z + at w e * z (at ends e)
unfolding flux
flux-take [] ends z e h = absurd (not-suc-le-zero h)
flux-take (x ∷ w) ends z zero h = omega arith
flux-take (x ∷ w) ends z (suc e) h = omega (arith, flux-take w (tail ends) z e (le_of_suc-le-suc h), ap (λ (k : ℕ). at w e * z k) (at_tail ends e))

pub flux-zero : (m : ℕ) (ends : List ℕ) (z : ℕ → ℕ) → flux (replicate m 0) ends z ≡ 0
unfolding flux
flux-zero zero ends z = refl
flux-zero (suc m) ends z = omega (arith, flux-zero m (tail ends) z)

pub flux-one : (f ends : List ℕ) → flux f ends (λ _. 1) ≡ sum f
unfolding flux sum
flux-one [] ends = refl
flux-one (x ∷ f) ends = omega (arith, flux-one f (tail ends))

pub spread-add : (l : List ℕ) (z : ℕ → ℕ) (i d : ℕ) → i < length l → spread (set l i (at l i + d)) z ≡ spread l z + d * z i
unfolding spread
spread-add [] z i d h = absurd (not-suc-le-zero h)
spread-add (x ∷ l) z zero d h = omega arith
spread-add (x ∷ l) z (suc i) d h = omega (arith, spread-add l (λ i. z (suc i)) i d (le_of_suc-le-suc h))

pub spread-sub : (l : List ℕ) (z : ℕ → ℕ) (i d : ℕ) → i < length l → d ≤ at l i → spread (set l i (at l i - d)) z + d * z i ≡ spread l z
unfolding spread
spread-sub [] z i d h k = absurd (not-suc-le-zero h)
spread-sub (x ∷ l) z zero d h k =
    let e : (x - d + d) * z 0 ≡ x * z 0 = ap (λ (m : ℕ). m * z 0) (omega arith) in
    omega arith
spread-sub (x ∷ l) z (suc i) d h k = omega (arith, spread-sub l (λ i. z (suc i)) i d (le_of_suc-le-suc h) k)

pub spread_none : (l : List ℕ) (z : ℕ → ℕ) → ((i : ℕ) → i < length l → at l i * z i ≡ 0) → spread l z ≡ 0
unfolding spread
spread_none [] z h = refl
spread_none (x ∷ l) z h = omega (arith, h zero (zero-lt-suc (length l)), spread_none l (λ i. z (suc i)) (λ i k. h (suc i) (suc-le-suc k)))

pub spread-ge : (l : List ℕ) (z : ℕ → ℕ) (i : ℕ) → i < length l → at l i * z i ≤ spread l z
unfolding spread
spread-ge [] z i h = absurd (not-suc-le-zero h)
spread-ge (x ∷ l) z zero h = omega arith
spread-ge (x ∷ l) z (suc i) h = omega (arith, spread-ge l (λ i. z (suc i)) i (le_of_suc-le-suc h))

pub spread-one : (l : List ℕ) → spread l (λ _. 1) ≡ sum l
unfolding spread sum
spread-one [] = refl
spread-one (x ∷ l) = omega (arith, spread-one l)

pub spread-empty : (l : List ℕ) (z : ℕ → ℕ) → sum l ≡ 0 → spread l z ≡ 0
spread-empty l z e = spread_none l z (λ i h. rw (none i) (omega arith))
  where
    none : (i : ℕ) → at l i ≡ 0
    none i = omega (arith, sum-ge l i)
