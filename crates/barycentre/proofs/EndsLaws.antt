-- The means of a row, from lists by point: what counts is only the positions of the ends.
use mathlib.Core.Path.{◌≡◌, refl, ap, ap₂, fun_ext}
use mathlib.Core.Bool.{Bool, true, false, cond}
use mathlib.Core.List.{List, [], ◌∷◌, map}
use Prim.Native.Nat.{ℕ, zero, suc, ◌≤◌, ◌<◌, suc-le-suc}
use native.Mathlib.Nat.{not-suc-le-zero, le_of_suc-le-suc, zero-lt-suc}
use lib.Dec.{eqb}
use lib.ListN.{length}
use Rattle.graph.specs.Rows.{at}
use Rattle.barycentre.specs.Means.{Mean, mean_of, arranged, reorder}
use Rattle.buffers.specs.Lists.{sum, Below}
use Rattle.barycentre.specs.Flat.{ends_in, mean_at, arranged_by, Counts}

-- two numberings that agree below n agree on the ends of every point, where these are below n
pub ends-agree : (f g : ℕ → ℕ) (n : ℕ) → ((q : ℕ) → q < n → f q ≡ g q) → (near far : List ℕ) (p : ℕ) → length near ≤ length far
    → ((k : ℕ) → k < length far → at far k < n) → map f (ends_in near far p) ≡ map g (ends_in near far p)
unfolding ends_in
ends-agree f g n same [] far p l b = refl
ends-agree f g n same (a ∷ near) [] p l b = absurd (not-suc-le-zero l)
ends-agree f g n same (a ∷ near) (e ∷ far) p l b =
    go (eqb a p) (ends-agree f g n same near far p (le_of_suc-le-suc l) (λ k h. b (suc k) (suc-le-suc h)))
  where
    go : (t : Bool) → map f (ends_in near far p) ≡ map g (ends_in near far p)
        → map f (cond t (e ∷ ends_in near far p) (ends_in near far p)) ≡ map g (cond t (e ∷ ends_in near far p) (ends_in near far p))
    go true ih = ap₂ (λ x l. x ∷ l) (same e (b zero (zero-lt-suc (length far)))) ih
    go false ih = ih

-- so a row is put in the same order by both
pub reorder-agree : (near far : List ℕ) (f g : ℕ → ℕ) (n : ℕ) (row : List ℕ) → ((q : ℕ) → q < n → f q ≡ g q) → length near ≤ length far → Below n far
    → reorder (ends_in near far) f row ≡ reorder (ends_in near far) g row
unfolding reorder mean_of
reorder-agree near far f g n row same l b =
    ap (λ (m : ℕ → Mean). arranged (map m row))
    (fun_ext (λ p. ap (λ (t : ℕ). record { point = p; total = t; count = length (ends_in near far p) }) (ap sum (ends-agree f g n same near far p l b.below))))

map-agree : (f g : ℕ → Mean) (row : List ℕ) → ((i : ℕ) → i < length row → f (at row i) ≡ g (at row i)) → map f row ≡ map g row
map-agree f g [] h = refl
map-agree f g (p ∷ row) h = ap₂ (λ x l. x ∷ l) (h zero (zero-lt-suc (length row))) (map-agree f g row (λ i l. h (suc i) (suc-le-suc l)))

-- the sums of a row's points and counts by point give every point of the row its mean
pub arranged_is : (near far pos totals counts row : List ℕ) → ((i : ℕ) → i < length row → at totals (at row i) ≡ sum (map (at pos) (ends_in near far (at row i))))
    → Counts near far counts → Below (length counts) row → arranged_by totals counts row ≡ reorder (ends_in near far) (at pos) row
unfolding arranged_by reorder mean_of
arranged_is near far pos totals counts row t c b =
    ap arranged
    (map-agree (mean_at totals counts) (mean_of (ends_in near far) (at pos)) row
    (λ i l. ap₂ (λ (x y : ℕ). record { point = at row i; total = x; count = y }) (t i l) (c.each (at row i) (b.below i l))))
