-- The auxiliary network against spaced x: rows of the one are x of the other, and what they cost.
use mathlib.Core.Path.{◌≡◌, refl, sym, ap, ◌∙◌}
use mathlib.Core.List.{List, [], ◌∷◌, ◌++◌, map}
use Prim.Native.Nat.{ℕ, zero, suc, ◌+◌, ◌*◌, ◌-◌, ◌≤◌, ◌<◌, min, suc-le-suc}
use native.Mathlib.Nat.{not-suc-le-zero, le_of_suc-le-suc, zero-lt-suc, le_refl, add-zero, mul-le-mul_left}
use native.Mathlib.Omega.{arith}
use lib.ListN.{length, get_or, length-append, length-map, get_or-append}
use lib.Seq.{get_or-append-add}
use Rattle.graph.specs.declared.Edge.{Edge}
use Rattle.graph.specs.Rows.{at, Kept, Feasible, total, Within}
use Rattle.spacing.specs.Coordinates.{Costed, no_costed, row_in, Spaced, distance, x_total, Among}
use Rattle.spacing.specs.Auxiliary.{beside, pull, row_edges, one_row, order_edges, pull_edges, aux, aux_nodes}
use Rattle.spacing.proofs.EdgeListLaws.{
  Every,
  every-nil,
  every-cons,
  every-head,
  every-tail,
  every-join,
  every-left,
  every-right,
  total-join,
}

-- ---- what holds of every edge of the network

row-every : (P : Edge → Type 0) (p : ℕ) (row : List ℕ)
    → ((i : ℕ) → suc i < length (p ∷ row) → P (beside (at (p ∷ row) i) (at (p ∷ row) (suc i))))
    → Every (row_edges p row) P
unfolding row_edges
row-every P p [] h = every-nil P
row-every P p (q ∷ row) h =
    every-cons (beside p q) (row_edges q row) P (h zero (suc-le-suc (zero-lt-suc (length row)))) (row-every P q row (λ i k. h (suc i) (suc-le-suc k)))

one-every : (P : Edge → Type 0) (row : List ℕ) → ((i : ℕ) → suc i < length row → P (beside (at row i) (at row (suc i)))) → Every (one_row row) P
unfolding one_row
one-every P [] h = every-nil P
one-every P (p ∷ row) h = row-every P p row h

pub order-every : (P : Edge → Type 0) (order : List (List ℕ))
    → ((r i : ℕ) → r < length order → suc i < length (row_in order r) → P (beside (at (row_in order r) i) (at (row_in order r) (suc i))))
    → Every (order_edges order) P
unfolding order_edges
order-every P [] h = every-nil P
order-every P (row ∷ order) h =
    every-join (one_row row) (order_edges order) P
    (one-every P row (λ i k. h zero i (zero-lt-suc (length order)) k))
    (order-every P order (λ r i l k. h (suc r) i (suc-le-suc l) k))

pull-every : (P : Edge → Type 0) (a : ℕ) (costed : List Costed)
    → ((k : ℕ) → k < length costed
    → P (pull (a + k) (get_or costed k no_costed).upper (get_or costed k no_costed).cost) × P (pull (a + k) (get_or costed k no_costed).lower (get_or costed k no_costed).cost))
    → Every (pull_edges a costed) P
unfolding pull_edges
pull-every P a [] h = every-nil P
pull-every P a (s ∷ costed) h =
    let here = rw add-zero at (h zero (zero-lt-suc (length costed))) in
    every-cons (pull a s.upper s.cost) (pull a s.lower s.cost ∷ pull_edges (suc a) costed) P here.0
    (every-cons (pull a s.lower s.cost) (pull_edges (suc a) costed) P here.1
    (pull-every P (suc a) costed (λ k b. rw (shift a k) (h (suc k) (suc-le-suc b)))))
  where
    shift : (a k : ℕ) → suc a + k ≡ a + suc k
    shift a k = omega arith

-- ---- the edges of the order: feasible rows are spaced x, and the other way

row_apart : (p : ℕ) (row : List ℕ) (z : ℕ → ℕ) → Feasible (row_edges p row) z → (i : ℕ) → suc i < length (p ∷ row)
    → z (at (p ∷ row) i) + 1 ≤ z (at (p ∷ row) (suc i))
unfolding row_edges
row_apart p [] z f i h = absurd (not-suc-le-zero (le_of_suc-le-suc h))
row_apart p (q ∷ row) z f zero h = every-head (beside p q) (row_edges q row) (Kept z) f
row_apart p (q ∷ row) z f (suc i) h = row_apart q row z (every-tail (beside p q) (row_edges q row) (Kept z) f) i (le_of_suc-le-suc h)

one_apart : (row : List ℕ) (z : ℕ → ℕ) → Feasible (one_row row) z → (i : ℕ) → suc i < length row → z (at row i) + 1 ≤ z (at row (suc i))
unfolding one_row
one_apart [] z f i h = absurd (not-suc-le-zero h)
one_apart (p ∷ row) z f i h = row_apart p row z f i h

order-apart : (order : List (List ℕ)) (z : ℕ → ℕ) → Feasible (order_edges order) z → (r i : ℕ) → r < length order → suc i < length (row_in order r)
    → z (at (row_in order r) i) + 1 ≤ z (at (row_in order r) (suc i))
unfolding order_edges
order-apart [] z f r i h k = absurd (not-suc-le-zero h)
order-apart (row ∷ order) z f zero i h k = one_apart row z (every-left (one_row row) (order_edges order) (Kept z) f) i k
order-apart (row ∷ order) z f (suc r) i h k = order-apart order z (every-right (one_row row) (order_edges order) (Kept z) f) r i (le_of_suc-le-suc h) k

pub feasible-spaced : (order : List (List ℕ)) (z : ℕ → ℕ) → Feasible (order_edges order) z → Spaced order z
feasible-spaced order z f = record { apart = order-apart order z f }

pub spaced-feasible : (order : List (List ℕ)) (z : ℕ → ℕ) → Spaced order z → Feasible (order_edges order) z
spaced-feasible order z s = order-every (Kept z) order s.apart

-- they cost nothing
row-free : (p : ℕ) (row : List ℕ) (z : ℕ → ℕ) → total (row_edges p row) z ≡ 0
unfolding row_edges total
row-free p [] z = refl
row-free p (q ∷ row) z = omega (arith, row-free q row z)

one_free : (row : List ℕ) (z : ℕ → ℕ) → total (one_row row) z ≡ 0
unfolding one_row total
one_free [] z = refl
one_free (p ∷ row) z = row-free p row z

pub order-free : (order : List (List ℕ)) (z : ℕ → ℕ) → total (order_edges order) z ≡ 0
unfolding order_edges total
order-free [] z = refl
order-free (row ∷ order) z = omega (arith, total-join (one_row row) (order_edges order) z, one_free row z, order-free order z)

-- ---- the edges of the segments: a node left of both ends is at least as far from them in all as they are from each other, and exactly so
-- far where it stands at the smaller

over-ends : (c u l w : ℕ) → w ≤ u → w ≤ l → c * distance u l ≤ c * (u - w) + c * (l - w)
over-ends c u l w h k =
    let d : distance u l ≤ (u - w) + (l - w) = omega arith in
    omega (arith, mul-le-mul_left c d)

at-smaller : (c u l w : ℕ) → w ≡ min u l → c * (u - w) + c * (l - w) ≡ c * distance u l
at-smaller c u l w e =
    let d : (u - w) + (l - w) ≡ distance u l = omega arith in
    omega (arith, ap (λ (k : ℕ). c * k) d)

-- (a) Feasible rows cost at least the sum of distances, since the node of each segment stands left of both its ends.
pub x-total-least : (a : ℕ) (costed : List Costed) (z : ℕ → ℕ) → Feasible (pull_edges a costed) z → x_total costed z ≤ total (pull_edges a costed) z
unfolding pull_edges x_total total
x-total-least a [] z f = le_refl 0
x-total-least a (s ∷ costed) z f =
    let up = pull a s.upper s.cost in
    let down = pull a s.lower s.cost in
    let g = every-tail up (down ∷ pull_edges (suc a) costed) (Kept z) f in
    let h = every-head up (down ∷ pull_edges (suc a) costed) (Kept z) f in
    let k = every-head down (pull_edges (suc a) costed) (Kept z) g in
    omega (
      arith,
      over-ends s.cost (z s.upper) (z s.lower) (z a) (omega arith) (omega arith),
      x-total-least (suc a) costed z (every-tail down (pull_edges (suc a) costed) (Kept z) g),
    )

-- the ends of every segment are below n
abbrev EndsIn : ℕ → List Costed → Type 0
EndsIn n costed = (k : ℕ) → k < length costed → ((get_or costed k no_costed).upper < n) × ((get_or costed k no_costed).lower < n)

-- the sum is the same for x that agree on the points
pub x-total-same : (n : ℕ) (costed : List Costed) (x z : ℕ → ℕ) → EndsIn n costed → ((p : ℕ) → p < n → z p ≡ x p) → x_total costed z ≡ x_total costed x
unfolding x_total
x-total-same n [] x z e same = refl
x-total-same n (s ∷ costed) x z e same =
    rw (same s.upper (e zero (zero-lt-suc (length costed))).0, same s.lower (e zero (zero-lt-suc (length costed))).1)
    (ap (λ (k : ℕ). s.cost * distance (x s.upper) (x s.lower) + k) (x-total-same n costed x z (λ k h. e (suc k) (suc-le-suc h)) same))

-- (b) x extend to feasible rows of the segments' edges at a cost equal to their total: the node of each segment at the smaller of its ends.
smaller : (ℕ → ℕ) → Costed → ℕ
smaller x s = min (x s.upper) (x s.lower)

module _ (n : ℕ) (x z : ℕ → ℕ) (same : (p : ℕ) → p < n → z p ≡ x p) where
  lifted-feasible : (costed : List Costed) → EndsIn n costed → ((k : ℕ) → k < length costed → z (n + k) ≡ smaller x (get_or costed k no_costed))
      → Feasible (pull_edges n costed) z
  unfolding smaller
  lifted-feasible costed e low =
      pull-every (Kept z) n costed (λ k h.
      let u = same (get_or costed k no_costed).upper (e k h).0 in
      let l = same (get_or costed k no_costed).lower (e k h).1 in
      let m = low k h in
      (omega arith, omega arith))

  lifted-total : (a : ℕ) (costed : List Costed) → EndsIn n costed
      → ((k : ℕ) → k < length costed → z (a + k) ≡ smaller x (get_or costed k no_costed))
      → total (pull_edges a costed) z ≡ x_total costed x
  unfolding pull_edges smaller total x_total
  lifted-total a [] e low = refl
  lifted-total a (s ∷ costed) e low =
      let here = low zero (zero-lt-suc (length costed)) in
      let i = e zero (zero-lt-suc (length costed)) in
      let here' : z a ≡ min (x s.upper) (x s.lower) = rw add-zero at here in
      rw (same s.upper i.0, same s.lower i.1)
      (omega (
        arith,
        at-smaller s.cost (x s.upper) (x s.lower) (z a) here',
        lifted-total (suc a) costed (λ k h. e (suc k) (suc-le-suc h)) (λ k h. rw (shift a k) (low (suc k) (suc-le-suc h))),
      ))
    where
      shift : (a k : ℕ) → suc a + k ≡ a + suc k
      shift a k = omega arith

-- the list of x with the nodes of the segments behind it
pub lifted : List ℕ → List Costed → List ℕ
lifted xs costed = xs ++ map (smaller (at xs)) costed

-- it is no larger than the x
pub lifted-low : (b : ℕ) (xs : List ℕ) (costed : List Costed) → ((p : ℕ) → at xs p ≤ b) → (v : ℕ) → at (lifted xs costed) v ≤ b
unfolding lifted smaller
lifted-low b xs costed h v = joined xs v h
  where
    nodes : (costed : List Costed) (v : ℕ) → at (map (smaller (at xs)) costed) v ≤ b
    nodes [] v = omega arith
    nodes (s ∷ costed) zero = least
      where
        least : smaller (at xs) s ≤ b
        least = omega (arith, h s.upper)
    nodes (s ∷ costed) (suc v) = nodes costed v

    joined : (ys : List ℕ) (v : ℕ) → ((p : ℕ) → at ys p ≤ b) → at (ys ++ map (smaller (at xs)) costed) v ≤ b
    joined [] v k = nodes costed v
    joined (y ∷ ys) zero k = k zero
    joined (y ∷ ys) (suc v) k = joined ys v (λ p. k (suc p))

module _ (n : ℕ) (order : List (List ℕ)) (costed : List Costed) (among : Among n order costed) (xs : List ℕ) (long : length xs ≡ n) where
  pub lifted-long : length (lifted xs costed) ≡ aux_nodes n costed
  unfolding lifted
  lifted-long = simp (length-append, length-map) (omega arith)

  pub lifted-point : (p : ℕ) → p < n → at (lifted xs costed) p ≡ at xs p
  unfolding lifted
  lifted-point p h = get_or-append xs (map (smaller (at xs)) costed) 0 p (omega arith)

  lifted-node : (k : ℕ) → k < length costed → at (lifted xs costed) (n + k) ≡ smaller (at xs) (get_or costed k no_costed)
  unfolding lifted
  lifted-node k h =
      ap (λ (m : ℕ). at (lifted xs costed) (m + k)) (sym long)
      ∙ get_or-append-add xs (map (smaller (at xs)) costed) k 0
      ∙ mapped costed k h
    where
      mapped : (costed : List Costed) (k : ℕ) → k < length costed → at (map (smaller (at xs)) costed) k ≡ smaller (at xs) (get_or costed k no_costed)
      mapped [] k h = absurd (not-suc-le-zero h)
      mapped (s ∷ costed) zero h = refl
      mapped (s ∷ costed) (suc k) h = mapped costed k (le_of_suc-le-suc h)

  pub lifted-rows : Spaced order (at xs) → Feasible (aux n order costed) (at (lifted xs costed))
  unfolding aux
  lifted-rows s =
      every-join (order_edges order) (pull_edges n costed) (Kept (at (lifted xs costed)))
      (spaced-feasible order (at (lifted xs costed)) (record {
        apart = λ r i h k.
            rw (lifted-point (at (row_in order r) i) (among.points_in r i h (omega arith)), lifted-point (at (row_in order r) (suc i)) (among.points_in r (suc i) h k))
            (s.apart r i h k);
      }))
      (lifted-feasible n (at xs) (at (lifted xs costed)) lifted-point costed among.ends_in lifted-node)

  pub lifted-sum : total (aux n order costed) (at (lifted xs costed)) ≡ x_total costed (at xs)
  unfolding aux
  lifted-sum =
      omega (
        arith,
        total-join (order_edges order) (pull_edges n costed) (at (lifted xs costed)),
        order-free order (at (lifted xs costed)),
        lifted-total n (at xs) (at (lifted xs costed)) lifted-point n costed among.ends_in lifted-node,
      )

-- What holds of the edge of any two neighbours and of both edges of any segment holds of every edge of the network.
pub aux-every : (P : Edge → Type 0) (n : ℕ) (order : List (List ℕ)) (costed : List Costed)
    → ((r i : ℕ) → r < length order → suc i < length (row_in order r) → P (beside (at (row_in order r) i) (at (row_in order r) (suc i))))
    → ((k : ℕ) → k < length costed
    → P (pull (n + k) (get_or costed k no_costed).upper (get_or costed k no_costed).cost) × P (pull (n + k) (get_or costed k no_costed).lower (get_or costed k no_costed).cost))
    → Every (aux n order costed) P
unfolding aux
aux-every P n order costed h k = every-join (order_edges order) (pull_edges n costed) P (order-every P order h) (pull-every P n costed k)

pub aux-within : (n : ℕ) (order : List (List ℕ)) (costed : List Costed) → Among n order costed → Within (aux_nodes n costed) (aux n order costed)
aux-within n order costed among =
    aux-every (λ e. (e.from < n + length costed) × (e.to < n + length costed)) n order costed
    (λ r i h k. (omega (arith, among.points_in r i h (omega arith)), omega (arith, among.points_in r (suc i) h k)))
    (λ k h. let e = among.ends_in k h in ((omega arith, omega arith), (omega arith, omega arith)))
