-- All orders of a row: the first one, how many there are and which, and the same of renamed points.
use mathlib.Core.Path.{◌≡◌, refl, sym, ap, ◌∙◌, subst}
use mathlib.Core.List.Memᴰ
use mathlib.Core.List.{List, [], ◌∷◌, ◌++◌, map, map-map, map-append, append-nil, flatten, Memᴰ}
use Prim.Native.Nat.{ℕ, zero, suc, ◌*◌, ◌<◌, suc-le-suc}
use native.Mathlib.Nat.{not-suc-le-zero, le_of_suc-le-suc}
use native.Mathlib.Omega.{arith}
use lib.ListN.{length, get_or, length-append, length-map}
use Rattle.buffers.specs.Lists.{occurs}
use Rattle.permutations.specs.Orders.{Pick, behind, picks, beginning, arranged_in, arrangements, factorial, Permutation}
use Rattle.permutations.proofs.PointLaws.{occurs-cons, same_refl, same-sym, same-trans, same-cons, same_none, same_length, Around, split-same, split_rest}

-- ---- the orders pick by pick

-- what is made of each pick, one behind the other
abbrev pub blocks : (Pick → List (List ℕ)) → List ℕ → List (List ℕ)
blocks make row = flatten (map make (picks row))

-- what is made of picks that come behind x
abbrev pub past : ℕ → (Pick → List (List ℕ)) → Pick → List (List ℕ)
past x make p = make (behind x p)

-- the orders that begin with the picked point
abbrev pub started : ℕ → Pick → List (List ℕ)
started n p = beginning p.point (arranged_in n p.others)

blocks-none : (make : Pick → List (List ℕ)) → blocks make [] ≡ []
unfolding picks flatten
blocks-none make = refl

pub blocks-cons : (make : Pick → List (List ℕ)) (x : ℕ) (row : List ℕ)
    → blocks make (x ∷ row) ≡ make (record { point = x; others = row }) ++ blocks (past x make) row
unfolding picks flatten
blocks-cons make x row = rw (map-map make (behind x) (picks row))

pub blocks-one : (make : Pick → List (List ℕ)) (x : ℕ) → blocks make (x ∷ []) ≡ make (record { point = x; others = [] })
unfolding picks flatten
blocks-one make x = append-nil (make (record { point = x; others = [] }))

-- ---- renamed points

module _ (f : ℕ → ℕ) where
  abbrev renamed : Pick → Pick
  renamed p = record { point = f p.point; others = map f p.others }

  blocks-map : (row : List ℕ) (make old : Pick → List (List ℕ)) → ((p : Pick) → make (renamed p) ≡ map (map f) (old p))
      → blocks make (map f row) ≡ map (map f) (blocks old row)
  blocks-map [] make old e = rw (blocks-none make, blocks-none old)
  blocks-map (x ∷ row) make old e =
      rw (
        blocks-cons make (f x) (map f row),
        blocks-cons old x row,
        map-append (map f) (old (record { point = x; others = row })) (blocks (past x old) row),
        e (record { point = x; others = row }),
        blocks-map row (past (f x) make) (past x old) (λ p. e (behind x p)),
      )

  map-in : (n : ℕ) (row : List ℕ) → arranged_in n (map f row) ≡ map (map f) (arranged_in n row)
  unfolding arranged_in
  map-in zero row = refl
  map-in (suc n) row = blocks-map row (started n) (started n) (λ p. each p.point (arranged_in n p.others) (map-in n p.others))
    where
      each : (x : ℕ) (m : List (List ℕ)) {l : List (List ℕ)} → l ≡ map (map f) m → beginning (f x) l ≡ map (map f) (beginning x m)
      each x m e =
          ap (beginning (f x)) e
          ∙ map-map (λ (q : List ℕ). f x ∷ q) (map f) m
          ∙ sym (map-map (map f) (λ (q : List ℕ). x ∷ q) m)

-- Points are arranged by their places: what the points are makes no difference.
pub arranged-map : (f : ℕ → ℕ) (row : List ℕ) → arrangements (map f row) ≡ map (map f) (arrangements row)
arranged-map f row = ap (λ (n : ℕ). arranged_in n (map f row)) (length-map row f) ∙ map-in f (length row) row

-- ---- every one has the row's points

data Every (P : List ℕ → Type 0) : List (List ℕ) → Type 0 where
  none : Every P []
  more : {q : List ℕ} {l : List (List ℕ)} → P q → Every P l → Every P (q ∷ l)

every_append : {P : List ℕ → Type 0} {l m : List (List ℕ)} → Every P l → Every P m → Every P (l ++ m)
every_append none t = t
every_append (more h s) t = more h (every_append s t)

every-beginning : {P Q : List ℕ → Type 0} {l : List (List ℕ)} (x : ℕ) → ((q : List ℕ) → P q → Q (x ∷ q)) → Every P l → Every Q (beginning x l)
every-beginning x h none = none
every-beginning x h (more {q} e s) = more (h q e) (every-beginning x h s)

every-at : {P : List ℕ → Type 0} {l : List (List ℕ)} → Every P l → (i : ℕ) → i < length l → P (get_or l i [])
every-at none i h = absurd (not-suc-le-zero h)
every-at (more e s) zero h = e
every-at (more e s) (suc i) h = every-at s i (le_of_suc-le-suc h)

-- a pick among the others, behind x, is one of x and the others
behind-same : (x : ℕ) (row : List ℕ) (p : Pick) → Permutation row (p.point ∷ p.others) → Permutation (x ∷ row) (p.point ∷ x ∷ p.others)
behind-same x row p h = record { points = each }
  where
    each : (v : ℕ) → occurs v (x ∷ row) ≡ occurs v (p.point ∷ x ∷ p.others)
    each v =
        omega (
          arith,
          h.points v,
          occurs-cons v x row,
          occurs-cons v p.point (x ∷ p.others),
          occurs-cons v x p.others,
          occurs-cons v p.point p.others,
        )

blocks-every : (P : List ℕ → Type 0) (row : List ℕ) (make : Pick → List (List ℕ)) → ((p : Pick) → Permutation row (p.point ∷ p.others) → Every P (make p))
    → Every P (blocks make row)
blocks-every P [] make h = rw (blocks-none make) none
blocks-every P (x ∷ row) make h =
    rw (blocks-cons make x row)
    (every_append
    (h (record { point = x; others = row }) (same_refl (x ∷ row)))
    (blocks-every P row (past x make) (λ p s. h (behind x p) (behind-same x row p s))))

permutes-in : (n : ℕ) (row : List ℕ) → length row ≡ n → Every (Permutation row) (arranged_in n row)
unfolding arranged_in
permutes-in zero [] e = more (same_refl []) none
permutes-in zero (x ∷ row) e = absurd (omega arith)
permutes-in (suc n) row e =
    blocks-every (Permutation row) row (started n)
    (λ p s. every-beginning p.point (λ q t. same-trans s (same-cons p.point t))
    (permutes-in n p.others (let k : length row ≡ suc (length p.others) = same_length row (p.point ∷ p.others) s in omega arith)))

-- Every arrangement has the row's points.
pub arranged-permutes : (row : List ℕ) (i : ℕ) → i < length (arrangements row) → Permutation row (get_or (arrangements row) i [])
arranged-permutes row i h = every-at (permutes-in (length row) row refl) i h

-- ---- how many

blocks-count : (k : ℕ) (row : List ℕ) (make : Pick → List (List ℕ)) → ((p : Pick) → suc (length p.others) ≡ length row → length (make p) ≡ k)
    → length (blocks make row) ≡ length row * k
blocks-count k [] make h = rw (blocks-none make) (omega arith)
blocks-count k (x ∷ row) make h =
    rw (blocks-cons make x row, length-append (make (record { point = x; others = row })) (blocks (past x make) row))
    (omega (arith, h (record { point = x; others = row }) refl, blocks-count k row (past x make) (λ p e. h (behind x p) (ap suc e))))

-- each of n points in front, and behind each as many orders as the others have
count_in : (n : ℕ) (row : List ℕ) → length row ≡ n → length (arranged_in n row) ≡ factorial n
unfolding arranged_in factorial
count_in zero row e = refl
count_in (suc n) row e =
    blocks-count (factorial n) row (started n)
    (λ p k. length-map (arranged_in n p.others) (λ (q : List ℕ). p.point ∷ q) ∙ count_in n p.others (omega (arith, k)))
    ∙ ap (λ (m : ℕ). m * factorial n) e

-- There are as many as the factorial of the number of points, equal points or not.
pub arranged-count : (row : List ℕ) → length (arrangements row) ≡ factorial (length row)
arranged-count row = count_in (length row) row refl

-- ---- all of them

-- q is one of the orders
pub record Among (q : List ℕ) (all : List (List ℕ)) : Type 0 where
  pub which : ℕ
  pub inside : which < length all
  pub one : q ≡ get_or all which []

among : {q : List ℕ} {l : List (List ℕ)} → Memᴰ q l → Among q l
among (Memᴰ.head e) = record { which = 0; inside = omega arith; one = e }
among (Memᴰ.tail m) = let s = among m in record { which = suc s.which; inside = suc-le-suc s.inside; one = s.one }

-- what is made of one pick is among what is made of all
blocks-all : (a : List ℕ) (x : ℕ) (b : List ℕ) (make : Pick → List (List ℕ)) (q : List ℕ) → Memᴰ q (make (record { point = x; others = a ++ b }))
    → Memᴰ q (blocks make (a ++ x ∷ b))
blocks-all [] x b make q m = rw (blocks-cons make x b) (Memᴰ.append_left (blocks (past x make) b) m)
blocks-all (c ∷ a) x b make q m =
    rw (blocks-cons make c (a ++ x ∷ b)) (Memᴰ.append_right (make (record { point = c; others = a ++ x ∷ b })) (blocks-all a x b (past c make) q m))

-- An order's first point is picked at some place in the row, and behind it stand the others of that pick in some order.
all_in : (n : ℕ) (row q : List ℕ) → length row ≡ n → Permutation row q → Memᴰ q (arranged_in n row)
unfolding arranged_in
all_in zero [] [] e h = Memᴰ.head refl
all_in zero [] (y ∷ q) e h = absurd (same_none (same-sym h))
all_in zero (x ∷ row) q e h = absurd (omega arith)
all_in (suc n) row [] e h = absurd (omega (arith, same_length row [] h))
all_in (suc n) row (y ∷ q) e h =
    let s : Around y row = split-same (same-sym h) in
    let rest : Permutation q (s.left ++ s.right) = split_rest (same-sym h) s in
    let k : length (s.left ++ s.right) ≡ n = omega (arith, same_length row (y ∷ q) h, same_length q (s.left ++ s.right) rest) in
    subst (λ (l : List ℕ). Memᴰ (y ∷ q) (blocks (started n) l)) (sym s.whole)
    (blocks-all s.left y s.right (started n) (y ∷ q) (Memᴰ.map (λ (r : List ℕ). y ∷ r) (all_in n (s.left ++ s.right) q k (same-sym rest))))

-- Every order of the row's points is an arrangement.
pub arranged-all : (row q : List ℕ) → Permutation row q → Among q (arrangements row)
arranged-all row q h = among (all_in (length row) row q refl h)

-- ---- the first one

-- the row comes first of all
record Begins (row : List ℕ) (all : List (List ℕ)) : Type 0 where
  rest : List (List ℕ)
  whole : all ≡ row ∷ rest

begins : (row : List ℕ) → Begins row (arrangements row)
unfolding arranged_in
begins [] = record { rest = []; whole = refl }
begins (x ∷ row) =
    let s : Begins row (arrangements row) = begins row in
    let others : List (List ℕ) = blocks (past x (started (length row))) row in
    record {
      rest = beginning x s.rest ++ others;
      whole = blocks-cons (started (length row)) x row ∙ ap (λ (l : List (List ℕ)). beginning x l ++ others) s.whole;
    }

-- The first arrangement is the row as it stands.
pub arranged-first : (row : List ℕ) → get_or (arrangements row) 0 [] ≡ row
arranged-first row = ap (λ (l : List (List ℕ)). get_or l 0 []) (begins row).whole

pub arranged-some : (row : List ℕ) → 0 < length (arrangements row)
arranged-some row = omega (arith, ap length (begins row).whole)
