-- Two points exchanged and those behind turned round are the next order.
use mathlib.Core.Path.{◌≡◌, sym, ap, ◌∙◌, subst}
use mathlib.Core.List.{List, [], ◌∷◌, ◌++◌, append-nil, reverse}
use Prim.Native.Nat.{ℕ, suc, ◌+◌, ◌-◌, ◌≤◌, ◌<◌}
use native.Mathlib.Omega.{arith}
use lib.ListN.{length, get_or, take, drop, set, take-append-drop, length-drop, drop_of_length-le}
use lib.Seq.{drop-cons, append_snoc, take_all, take_at, length-take-le, take-set-le, drop-set-lt, drop-set-add, take-suc-set, get_or-drop}
use borrow.Rule.Slice.PartMut.{put_mid}
use Rattle.permutations.specs.Next.{last, to, above, exchanged, next_with, next_order}
use Rattle.permutations.specs.Places.{Pivot, RunIs, Advanced}

-- a point more in front stays
pub next-front : (a : List ℕ) (l m : List ℕ) → next_order l ≡ to m → next_order (a ++ l) ≡ to (a ++ m)
unfolding next_order next_with
next-front [] l m e = e
next-front (x ∷ a) l m e = rw (next-front a l m e)

pub next-exchanged : (x : ℕ) (l : List ℕ) (j : ℕ) → next_order l ≡ last → above x l ≡ suc j → next_order (x ∷ l) ≡ to (get_or l j 0 ∷ reverse (set l j x))
unfolding next_order next_with exchanged
next-exchanged x l j e k = rw (e, k)

-- the points at i and j exchanged
abbrev pub swapped : List ℕ → ℕ → ℕ → List ℕ
swapped p i j = set (set p i (get_or p j 0)) j (get_or p i 0)

module _ (p : List ℕ) (i r j : ℕ) (e : suc i ≡ r) (h : r ≤ j) (k : j < length p) where
  -- the points behind the place of the change, with the exchanged one among them
  rest-is : drop r (swapped p i j) ≡ set (drop r p) (j - r) (get_or p i 0)
  rest-is =
      let q : r + (j - r) ≡ j = omega arith in
      subst (λ (v : ℕ). drop r (set (set p i (get_or p j 0)) v (get_or p i 0)) ≡ set (drop r p) (j - r) (get_or p i 0)) q
      (drop-set-add r (set p i (get_or p j 0)) (j - r) (get_or p i 0)
      ∙ ap (λ (l : List ℕ). set l (j - r) (get_or p i 0)) (drop-set-lt r p i (get_or p j 0) (omega arith)))

  front-is : take r (swapped p i j) ≡ take i p ++ (get_or p j 0 ∷ [])
  front-is =
      take-set-le r (set p i (get_or p j 0)) j (get_or p i 0) h
      ∙ ap (λ (v : ℕ). take v (set p i (get_or p j 0))) (sym e) ∙ take-suc-set p i (get_or p j 0) (omega arith)

  -- turned round from place r on
  turned-is : take r (swapped p i j) ++ reverse (drop r (swapped p i j)) ≡ take i p ++ (get_or p j 0 ∷ reverse (set (drop r p) (j - r) (get_or p i 0)))
  turned-is = rw (rest-is, front-is, append_snoc)

  next-is : next_order (drop r p) ≡ last → above (get_or p i 0) (drop r p) ≡ suc (j - r)
      → next_order p ≡ to (take i p ++ (get_or p j 0 ∷ reverse (set (drop r p) (j - r) (get_or p i 0))))
  next-is g a =
      let q : r + (j - r) ≡ j = omega arith in
      let y : get_or (drop r p) (j - r) 0 ≡ get_or p j 0 = get_or-drop r p (j - r) 0 ∙ ap (λ (v : ℕ). get_or p v 0) q in
      let d : drop i p ≡ get_or p i 0 ∷ drop r p = drop-cons p i 0 (omega arith) ∙ ap (λ (v : ℕ). get_or p i 0 ∷ drop v p) e in
      let w : next_order (drop i p) ≡ to (get_or p j 0 ∷ reverse (set (drop r p) (j - r) (get_or p i 0))) =
      ap next_order d ∙ next-exchanged (get_or p i 0) (drop r p) (j - r) g a ∙ ap (λ (v : ℕ). to (v ∷ reverse (set (drop r p) (j - r) (get_or p i 0)))) y in
      ap next_order (sym (take-append-drop i p)) ∙ next-front (take i p) (drop i p) _ w

  begins-same : take i (take i p ++ (get_or p j 0 ∷ reverse (set (drop r p) (j - r) (get_or p i 0)))) ≡ take i p
  begins-same = take_at (take i p) (get_or p j 0 ∷ reverse (set (drop r p) (j - r) (get_or p i 0))) i (length-take-le i p (omega arith))

-- a list whose part from r on is turned round
pub tail_turned : (r : ℕ) (w y : List ℕ) → r ≤ length w → y ≡ reverse (take (length w - r) (drop r w))
    → put_mid r (length w - r) w y ≡ take r w ++ reverse (drop r w)
tail_turned r w y h e =
    let k : length (drop r w) ≤ length w - r = omega (arith, length-drop r w) in
    let t : take (length w - r) (drop r w) ≡ drop r w = take_all (length w - r) (drop r w) k in
    let d : drop (length w - r) (drop r w) ≡ [] = drop_of_length-le (drop r w) {i = length w - r} k in
    rw (e, t, d, append-nil)

-- What is left in place is the next order. The points before the change stay; the exchanged one follows, and behind it the others,
-- which fell before and rise now.
pub advanced : (p : List ℕ) (r j : ℕ) (m q : List ℕ) → Pivot p r → RunIs p r (get_or p (r - 1) 0) j → m ≡ swapped p (r - 1) j
    → q ≡ take r m ++ reverse (drop r m) → Advanced p r q
advanced p r j m q v s k e =
    let i : suc (r - 1) ≡ r = omega (arith, v.behind) in
    let w : q ≡ take (r - 1) p ++ (get_or p j 0 ∷ reverse (set (drop r p) (j - r) (get_or p (r - 1) 0))) =
    e ∙ ap (λ (l : List ℕ). take r l ++ reverse (drop r l)) k ∙ turned-is p (r - 1) r j i s.after s.inside in
    record {
      next = next-is p (r - 1) r j i s.after s.inside v.last_rest s.run ∙ ap to (sym w);
      begins = ap (take (r - 1)) w ∙ begins-same p (r - 1) r j i s.after s.inside;
    }
