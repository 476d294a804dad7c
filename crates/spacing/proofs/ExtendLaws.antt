-- Edges written behind others in four flat lists: none, one, and some behind some.
use mathlib.Core.Path.{◌≡◌, refl, sym, ap, ◌∙◌}
use mathlib.Core.Bool.{Bool, true, false, cond}
use mathlib.Core.List.{List, [], ◌∷◌, ◌++◌, tail, append-nil, append_assoc}
use Prim.Native.Nat.{ℕ, zero, suc, ◌+◌, ◌*◌, ◌-◌, ◌≤◌, ◌<◌}
use native.Mathlib.Nat.{not-suc-le-zero, le_of_suc-le-suc, add-zero}
use native.Mathlib.Numerals.{add-one}
use native.Mathlib.Omega.{arith}
use lib.Dec.{eqb}
use lib.ListN.{length, get_or, take, drop, length-append}
use lib.Seq.{take-suc, take_all, length-take-le}
use borrow.Author.Tests.{eq-eqb, ne_eqb}
use Rattle.graph.specs.declared.Edge.{Edge}
use Rattle.graph.specs.Rows.{at}
use Rattle.buffers.proofs.ListLaws.{at_tail}
use Rattle.spacing.specs.Coordinates.{Costed, no_costed}
use Rattle.spacing.specs.Auxiliary.{beside, pull, pull_edges}
use Rattle.spacing.specs.Flat.{costed_of, beside_if, besides}

-- ---- the edge of two points that follow each other

pub link-same : (row : List ℕ) (p q : ℕ) → at row p ≡ at row q → beside_if row p q ≡ beside p q ∷ []
link-same row p q e = rw (eq-eqb (at row p) (at row q) e)

pub link-other : (row : List ℕ) (p q : ℕ) → (at row p ≡ at row q → ⊥) → beside_if row p q ≡ []
link-other row p q d = rw (ne_eqb (at row p) (at row q) d)

-- ---- all of them

pub besides-more : (row order : List ℕ) (i : ℕ) → besides row order (i + 1) ≡ besides row order i ++ beside_if row (at order i) (at order (i + 1))
unfolding besides
besides-more row order i = rw (add-one i)

pub besides-few : (row order : List ℕ) (i : ℕ) → length (besides row order i) ≤ i
unfolding besides
besides-few row order zero = omega arith
besides-few row order (suc i) =
    omega (arith, besides-few row order i, length-append (besides row order i) (beside_if row (at order i) (at order (suc i))), one (eqb (at row (at order i)) (at row (at order (suc i)))))
  where
    one : (t : Bool) → length (cond t (beside (at order i) (at order (suc i)) ∷ []) []) ≤ 1
    one true = omega arith
    one false = omega arith

-- ---- the edges of the segments, one segment after the other

pub length-costed_of : (upper lower cost : List ℕ) → length (costed_of upper lower cost) ≡ length upper
unfolding costed_of
length-costed_of [] lower cost = refl
length-costed_of (u ∷ upper) lower cost = ap suc (length-costed_of upper (tail lower) (tail cost))

pub costed-at : (upper lower cost : List ℕ) (k : ℕ) → k < length upper
    → get_or (costed_of upper lower cost) k no_costed ≡ record { upper = at upper k; lower = at lower k; cost = at cost k }
unfolding costed_of
costed-at [] lower cost k h = absurd (not-suc-le-zero h)
costed-at (u ∷ upper) lower cost zero h = refl
costed-at (u ∷ upper) lower cost (suc k) h = rw (costed-at upper (tail lower) (tail cost) k (le_of_suc-le-suc h)) (simp at_tail)

pulls-snoc : (a : ℕ) (ps : List Costed) (s : Costed)
    → pull_edges a (ps ++ s ∷ []) ≡ pull_edges a ps ++ pull (a + length ps) s.upper s.cost ∷ pull (a + length ps) s.lower s.cost ∷ []
unfolding pull_edges
pulls-snoc a [] s = rw (add-zero a)
pulls-snoc a (p ∷ ps) s =
    ap (λ (l : List Edge). pull a p.upper p.cost ∷ pull a p.lower p.cost ∷ l)
    (pulls-snoc (suc a) ps s ∙ ap (λ (k : ℕ). pull_edges (suc a) ps ++ pull k s.upper s.cost ∷ pull k s.lower s.cost ∷ []) shift)
  where
    shift : suc a + length ps ≡ a + suc (length ps)
    shift = omega arith

pub pulls-more : (a : ℕ) (upper lower cost : List ℕ) (k : ℕ) → k < length upper
    → pull_edges a (take (k + 1) (costed_of upper lower cost))
    ≡ pull_edges a (take k (costed_of upper lower cost)) ++ pull (a + k) (at upper k) (at cost k) ∷ pull (a + k) (at lower k) (at cost k) ∷ []
pulls-more a upper lower cost k h =
    let ps = costed_of upper lower cost in
    let l : k < length ps = omega (arith, length-costed_of upper lower cost) in
    rw (add-one k, take-suc ps k no_costed l, pulls-snoc a (take k ps) (get_or ps k no_costed), length-take-le k ps (omega arith), costed-at upper lower cost k h)

pub pulls-count : (a : ℕ) (ps : List Costed) → length (pull_edges a ps) ≡ 2 * length ps
unfolding pull_edges
pulls-count a [] = refl
pulls-count a (s ∷ ps) = omega (arith, pulls-count (suc a) ps)

-- ---- the two loops: edges are written one behind the other

-- the edges of the points before the rest are written
pub record Siding (row order rest : List ℕ) (size : ℕ) (before edges : List Edge) : Type 0 where
  pub pairs : size ≡ 2
  pub inside : length rest ≤ length order
  pub left : rest ≡ drop (length order - length rest) order
  pub some : length order - length rest ≤ length order - 1
  pub written : edges ≡ before ++ besides row order (length order - length rest)

module _ {row order : List ℕ} {before : List Edge} where
  pub siding-start : Siding row order order 2 before before
  unfolding besides
  siding-start =
      let none : length order - length order ≡ 0 = omega arith in
      record { pairs = refl; inside = omega arith; left = rw none; some = omega arith; written = rw none (sym (append-nil before)) }

  module _ {rest : List ℕ} {size : ℕ} {edges : List Edge} (s : Siding row order rest size before edges) where
    pub siding-room : (most : ℕ) → 2 ≤ length rest → length before + length order ≤ most → length edges < most
    siding-room most h room =
        let i = length order - length rest in
        rw s.written (omega (arith, length-append before (besides row order i), besides-few row order i))

    pub siding-end : length rest < size → edges ≡ before ++ besides row order (length order - 1)
    siding-end h =
        let e : length order - length rest ≡ length order - 1 = omega (arith, s.pairs, s.some) in
        rw e at s.written

    -- what a turn over the pairs reads: two points that follow each other, and what is left then
    module _ {rest' : List ℕ} (pair : List ℕ)
        (w : (length rest' + 1 ≡ length rest) × (rest' ≡ drop (length order - length rest') order) × (size ≤ length rest)
        × ((k d : ℕ) → k < size → get_or pair k d ≡ get_or order (length order - length rest + k) d)) where
      siding-first : at pair 0 ≡ at order (length order - length rest)
      siding-first = w.3 0 0 (omega (arith, s.pairs)) ∙ ap (λ (k : ℕ). at order k) (omega arith)

      siding-second : at pair 1 ≡ at order (length order - length rest + 1)
      siding-second = w.3 1 0 (omega (arith, s.pairs))

      -- the edge of a pair is written, where there is one
      pub siding-turn : {size' : ℕ} {edges' : List Edge} → size' ≡ size → edges' ≡ edges ++ beside_if row (at pair 0) (at pair 1) → Siding row order rest' size' before edges'
      siding-turn same e =
          let i = length order - length rest in
          let next : length order - length rest' ≡ i + 1 = omega (arith, s.inside, w.0, w.2, s.pairs) in
          record {
            pairs = same ∙ s.pairs;
            inside = omega (arith, s.inside, w.0);
            left = w.1;
            some = omega (arith, s.pairs, next, w.2);
            written =
                rw (next, besides-more row order i)
                (e ∙ ap (λ (l : List Edge). l ++ beside_if row (at pair 0) (at pair 1)) s.written ∙ append_assoc before (besides row order i) (beside_if row (at pair 0) (at pair 1))
                ∙ ap (λ (l : List Edge). before ++ (besides row order i ++ l)) (rw (siding-first, siding-second) refl));
          }

-- the edges of the first k segments are written
pub record Pulling (n : ℕ) (upper lower cost : List ℕ) (before : List Edge) (k : ℕ) (edges : List Edge) : Type 0 where
  pub some : k ≤ length upper
  pub written : edges ≡ before ++ pull_edges n (take k (costed_of upper lower cost))

module _ {n : ℕ} {upper lower cost : List ℕ} {before : List Edge} where
  pub pulling-start : Pulling n upper lower cost before 0 before
  unfolding pull_edges
  pulling-start = record { some = omega arith; written = sym (append-nil before) }

  module _ {k : ℕ} {edges : List Edge} (h : Pulling n upper lower cost before k edges) where
    pub pulling-count : length edges ≡ length before + 2 * k
    pulling-count =
        let ps = costed_of upper lower cost in
        omega (
          arith,
          ap length h.written,
          length-append before (pull_edges n (take k ps)),
          pulls-count n (take k ps),
          length-take-le k ps (omega (arith, h.some, length-costed_of upper lower cost)),
        )

    pub pulling-end : length upper ≤ k → edges ≡ before ++ pull_edges n (costed_of upper lower cost)
    pulling-end l = rw (take_all k (costed_of upper lower cost) (omega (arith, length-costed_of upper lower cost))) at h.written

    -- the two edges of one segment more
    pub pulling-turn : {k' i u l c : ℕ} {edges₁ edges₂ : List Edge} → k' ≡ k + 1 → (k < length upper) × (i ≡ k) × (u ≡ at upper k) × (l ≡ at lower k) × (c ≡ at cost k)
        → edges₁ ≡ edges ++ pull (n + i) u c ∷ [] → edges₂ ≡ edges₁ ++ pull (n + i) l c ∷ [] → Pulling n upper lower cost before k' edges₂
    pulling-turn {k'} {i} {u} {l} {c} {edges₁} {edges₂} next t e f =
        record {
          some = omega (arith, t.0, next);
          written =
              rw (next, pulls-more n upper lower cost k t.0)
              (f ∙ ap (λ (x : List Edge). x ++ pull (n + i) l c ∷ []) (e ∙ ap (λ (x : List Edge). x ++ pull (n + i) u c ∷ []) h.written)
              ∙ append_assoc (before ++ pull_edges n (take k (costed_of upper lower cost))) (pull (n + i) u c ∷ []) (pull (n + i) l c ∷ [])
              ∙ append_assoc before (pull_edges n (take k (costed_of upper lower cost))) (pull (n + i) u c ∷ pull (n + i) l c ∷ [])
              ∙ rw (t.1, t.2, t.3, t.4) refl);
        }
