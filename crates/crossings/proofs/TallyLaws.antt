-- Sums of parts of a list, and counts by block.
use mathlib.Core.Path.{◌≡◌, refl, sym, ap, ◌∙◌}
use mathlib.Core.Bool.{Bool, true, false, cond}
use mathlib.Core.List.{List}
use Prim.Native.Nat.{ℕ, zero, suc, ◌+◌, ◌*◌, ◌-◌, ◌/◌, min, ◌≤◌, ◌<◌}
use native.Mathlib.Decide.{ℕ_discrete, dec_lt}
use native.Mathlib.Nat.{zero-add, add-zero}
use native.Mathlib.Omega.{arith}
use borrow.Author.Tests.{ltb-true, ltb-false}
use lib.Dec.{ltb}
use lib.ListN.{length, take, drop, set, replicate, length-replicate, length-set, get_or-eq_default}
use lib.Seq.{drop-cons, get_or-set_same, get_or-set_other}
use Rattle.std.specs.List.{sum}
use Rattle.std.proofs.lemmas.List.Sums.{sum_by-cons}
use Rattle.graph.specs.Rows.{at}
use Rattle.buffers.proofs.ListLaws.{zero-at}
use Rattle.crossings.specs.Tally.{range, all_counted, right_of, block_size, Blocked}

-- ---- sums of parts

pub range_split : (s : List ℕ) (a m n : ℕ) → range s a (m + n) ≡ range s a m + range s (a + m) n
unfolding range
range_split s a zero n = simp (zero-add, add-zero)
range_split s a (suc m) n =
    let one : suc m + n ≡ suc (m + n) = omega arith in
    let two : suc a + m ≡ a + suc m = omega arith in
    omega (arith, ap (λ (x : ℕ). range s a x) one, range_split s (suc a) m n, ap (λ (x : ℕ). range s x n) two)

range_none : (s : List ℕ) (a : ℕ) → range s a 0 ≡ 0
unfolding range
range_none s a = refl

-- where all is 0 from w on
module _ (s : List ℕ) (w : ℕ) (none : (i : ℕ) → w ≤ i → at s i ≡ 0) where
  pub range-past : (a n : ℕ) → w ≤ a → range s a n ≡ 0
  unfolding range
  range-past a zero h = refl
  range-past a (suc n) h = omega (arith, none a h, range-past (suc a) n (omega arith))

  -- a part may be cut off there
  pub range-cut : (a e m : ℕ) → a ≤ w → m ≡ min e w → range s a (m - a) ≡ range s a (e - a)
  range-cut a e m h q = go (dec_lt w e)
    where
      go : Dec (w < e) → range s a (m - a) ≡ range s a (e - a)
      go (no d) = let k : m ≡ e = omega arith in ap (λ (x : ℕ). range s a (x - a)) k
      go (yes l) =
          let k : m ≡ w = omega arith in
          let parts : e - a ≡ (m - a) + (e - m) = omega arith in
          let seam : a + (m - a) ≡ m = omega arith in
          omega (
            arith,
            ap (λ (x : ℕ). range s a x) parts,
            range_split s a (m - a) (e - m),
            ap (λ (x : ℕ). range s x (e - m)) seam,
            range-past m (e - m) (omega arith),
          )

-- as it is past the end
past_end : (s : List ℕ) (i : ℕ) → length s ≤ i → at s i ≡ 0
past_end s i h = get_or-eq_default s 0 {n = i} h

inside-most : (s : List ℕ) (a n : ℕ) → a + n ≤ length s → range s a n ≤ all_counted s
inside-most s a n h =
    let e : a + (n + (length s - (a + n))) ≡ length s = omega arith in
    let z : 0 + a ≡ a = omega arith in
    omega (
      arith,
      ap (λ (x : ℕ). range s 0 x) (sym e),
      range_split s 0 a (n + (length s - (a + n))),
      ap (λ (x : ℕ). range s x (n + (length s - (a + n)))) z,
      range_split s a n (length s - (a + n)),
    )

-- a part is at most the whole
part-most : (s : List ℕ) (a n : ℕ) → range s a n ≤ all_counted s
part-most s a n = go (dec_lt a (length s))
  where
    go : Dec (a < length s) → range s a n ≤ all_counted s
    go (no d) = omega (arith, range-past s (length s) (past_end s) a n (omega arith))
    go (yes h) =
        let k : a + n - a ≡ n = omega arith in
        omega (
          arith,
          range-cut s (length s) (past_end s) a (a + n) (min (a + n) (length s)) (omega arith) refl,
          ap (λ (x : ℕ). range s a x) k,
          inside-most s a (min (a + n) (length s) - a) (omega arith),
        )

range-one : (s : List ℕ) (a : ℕ) → range s a 1 ≡ at s a
unfolding range
range-one s a = omega arith

pub entry-most : (s : List ℕ) (a : ℕ) → at s a ≤ all_counted s
entry-most s a = omega (arith, part-most s a 1, range-one s a)

-- a part of a list, added up
pub range-sum : (s : List ℕ) (a n : ℕ) → a + n ≤ length s → range s a n ≡ sum (take n (drop a s))
unfolding range
range-sum s a zero h = refl
range-sum s a (suc n) h =
    let on : sum (take n (drop (suc a) s)) ≡ range s (suc a) n = sym (range-sum s (suc a) n (omega arith)) in
    rw (drop-cons s a 0 (omega arith)) (omega (arith, on, sum_by-cons (λ (x : ℕ). x) (at s a) (take n (drop (suc a) s))))

-- ---- blocks

module _ {counts blocks : List ℕ} (h : Blocked counts blocks) where
  -- n blocks from b on hold what their positions hold
  pub blocks-hold : (b n : ℕ) → b + n ≤ length blocks → range blocks b n ≡ range counts (block_size * b) (block_size * n)
  unfolding range
  blocks-hold b zero l = refl
  blocks-hold b (suc n) l =
      let more : block_size * suc n ≡ block_size + block_size * n = omega arith in
      let on : block_size * b + block_size ≡ block_size * suc b = omega arith in
      omega (
        arith,
        h.each b (omega arith),
        blocks-hold (suc b) n (omega arith),
        ap (λ (x : ℕ). range counts (block_size * b) x) more,
        range_split counts (block_size * b) block_size (block_size * n),
        ap (λ (x : ℕ). range counts x (block_size * n)) on,
      )

  -- the block of position l
  pub block_in : (l : ℕ) → l < length counts → l / block_size < length blocks
  block_in l g = omega (arith, h.long)

  pub block-most : (b : ℕ) → b < length blocks → at blocks b ≤ all_counted counts
  block-most b i = omega (arith, h.each b i, part-most counts (block_size * b) block_size)

-- how many end right of a position is at most how many there are
pub right-most : (counts : List ℕ) (l : ℕ) → right_of counts l ≤ all_counted counts
unfolding right_of
right-most counts l = part-most counts (suc l) (length counts - suc l)

-- and none do right of a single position
pub right-narrow : (counts : List ℕ) → length counts < 2 → (l : ℕ) → right_of counts l ≡ 0
unfolding right_of
right-narrow counts h l = let e : length counts - suc l ≡ 0 = omega arith in ap (λ (x : ℕ). range counts (suc l) x) e ∙ range_none counts (suc l)

-- ---- one more at a position

-- a part without the position stays as it is
range-apart : (s : List ℕ) (l v a n : ℕ) → ((x : ℕ) → a ≤ x → x < a + n → x ≡ l → ⊥) → range (set s l v) a n ≡ range s a n
unfolding range
range-apart s l v a zero d = refl
range-apart s l v a (suc n) d =
    omega (arith, get_or-set_other s l a v 0 (d a (omega arith) (omega arith)), range-apart s l v (suc a) n (λ x b c. d x (omega arith) (omega arith)))

-- and one with it holds one more
range-raised : (s : List ℕ) (l a n : ℕ) → l < length s → a ≤ l → l < a + n → range (set s l (at s l + 1)) a n ≡ 1 + range s a n
unfolding range
range-raised s l a zero h b c = absurd (omega arith)
range-raised s l a (suc n) h b c = go (λ d. range-raised s l (suc a) n h (omega arith) (omega arith)) (ℕ_discrete a l)
  where
    go : ((a ≡ l → ⊥) → range (set s l (at s l + 1)) (suc a) n ≡ 1 + range s (suc a) n) → Dec (a ≡ l)
        → at (set s l (at s l + 1)) a + range (set s l (at s l + 1)) (suc a) n ≡ 1 + (at s a + range s (suc a) n)
    go on (yes e) =
        omega (
          arith,
          ap (at (set s l (at s l + 1))) e,
          ap (at s) e,
          get_or-set_same s l (at s l + 1) 0 h,
          range-apart s l (at s l + 1) (suc a) n (λ x p q r. absurd (omega arith)),
        )
    go on (no d) = omega (arith, get_or-set_other s l a (at s l + 1) 0 d, on d)

pub whole-raised : (s : List ℕ) (l : ℕ) → l < length s → all_counted (set s l (at s l + 1)) ≡ 1 + all_counted s
whole-raised s l h = ap (range (set s l (at s l + 1)) 0) (length-set s l (at s l + 1)) ∙ range-raised s l 0 (length s) h (omega arith) (omega arith)

-- right of x there is one more where the position is right of x
pub right-raised : (s : List ℕ) (l x : ℕ) → l < length s → right_of (set s l (at s l + 1)) x ≡ cond (ltb x l) 1 0 + right_of s x
unfolding right_of
right-raised s l x h = go (ltb x l) refl
  where
    go : (b : Bool) → ltb x l ≡ b → range (set s l (at s l + 1)) (suc x) (length (set s l (at s l + 1)) - suc x) ≡ cond b 1 0 + range s (suc x) (length s - suc x)
    go true e =
        ap (λ (m : ℕ). range (set s l (at s l + 1)) (suc x) (m - suc x)) (length-set s l (at s l + 1))
        ∙ range-raised s l (suc x) (length s - suc x) h (omega (arith, ltb-true x l e)) (omega (arith, ltb-true x l e))
    go false e =
        let q : range (set s l (at s l + 1)) (suc x) (length s - suc x) ≡ range s (suc x) (length s - suc x) =
        range-apart s l (at s l + 1) (suc x) (length s - suc x) (λ y p c r. absurd (omega (arith, ltb-false x l e))) in
        omega (arith, q, ap (λ (m : ℕ). range (set s l (at s l + 1)) (suc x) (m - suc x)) (length-set s l (at s l + 1)))

-- One more at a position and in its block: the block holds the position, and no other block does.
pub blocked-raised : {counts blocks : List ℕ} → Blocked counts blocks → (l : ℕ) → l < length counts
    → Blocked (set counts l (at counts l + 1)) (set blocks (l / block_size) (at blocks (l / block_size) + 1))
blocked-raised {counts} {blocks} h l g = record {
  long = omega (arith, h.long, length-set counts l (at counts l + 1), length-set blocks (l / block_size) (at blocks (l / block_size) + 1));
  each = λ b in_blocks. go b (omega (arith, length-set blocks (l / block_size) (at blocks (l / block_size) + 1))) (ℕ_discrete b (l / block_size));
}
  where
    go : (b : ℕ) → b < length blocks → Dec (b ≡ l / block_size)
        → at (set blocks (l / block_size) (at blocks (l / block_size) + 1)) b ≡ range (set counts l (at counts l + 1)) (block_size * b) block_size
    go b i (yes e) =
        omega (
          arith,
          ap (at (set blocks (l / block_size) (at blocks (l / block_size) + 1))) e,
          ap (at blocks) e,
          h.each b i,
          get_or-set_same blocks (l / block_size) (at blocks (l / block_size) + 1) 0 (block_in h l g),
          range-raised counts l (block_size * b) block_size g (omega arith) (omega arith),
        )
    go b i (no d) =
        omega (
          arith,
          h.each b i,
          get_or-set_other blocks (l / block_size) b (at blocks (l / block_size) + 1) 0 d,
          range-apart counts l (at counts l + 1) (block_size * b) block_size (λ x p q r. d (omega arith)),
        )

-- ---- nothing counted yet

pub range-zero : (n a m : ℕ) → range (replicate n 0) a m ≡ 0
unfolding range
range-zero n a zero = refl
range-zero n a (suc m) = omega (arith, zero-at n a, range-zero n (suc a) m)

pub right_zero : (n l : ℕ) → right_of (replicate n 0) l ≡ 0
unfolding right_of
right_zero n l = range-zero n (suc l) (length (replicate n 0) - suc l)

pub blocked-zero : (n m : ℕ) → n ≤ block_size * m → Blocked (replicate n 0) (replicate m 0)
blocked-zero n m e = record {
  long = simp (length-replicate {A = ℕ}) e;
  each = λ b i. zero-at m b ∙ sym (range-zero n (block_size * b) block_size);
}
