-- Nothing is counted behind position `last`: what ends right of another position is found up to there.
use mathlib.Core.Path.{◌≡◌, ap}
use mathlib.Core.List.{List}
use Prim.Native.Nat.{ℕ, suc, ◌+◌, ◌*◌, ◌-◌, ◌/◌, min, max, ◌≤◌, ◌<◌}
use native.Mathlib.Omega.{arith}
use lib.ListN.{length, take, drop, set, replicate, length-set}
use lib.Seq.{get_or-set_other}
use Rattle.std.specs.List.{sum}
use Rattle.graph.specs.Rows.{at}
use Rattle.buffers.proofs.ListLaws.{zero-at}
use Rattle.crossings.specs.Tally.{range, all_counted, right_of, block_size, Blocked, NoneBehind}
use Rattle.crossings.proofs.TallyLaws.{range_split, range-sum, range-past, range-cut, right-most, blocks-hold}

-- nothing counted yet
pub behind-zero : (n : ℕ) → NoneBehind (replicate n 0) 0
behind-zero n = record { within = omega arith; none = λ i h. zero-at n i }

-- one more at a position: the further of both is the furthest
pub behind-raised : {counts : List ℕ} {last l far : ℕ} → NoneBehind counts last → l < length counts → far ≡ max last l → (v : ℕ) → NoneBehind (set counts l v) far
behind-raised {counts} {last} {l} {far} n g e v = record {
  within = omega (arith, n.within, length-set counts l v);
  none = λ i h. omega (arith, get_or-set_other counts l i v 0 (λ q. absurd (omega arith)), n.none i (omega arith));
}

module _ {counts : List ℕ} {last : ℕ} (n : NoneBehind counts last) where
  -- all is 0 from there on
  from : (i : ℕ) → last + 1 ≤ i → at counts i ≡ 0
  from i h = n.none i (omega arith)

  -- nothing is right of a position that is as far
  pub right-behind : {l : ℕ} → last ≤ l → right_of counts l ≡ 0
  unfolding right_of
  right-behind {l} h = range-past counts (last + 1) from (suc l) (length counts - suc l) (omega arith)

  module _ {l : ℕ} (g : l < last) where
    pub last-inside : last < length counts
    last-inside = omega (arith, n.within)

    -- What is right of l may be taken up to any end behind `last`.
    right-upto : (e : ℕ) → last < e → range counts (l + 1) (e - (l + 1)) ≡ right_of counts l
    unfolding right_of
    right-upto e h =
        let one : suc l ≡ l + 1 = omega arith in
        omega (
          arith,
          ap (λ (x : ℕ). range counts x (length counts - x)) one,
          range-cut counts (last + 1) from (l + 1) (length counts) (last + 1) (omega arith) (omega (arith, last-inside)),
          range-cut counts (last + 1) from (l + 1) e (last + 1) (omega arith) (omega arith),
        )

    module _ {blocks : List ℕ} (h : Blocked counts blocks) where
      pub last_block : last / block_size < length blocks
      last_block = omega (arith, last-inside, h.long)

      -- It is the rest of l's block b, and the blocks after it before block c, where those counted in end.
      parts-right : (b c : ℕ) → l < b * block_size + block_size → b < c → last < block_size * c → c ≤ length blocks
          → range counts (l + 1) (b * block_size + block_size - (l + 1)) + range blocks (b + 1) (c - (b + 1)) ≡ right_of counts l
      parts-right b c near before behind in_blocks =
          let all : block_size * c - (l + 1) ≡ (b * block_size + block_size - (l + 1)) + block_size * (c - (b + 1)) = omega arith in
          let on : l + 1 + (b * block_size + block_size - (l + 1)) ≡ block_size * (b + 1) = omega arith in
          omega (
            arith,
            right-upto (block_size * c) behind,
            ap (λ (x : ℕ). range counts (l + 1) x) all,
            range_split counts (l + 1) (b * block_size + block_size - (l + 1)) (block_size * (c - (b + 1))),
            ap (λ (x : ℕ). range counts x (block_size * (c - (b + 1)))) on,
            blocks-hold h (b + 1) (c - (b + 1)) (omega arith),
          )

      -- the block of l and that of `last`; the rest of the block is taken no further than `last`
      module _ {end : ℕ} (e : end ≡ min (l / block_size * block_size + block_size) (last + 1)) where
        pub near-far : sum (take (end - (l + 1)) (drop (l + 1) counts)) + sum (take (last / block_size + 1 - (l / block_size + 1)) (drop (l / block_size + 1) blocks)) ≡ right_of counts l
        near-far =
            omega (
              arith,
              range-sum counts (l + 1) (end - (l + 1)) (omega (arith, last-inside)),
              range-sum blocks (l / block_size + 1) (last / block_size + 1 - (l / block_size + 1)) (omega (arith, last_block)),
              range-cut counts (last + 1) from (l + 1) (l / block_size * block_size + block_size) end (omega arith) e,
              parts-right (l / block_size) (last / block_size + 1) (omega arith) (omega arith) (omega arith) (omega (arith, last_block)),
            )

        -- so each of the two parts is at most the whole
        pub parts-most : sum (take (end - (l + 1)) (drop (l + 1) counts)) + sum (take (last / block_size + 1 - (l / block_size + 1)) (drop (l / block_size + 1) blocks)) ≤ all_counted counts
        parts-most = omega (arith, near-far, right-most counts l)
