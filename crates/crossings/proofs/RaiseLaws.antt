-- The segments of a list counted in.
use mathlib.Core.Path.{◌≡◌, refl, sym, ap, ◌∙◌}
use mathlib.Core.List.{List, [], ◌∷◌}
use Prim.Native.Nat.{ℕ, ◌+◌, ◌-◌, ◌/◌, max, ◌≤◌, ◌<◌}
use native.Mathlib.Omega.{arith}
use lib.ListN.{length, set, length-set}
use Rattle.graph.specs.Rows.{at}
use Rattle.buffers.specs.Lists.{Below}
use Rattle.crossings.specs.Tally.{all_counted, raised, block_size, Blocked, NoneBehind}
use Rattle.crossings.specs.Between.{EndsPlaced, low_of, lows}
use Rattle.crossings.proofs.TallyLaws.{whole-raised, blocked-raised}
use Rattle.crossings.proofs.BehindLaws.{behind-raised}
use Rattle.crossings.proofs.CountListLaws.{below-first, below_rest, lows-more, lows-none, low_first, low-rest}

pub length-raised : (ls counts : List ℕ) → length (raised ls counts) ≡ length counts
unfolding raised
length-raised [] counts = refl
length-raised (l ∷ ls) counts = length-raised ls (set counts l (at counts l + 1)) ∙ length-set counts l (at counts l + 1)

-- as many more are counted as were counted in
pub all-raised : (n : ℕ) (ls : List ℕ) → Below n ls → (counts : List ℕ) → length counts ≡ n → all_counted (raised ls counts) ≡ length ls + all_counted counts
unfolding raised
all-raised n [] low counts e = omega arith
all-raised n (l ∷ ls) low counts e =
    omega (
      arith,
      all-raised n ls (below_rest low) (set counts l (at counts l + 1)) (length-set counts l (at counts l + 1) ∙ e),
      whole-raised counts l (omega (arith, below-first low)),
    )

raised-more : {l : ℕ} {ls ms : List ℕ} (counts : List ℕ) → ls ≡ l ∷ ms → raised ls counts ≡ raised ms (set counts l (at counts l + 1))
unfolding raised
raised-more counts e = ap (λ x. raised x counts) e

raised-none : {ls : List ℕ} (counts : List ℕ) → ls ≡ [] → raised ls counts ≡ counts
unfolding raised
raised-none counts e = ap (λ x. raised x counts) e

-- The loop: what is left to count in, counted in, gives the end; no more are counted than at the start and x more to come.
pub record Raising (lower pos next : List ℕ) (h : ℕ) (counts₀ blocks₀ counts blocks : List ℕ) (last x : ℕ) : Type 0 where
  pub within : x ≤ h
  pub low : Below (length counts₀) (lows lower pos next x)
  pub held : Blocked counts blocks
  pub behind : NoneBehind counts last
  pub kept : length counts ≡ length counts₀
  pub blocks_kept : length blocks ≡ length blocks₀
  pub small : all_counted counts + x ≤ all_counted counts₀ + h
  pub so_far : raised (lows lower pos next x) counts ≡ raised (lows lower pos next h) counts₀

pub raising-none : (lower pos next : List ℕ) (h : ℕ) {counts blocks : List ℕ} {last : ℕ} → Blocked counts blocks → NoneBehind counts last → Below (length counts) (lows lower pos next h)
    → Raising lower pos next h counts blocks counts blocks last h
raising-none lower pos next h b n low = record { within = omega arith; low = low; held = b; behind = n; kept = refl; blocks_kept = refl; small = omega arith; so_far = refl }

pub raising-in : {lower pos next counts₀ blocks₀ counts blocks : List ℕ} {h last x : ℕ} → h ≤ length next → Raising lower pos next h counts₀ blocks₀ counts blocks last x
    → 0 < x → x - 1 < length next
raising-in g c a = omega (arith, c.within)

module _ {lower pos next counts₀ blocks₀ counts blocks : List ℕ} {h last x : ℕ} (e : EndsPlaced lower pos next) (g : h ≤ length next)
    (c : Raising lower pos next h counts₀ blocks₀ counts blocks last x) where
  pub raising-low : 0 < x → low_of lower pos (x - 1) < length counts
  raising-low a = omega (arith, low_first e a (omega (arith, c.within)) c.low, c.kept)

  pub raising-more : 0 < x → {l far : ℕ} → l ≡ low_of lower pos (x - 1) → far ≡ max last l
      → Raising lower pos next h counts₀ blocks₀ (set counts l (at counts l + 1)) (set blocks (l / block_size) (at blocks (l / block_size) + 1)) far (at next (x - 1))
  raising-more a {l} q further =
      let in-counts : l < length counts = omega (arith, q, raising-low a) in
      let falls : at next (x - 1) ≤ x - 1 = e.falls.falls (x - 1) (omega (arith, c.within)) in
      record {
        within = omega (arith, c.within);
        low = low-rest e a (omega (arith, c.within)) c.low;
        held = blocked-raised c.held l in-counts;
        behind = behind-raised c.behind in-counts further (at counts l + 1);
        kept = length-set counts l (at counts l + 1) ∙ c.kept;
        blocks_kept = length-set blocks (l / block_size) (at blocks (l / block_size) + 1) ∙ c.blocks_kept;
        small = omega (arith, c.small, whole-raised counts l in-counts);
        so_far =
            ap (λ (y : ℕ). raised (lows lower pos next (at next (x - 1))) (set counts y (at counts y + 1))) q
            ∙ sym (raised-more counts (lows-more e x a (omega (arith, c.within))))
            ∙ c.so_far;
      }

  pub raising-end : x ≤ 0 → counts ≡ raised (lows lower pos next h) counts₀
  raising-end a =
      sym (raised-none {ls = lows lower pos next x} counts (lows-none lower pos next x a)) ∙ c.so_far
