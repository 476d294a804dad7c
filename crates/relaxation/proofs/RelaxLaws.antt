-- What relaxation keeps: each entry is a height, so none passes rows that are held; each store takes headroom away.
use mathlib.Core.Path.{◌≡◌, sym, ap, ◌∙◌, subst}
use mathlib.Core.List.{List, [], ◌∷◌, ◌++◌}
use Prim.Native.Nat.{ℕ, zero, suc, ◌+◌, ◌-◌, ◌≤◌, ◌<◌}
use native.Mathlib.Nat.{not-suc-le-zero, le_of_suc-le-suc, le_trans}
use native.Mathlib.Omega.{arith}
use lib.ListN.{length, get_or, set, drop, take, replicate, get_or-replicate, length-set, length-replicate, get_or-append, length-append, length-drop}
use lib.Seq.{drop-set-lt, drop_at, get_or-take, length-take-le}
use Rattle.graph.specs.Rows.{at}
use Rattle.relaxation.specs.Certificate.{Held, Height, ground, over, under, Relaxed}
use Rattle.buffers.specs.Written.{word_limit}
use Rattle.relaxation.specs.Network.{Shaped}
use Rattle.relaxation.specs.Relax.{Holder, Sums, Heights, headroom, Lifts, up, down}
use Rattle.buffers.proofs.ListLaws.{set_cases}

pub headroom-set : (top : ℕ) (l : List ℕ) (i v : ℕ) → i < length l → get_or l i 0 < v → v ≤ top → headroom top (set l i v) < headroom top l
unfolding headroom
headroom-set top [] i v h gt le = absurd (not-suc-le-zero h)
headroom-set top (x ∷ xs) zero v h gt le = omega arith
headroom-set top (x ∷ xs) (suc i) v h gt le = omega (arith, headroom-set top xs i v (le_of_suc-le-suc h) gt le)

-- No residual walk climbs above rows that are held: a step up is over a kept edge, a step down over a tight one.
pub height-le : (from to gap flow : List ℕ) (z : ℕ → ℕ) → Held from to gap flow z → {v h : ℕ} → Height from to gap flow v h → h ≤ z v
height-le from to gap flow z k ground = omega arith
height-le from to gap flow z k (over a b c) = omega (arith, height-le from to gap flow z k c, k.kept a b)
height-le from to gap flow z k (under a b u c) = omega (arith, height-le from to gap flow z k c, k.tight a b u)

-- A walk over edges that one flow uses is one where another flow uses them too.
pub height-more : (from to gap flow more : List ℕ) → ((a : ℕ) → 0 < at flow a → 0 < at more a) → {v h : ℕ} → Height from to gap flow v h
    → Height from to gap more v h
height-more from to gap flow more m ground = ground
height-more from to gap flow more m (over a b c) = over a b (height-more from to gap flow more m c)
height-more from to gap flow more m (under a b u c) = under a b (m a u) (height-more from to gap flow more m c)

pub heights-more : (from to gap flow more : List ℕ) (n : ℕ) (y : List ℕ) → ((a : ℕ) → 0 < at flow a → 0 < at more a)
    → Heights from to gap flow n y → Heights from to gap more n y
heights-more from to gap flow more n y m hs = record { each = λ v h. height-more from to gap flow more m (hs.each v h) }

-- Heights without any flow are heights with one.
pub heights-any : (from to gap flow : List ℕ) (n : ℕ) (y : List ℕ) → Heights from to gap [] n y → Heights from to gap flow n y
heights-any from to gap flow n y hs = heights-more from to gap [] flow n y (λ a u. absurd (not-suc-le-zero u)) hs

module _ (from to gap flow : List ℕ) (n : ℕ) where
  module _ (top : ℕ) (shape : Shaped from to gap n) (hold : Holder from to gap flow n top) (y : List ℕ) (fits : n ≤ length y)
      (hs : Heights from to gap flow n y) where
    pub below : (v : ℕ) → v < n → at y v ≤ hold.rows v
    below v h = height-le from to gap flow hold.rows hold.held (hs.each v h)

    pub sums : top < word_limit → Sums from gap y
    sums t = record { fits = λ a h. omega (arith, below (at from a) (shape.from_in a h), hold.held.kept a h, hold.low (at to a) (shape.to_in a h)) }

    module _ (a : ℕ) (h : a < length from) (y' : List ℕ) where
      pub lift-heights : Lifts from to gap flow y a y' → Heights from to gap flow n y'
      lift-heights (up s e) = rw e (record {
        each = λ v b. set_cases (λ (k : ℕ). Height from to gap flow v k) y (at to a) _ v (le_trans (shape.to_in a h) fits)
            (λ q. subst (λ (w : ℕ). Height from to gap flow w (at y (at from a) + at gap a)) q (over a h (hs.each (at from a)
            (shape.from_in a h)))) (λ _. hs.each v b);
      })
      lift-heights (down u s e) = rw e (record {
        each = λ v b. set_cases (λ (k : ℕ). Height from to gap flow v k) y (at from a) _ v (le_trans (shape.from_in a h) fits)
            (λ q. subst (λ (w : ℕ). Height from to gap flow w (at y (at to a) - at gap a)) q (under a h u (hs.each (at to a) (shape.to_in a h)))) (λ _. hs.each v b);
      })

      pub lift-long : Lifts from to gap flow y a y' → length y' ≡ length y
      lift-long (up s e) = rw e (length-set y _ _)
      lift-long (down u s e) = rw e (length-set y _ _)

      pub lift-rest : Lifts from to gap flow y a y' → drop n y' ≡ drop n y
      lift-rest (up s e) = rw e (drop-set-lt n y (at to a) _ (shape.to_in a h))
      lift-rest (down u s e) = rw e (drop-set-lt n y (at from a) _ (shape.from_in a h))

      pub lift-less : Lifts from to gap flow y a y' → headroom top y' < headroom top y
      lift-less (up s e) = rw e (headroom-set top y (at to a) _ (le_trans (shape.to_in a h) fits) s
          (omega (arith, below (at from a) (shape.from_in a h), hold.held.kept a h, hold.low (at to a) (shape.to_in a h))))
      lift-less (down u s e) = rw e (headroom-set top y (at from a) _ (le_trans (shape.from_in a h) fits) (omega arith)
          (omega (arith, below (at to a) (shape.to_in a h), hold.held.tight a h u, hold.low (at from a) (shape.from_in a h))))

-- Rows whose first n entries are 0, or those of rows that are heights already, are heights to relax on from.
pub heights-cleared : (from to gap flow : List ℕ) (n : ℕ) (old mid : List ℕ) → mid ≡ replicate n 0 ++ drop n old → Heights from to gap flow n mid
heights-cleared from to gap flow n old mid e =
    rw e (record { each = λ v h. subst (λ (k : ℕ). Height from to gap flow v k) (sym (zero-at v h)) ground })
  where
    zero-at : (v : ℕ) → v < n → at (replicate n 0 ++ drop n old) v ≡ 0
    zero-at v h = get_or-append (replicate n 0) (drop n old) 0 v (omega (arith, length-replicate {A = ℕ} n 0)) ∙ get_or-replicate {A = ℕ} n v 0 0 h

pub heights-copied : (from to gap flow : List ℕ) (n : ℕ) (lowest old mid : List ℕ) → n ≤ length lowest → mid ≡ take n lowest ++ drop n old
    → Heights from to gap [] n lowest → Heights from to gap flow n mid
heights-copied from to gap flow n lowest old mid k e hs =
    rw e (record {
      each = λ v h. subst (λ (x : ℕ). Height from to gap flow v x) (sym (same v h)) ((heights-any from to gap flow n lowest hs).each v h);
    })
  where
    same : (v : ℕ) → v < n → at (take n lowest ++ drop n old) v ≡ at lowest v
    same v h = get_or-append (take n lowest) (drop n old) 0 v (omega (arith, length-take-le n lowest k)) ∙ get_or-take n lowest v 0 h

-- The first n entries written as a slice of their own.
module _ (n : ℕ) (front old : List ℕ) (fits : n ≤ length old) where
  pub front-cleared : front ≡ replicate (length (take n old)) 0 → front ++ drop n old ≡ replicate n 0 ++ drop n old
  front-cleared e = ap (λ (l : List ℕ). l ++ drop n old) (e ∙ ap (λ (k : ℕ). replicate k 0) (length-take-le n old fits))

  pub relaxed-front : (from to gap flow y : List ℕ) → length front ≡ length (take n old) → Relaxed from to gap flow n (front ++ drop n old) y
      → Relaxed from to gap flow n old y
  relaxed-front from to gap flow y e r =
      record {
        long = r.long ∙ length-append front (drop n old) ∙ omega (arith, long, length-drop n old);
        held = r.held;
        heights = r.heights;
        rest = r.rest ∙ drop_at front (drop n old) n long;
      }
    where
      long : length front ≡ n
      long = e ∙ length-take-le n old fits
