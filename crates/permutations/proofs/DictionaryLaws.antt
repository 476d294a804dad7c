-- The orders that come one after the other from a rising row on are those of the listing by first points.
use mathlib.Core.Path.{◌≡◌, refl, sym, ap, ◌∙◌, subst}
use mathlib.Core.Logic.{◌⊎◌, inl, inr}
use mathlib.Core.List.{List, [], ◌∷◌, ◌++◌, reverse, reverse-cons, reverse-append, reverse-reverse, append-nil}
use Prim.Native.Nat.{ℕ, zero, suc, ◌≤◌, ◌<◌}
use native.Mathlib.Omega.{arith}
use lib.ListN.{length, take, length-append}
use lib.Seq.{append_snoc, get_or-append_seam, set-append_seam}
use Rattle.graph.specs.Search.{run}
use Rattle.buffers.specs.Lists.{occurs}
use Rattle.buffers.proofs.OccursLaws.{occurs-append}
use Rattle.permutations.specs.Orders.{Pick, behind, beginning, arranged_in, arrangements}
use Rattle.permutations.specs.Next.{last, to, above, next_order, following, orders}
use Rattle.permutations.proofs.PointLaws.{one_same, occurs-none, occurs-cons, occurs-reverse}
use Rattle.permutations.proofs.NextLaws.{Least, in-cons}
use Rattle.permutations.proofs.PlaceLaws.{above-less, above-else, above-nil, last-nil, last_cons}
use Rattle.permutations.proofs.AdvanceLaws.{next-front, next-exchanged}
use Rattle.permutations.proofs.ArrangedLaws.{blocks, past, started, blocks-one, blocks-cons}

-- ---- orders each of which is the next one of that before it

-- from the first order, through all of the listing, to the last
data Chain : List ℕ → List (List ℕ) → List ℕ → Type 0 where
  single : {p : List ℕ} → Chain p (p ∷ []) p
  link : {p q z : List ℕ} {ps : List (List ℕ)} → next_order p ≡ to q → Chain q ps z → Chain p (p ∷ ps) z

-- a point more in front of each
chain-front : {a z : List ℕ} {ps : List (List ℕ)} (x : ℕ) → Chain a ps z → Chain (x ∷ a) (beginning x ps) (x ∷ z)
chain-front x single = single
chain-front x (link {p} {q} e c) = link (next-front (x ∷ []) p q e) (chain-front x c)

chain-join : {a z b y : List ℕ} {ps qs : List (List ℕ)} → Chain a ps z → next_order z ≡ to b → Chain b qs y → Chain a (ps ++ qs) y
chain-join single e d = link e d
chain-join (link f c) e d = link f (chain-join c e d)

-- the walk from order to order meets those of a chain
chain-orders : {a z : List ℕ} {ps : List (List ℕ)} (tries : ℕ) → Chain a ps z → next_order z ≡ last → orders tries a ≡ take (suc tries) ps
unfolding orders following
chain-orders zero single e = refl
chain-orders (suc tries) single e = rw e
chain-orders zero (link f c) e = refl
chain-orders (suc tries) (link {p} f c) e = rw f (ap (λ (l : List (List ℕ)). p ∷ l) (chain-orders tries c e))

-- ---- rows whose points rise strictly

data Strict : List ℕ → Type 0 where
  empty : Strict []
  climbs : {x : ℕ} {l : List ℕ} → Least (suc x) l → Strict l → Strict (x ∷ l)

run-strict : (a k : ℕ) → Strict (run a k)
unfolding run
run-strict a zero = empty
run-strict a (suc k) = climbs (from (suc a) k) (run-strict (suc a) k)
  where
    from : (b j : ℕ) → Least b (run b j)
    from b zero = record { least = λ v g. absurd (omega (arith, occurs-none v)) }
    from b (suc j) = record { least = λ v g. go v (in-cons v b (run (suc b) j) g) ((from (suc b) j).least v) }
      where
        go : (v : ℕ) → (v ≡ b) ⊎ (0 < occurs v (run (suc b) j)) → (0 < occurs v (run (suc b) j) → suc b ≤ v) → b ≤ v
        go v (inl e) rest = omega arith
        go v (inr g) rest = omega (arith, rest g)

-- the points left of x are smaller, those right of it are larger, and without it the others rise too
strict-left : (a : List ℕ) (x : ℕ) (b : List ℕ) → Strict (a ++ x ∷ b) → (v : ℕ) → 0 < occurs v a → v < x
strict-left [] x b s v g = absurd (omega (arith, occurs-none v))
strict-left (c ∷ a) x b (climbs h s) v g = go (in-cons v c a g) (strict-left a x b s v)
  where
    go : (v ≡ c) ⊎ (0 < occurs v a) → (0 < occurs v a → v < x) → v < x
    go (inl e) rest = omega (arith, h.least x (omega (arith, occurs-append x a (x ∷ b), occurs-cons x x b, one_same x)))
    go (inr i) rest = rest i

strict-right : (a : List ℕ) (x : ℕ) (b : List ℕ) → Strict (a ++ x ∷ b) → (v : ℕ) → 0 < occurs v b → x < v
strict-right [] x b (climbs h s) v g = h.least v g
strict-right (c ∷ a) x b (climbs h s) v g = strict-right a x b s v g

strict-others : (a : List ℕ) (x : ℕ) (b : List ℕ) → Strict (a ++ x ∷ b) → Strict (a ++ b)
strict-others [] x b (climbs h s) = s
strict-others (c ∷ a) x b (climbs h s) = climbs (record { least = low }) (strict-others a x b s)
  where
    low : (v : ℕ) → 0 < occurs v (a ++ b) → c < v
    low v g = h.least v (omega (arith, occurs-append v a b, occurs-append v a (x ∷ b), occurs-cons v x b))

-- ---- from the last order that begins with one point to the first that begins with the next

above-none : (x : ℕ) (l : List ℕ) → ((v : ℕ) → 0 < occurs v l → v ≤ x) → above x l ≡ 0
above-none x [] h = above-nil x
above-none x (y ∷ l) h = above-else x y l (h y (omega (arith, occurs-cons y y l, one_same y)))

above-run : (x y : ℕ) (b a : List ℕ) → ((v : ℕ) → 0 < occurs v b → x < v) → x < y → above x a ≡ 0 → above x (b ++ y ∷ a) ≡ suc (length b)
above-run x y [] a h g e = above-less x y a g ∙ ap suc e
above-run x y (z ∷ b) a h g e =
    above-less x z (b ++ y ∷ a) (h z (omega (arith, occurs-cons z z b, one_same z)))
    ∙ ap suc (above-run x y b a (λ v i. h v (omega (arith, occurs-cons v z b))) g e)

turned : (a : List ℕ) (x : ℕ) (b : List ℕ) → reverse (a ++ x ∷ b) ≡ reverse b ++ x ∷ reverse a
turned a x b = reverse-append a (x ∷ b) ∙ rw (reverse-cons x b) (append_snoc (reverse b) x (reverse a))

-- x in front of falling points, of which the larger ones come first and end with y
exchange-seam : (x y : ℕ) (b a : List ℕ) → next_order (b ++ y ∷ a) ≡ last → above x (b ++ y ∷ a) ≡ suc (length b)
    → next_order (x ∷ (b ++ y ∷ a)) ≡ to (y ∷ reverse (b ++ x ∷ a))
exchange-seam x y b a e k = rw (get_or-append_seam b y a 0, set-append_seam b y a x) at (next-exchanged x (b ++ y ∷ a) (length b) e k)

-- In the last order that begins with x the larger points stand right behind it, and the smallest of them, y, at their end. It takes the
-- place of x, and turned round the others are in their first order.
next-first : (a : List ℕ) (x y : ℕ) (b : List ℕ) → Strict (a ++ x ∷ y ∷ b) → next_order (reverse (a ++ y ∷ b)) ≡ last
    → next_order (x ∷ reverse (a ++ y ∷ b)) ≡ to (y ∷ (a ++ x ∷ b))
next-first a x y b s e =
    let larger : (v : ℕ) → 0 < occurs v (reverse b) → x < v = λ v g. strict-right a x (y ∷ b) s v (omega (arith, occurs-reverse v b, occurs-cons v y b)) in
    let smaller : (v : ℕ) → 0 < occurs v (reverse a) → v ≤ x = λ v g. omega (arith, strict-left a x (y ∷ b) s v (omega (arith, occurs-reverse v a))) in
    let next : x < y = strict-right a x (y ∷ b) s y (omega (arith, occurs-cons y y b, one_same y)) in
    let w : next_order (reverse b ++ y ∷ reverse a) ≡ last = rw (turned a y b) at e in
    rw (turned a y b, ← reverse-reverse (a ++ x ∷ b), turned a x b)
    (exchange-seam x y (reverse b) (reverse a) w (above-run x y (reverse b) (reverse a) larger next (above-none x (reverse a) smaller)))

-- ---- the listing of a rising row

-- a chain of orders that ends with the row turned round, after which none comes
record Listing (first : List ℕ) (all : List (List ℕ)) (row : List ℕ) : Type 0 where
  chain : Chain first all (reverse row)
  ended : next_order (reverse row) ≡ last

chain_same : {a b z y : List ℕ} {ps qs : List (List ℕ)} → a ≡ b → ps ≡ qs → z ≡ y → Chain a ps z → Chain b qs y
chain_same e f g c = rw (← e, ← f, ← g) c

-- One point more than n. The points a stand left of x and b right of it: of the orders that begin with x or with one of b those that begin
-- with x come first, and their last is followed by the first of those that begin with the point right of x.
module _ (n : ℕ) (every : (l : List ℕ) → length l ≡ n → Strict l → Listing l (arranged_in n l) l) where
  from-pick : (b a : List ℕ) (x : ℕ) (row : List ℕ) → row ≡ a ++ x ∷ b → Strict row → length (a ++ b) ≡ n
      → (make : Pick → List (List ℕ)) → ((p : Pick) → make p ≡ beginning p.point (arranged_in n (a ++ p.others)))
      → Listing (x ∷ (a ++ b)) (blocks make (x ∷ b)) row
  from-pick [] a x row e s k make h =
      let t : Strict (a ++ x ∷ []) = subst Strict e s in
      let all : Listing (a ++ []) (arranged_in n (a ++ [])) (a ++ []) = every (a ++ []) k (strict-others a x [] t) in
      let z : x ∷ reverse (a ++ []) ≡ reverse row = sym (ap reverse e ∙ turned a x [] ∙ ap (λ (l : List ℕ). x ∷ reverse l) (sym (append-nil a))) in
      let smaller : (v : ℕ) → 0 < occurs v (reverse (a ++ [])) → v ≤ x =
      λ v i. omega (arith, strict-left a x [] t v (omega (arith, occurs-reverse v (a ++ []), occurs-append v a [], occurs-none v))) in
      record {
        chain = chain_same refl (sym (blocks-one make x ∙ h (record { point = x; others = [] }))) z (chain-front x all.chain);
        ended = subst (λ (l : List ℕ). next_order l ≡ last) z (last_cons x (reverse (a ++ [])) all.ended (above-none x (reverse (a ++ [])) smaller));
      }
  from-pick (y ∷ b) a x row e s k make h =
      let t : Strict (a ++ x ∷ y ∷ b) = subst Strict e s in
      let all : Listing (a ++ y ∷ b) (arranged_in n (a ++ y ∷ b)) (a ++ y ∷ b) = every (a ++ y ∷ b) k (strict-others a x (y ∷ b) t) in
      let f : (l : List ℕ) → a ++ x ∷ l ≡ (a ++ x ∷ []) ++ l = λ l. sym (append_snoc a x l) in
      let j : length ((a ++ x ∷ []) ++ b) ≡ n = rw (← f b) (omega (arith, k, length-append a (y ∷ b), length-append a (x ∷ b))) in
      let rest : Listing (y ∷ ((a ++ x ∷ []) ++ b)) (blocks (past x make) (y ∷ b)) row =
      from-pick b (a ++ x ∷ []) y row (e ∙ f (y ∷ b)) s j (past x make)
      (λ p. h (behind x p) ∙ ap (λ (l : List ℕ). beginning p.point (arranged_in n l)) (f p.others)) in
      let ps : blocks make (x ∷ y ∷ b) ≡ beginning x (arranged_in n (a ++ y ∷ b)) ++ blocks (past x make) (y ∷ b) =
      blocks-cons make x (y ∷ b) ∙ ap (λ (l : List (List ℕ)). l ++ blocks (past x make) (y ∷ b)) (h (record { point = x; others = y ∷ b })) in
      let later : Chain (y ∷ (a ++ x ∷ b)) (blocks (past x make) (y ∷ b)) (reverse row) =
      chain_same (ap (λ (l : List ℕ). y ∷ l) (sym (f b))) refl refl rest.chain in
      record {
        chain = chain_same refl (sym ps) refl (chain-join (chain-front x all.chain) (next-first a x y b t all.ended) later);
        ended = rest.ended;
      }

-- a rising row's arrangements are a chain from the row to the row turned round
listed : (n : ℕ) (row : List ℕ) → length row ≡ n → Strict row → Listing row (arranged_in n row) row
unfolding arranged_in
listed zero [] e s = record { chain = single; ended = last-nil }
listed zero (x ∷ row) e s = absurd (omega arith)
listed (suc n) [] e s = absurd (omega arith)
listed (suc n) (x ∷ row) e s =
    from-pick n (listed n) row [] x (x ∷ row) refl s (omega arith) (started n) (λ p. refl)

-- The orders that are looked at one after the other are the first ones of the listing.
pub arranged-orders : (tries k : ℕ) → orders tries (run 0 k) ≡ take (suc tries) (arrangements (run 0 k))
arranged-orders tries k =
    let all : Listing (run 0 k) (arrangements (run 0 k)) (run 0 k) = listed (length (run 0 k)) (run 0 k) refl (run-strict 0 k) in
    chain-orders tries all.chain all.ended
