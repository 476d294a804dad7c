-- What growing the marked set keeps: least slack, marks and raises.
use mathlib.Core.Path.{◌≡◌, refl, sym, ap, ◌∙◌, subst}
use mathlib.Core.List.{List, [], ◌∷◌}
use mathlib.Core.Logic.{◌⊎◌, inl, inr}
use Prim.Native.Nat.{ℕ, zero, suc, ◌+◌, ◌*◌, ◌-◌, ◌≤◌, ◌<◌, max, min}
use native.Mathlib.Nat.{not-suc-le-zero, le_of_suc-le-suc}
use native.Mathlib.Decide.{ℕ_discrete, dec_lt}
use native.Mathlib.Omega.{arith}
use lib.ListN.{length, get_or, set, drop, length-set}
use lib.Seq.{get_or-set_other, drop-set-lt}
use Rattle.graph.specs.Rows.{at}
use Rattle.relaxation.specs.Certificate.{Held}
use Rattle.buffers.specs.Written.{word_limit}
use Rattle.relaxation.specs.Limits.{gap_limit, no_slack}
use Rattle.relaxation.specs.Network.{Shaped, Narrow}
use Rattle.augment.specs.Search.{Leaves, Slack, SlackIs, LeavesAt, SlackAt, LeastIs, Link, Tree, Marks, Raised, Near}
use Rattle.buffers.proofs.ListLaws.{set_cases, hit, miss}

-- y is old with the marked ones of the first v entries raised by d
pub record Raising (n : ℕ) (rank : List ℕ) (d : ℕ) (old y : List ℕ) (v : ℕ) : Type 0 where
  pub long : length y ≡ length old
  pub marked : (u : ℕ) → u < v → 0 < at rank u → at y u ≡ at old u + d
  pub other : (u : ℕ) → u < v → at rank u ≡ 0 → at y u ≡ at old u
  pub later : (u : ℕ) → u < n → v ≤ u → at y u ≡ at old u
  pub rest : drop n y ≡ drop n old

pub raising-none : (n : ℕ) (rank : List ℕ) (d : ℕ) (old : List ℕ) → Raising n rank d old old 0
raising-none n rank d old =
    record { long = refl; marked = λ u h. absurd (not-suc-le-zero h); other = λ u h. absurd (not-suc-le-zero h); later = λ u h k. refl; rest = refl }

module _ (n : ℕ) (rank : List ℕ) (d : ℕ) (old y : List ℕ) (v : ℕ) (r : Raising n rank d old y v) where
  pub raising-marked : v < n → n ≤ length old → 0 < at rank v → Raising n rank d old (set y v (at y v + d)) (v + 1)
  raising-marked h fits m =
      let in-y : v < length y = omega (arith, r.long) in
      record {
        long = length-set y v _ ∙ r.long;
        marked = λ u b p. set_cases (λ (k : ℕ). k ≡ at old u + d) y v _ u in-y (λ e. rw (r.later v h (omega arith)) (ap (λ
            (w : ℕ). at old w + d) e)) (λ ne. r.marked u (omega (arith, ne)) p);
        other = λ u b p. set_cases (λ (k : ℕ). k ≡ at old u) y v _ u in-y (λ e. absurd (omega (arith, ap (at rank) e))) (λ ne. r.other u (omega (arith, ne)) p);
        later = λ u b k. get_or-set_other y v u _ 0 (λ e. omega arith) ∙ r.later u b (omega arith);
        rest = drop-set-lt n y v _ h ∙ r.rest;
      }

  pub raising-other : v < n → at rank v ≡ 0 → Raising n rank d old y (v + 1)
  raising-other h m =
      record {
        long = r.long;
        marked = λ u b p. elim (ℕ_discrete u v) [ yes e ↦ absurd (omega (arith, ap (at rank) e)) | no ne ↦ r.marked u (omega arith) p ];
        other = λ u b p. elim (ℕ_discrete u v) [ yes e ↦ r.later u (omega arith) (omega arith) | no ne ↦ r.other u (omega arith) p ];
        later = λ u b k. r.later u b (omega arith);
        rest = r.rest;
      }

  pub raising-all : v ≤ n → n ≤ v → Raised n rank d old y
  raising-all p q = record { long = r.long; marked = λ u h. r.marked u (omega arith); other = λ u h. r.other u (omega arith); rest = r.rest }

-- the least slack of the first i edges, and of edge a
pub record Least (from to gap flow y rank : List ℕ) (a r i : ℕ) : Type 0 where
  pub slack : (k : ℕ) → k < i → SlackAt from to gap flow y rank r k
  pub kind : r < no_slack → (a < length from) × LeavesAt from to gap flow y rank a r

slack-less : {rf rt lo g hi f r s : ℕ} → s ≤ r → Slack rf rt lo g hi f r → Slack rf rt lo g hi f s
slack-less le m = record { leaves = λ p q. omega (arith, m.leaves p q); enters = λ p q u. omega (arith, m.enters p q u) }

module _ (from to gap flow y rank : List ℕ) where
  pub least-none : Least from to gap flow y rank 0 no_slack 0
  least-none = record { slack = λ k b. absurd (not-suc-le-zero b); kind = λ b. absurd (omega arith) }

  pub least-keep : (a r i s : ℕ) → Least from to gap flow y rank a r i
      → Slack (at rank (at from i)) (at rank (at to i)) (at y (at from i)) (at gap i) (at y (at to i)) (at flow i) s → r ≤ s
      → Least from to gap flow y rank a r (i + 1)
  least-keep a r i s l m le = record {
    slack = λ k b. elim (ℕ_discrete k i) [
      | yes e ↦ subst (λ (j : ℕ). SlackAt from to gap flow y rank r j) (sym e)
          (slack-less le m)
      | no ne ↦ l.slack k (omega arith)
    ];
    kind = l.kind;
  }

  pub least-take : (a r i s : ℕ) → i < length from → Least from to gap flow y rank a r i
      → SlackIs (at rank (at from i)) (at rank (at to i)) (at y (at from i)) (at gap i) (at y (at to i)) (at flow i) s → s < r
      → Least from to gap flow y rank i s (i + 1)
  least-take a r i s h l m lt = record {
    slack = λ k b. elim (ℕ_discrete k i) [
      | yes e ↦ subst (λ (j : ℕ). SlackAt from to gap flow y rank s j) (sym e) m.slack
      | no ne ↦ slack-less
          (omega arith) (l.slack k (omega arith))
    ];
    kind = λ b. (h, m.kind b);
  }

  pub least-all : (a r i : ℕ) → Least from to gap flow y rank a r i → length from ≤ i → r < word_limit → LeastIs from to gap flow y rank a r
  least-all a r i l le b = record { fits = b; slack = λ k b. l.slack k (omega arith); kind = l.kind }

-- an edge that leaves with no slack has the least
pub least-now : (from to gap flow y rank : List ℕ) (i r : ℕ) → i < length from → Held from to gap flow (at y)
    → SlackIs (at rank (at from i)) (at rank (at to i)) (at y (at from i)) (at gap i) (at y (at to i)) (at flow i) r → r ≡ 0
    → LeastIs from to gap flow y rank i 0
least-now from to gap flow y rank i r h held m e =
    record {
      fits = omega arith;
      slack = λ k b. record { leaves = λ p q. omega (arith, held.kept k b); enters = λ p q u. refl };
      kind = λ b. (h, subst (λ (x : ℕ). LeavesAt from to gap flow y rank i x) e (m.kind (omega arith)));
    }

pub least-open : (from to gap flow y rank : List ℕ) (i : ℕ) → i < length from → Held from to gap flow (at y)
    → LeavesAt from to gap flow y rank i 0 → LeastIs from to gap flow y rank i 0
least-open from to gap flow y rank i h held l =
    record {
      fits = omega arith;
      slack = λ k b. record { leaves = λ p q. omega (arith, held.kept k b); enters = λ p q u. refl };
      kind = λ b. (h, l);
    }

-- What the two numbers tell that are 0 together.
pub head-open : (from to gap flow y rank : List ℕ) (v i r : ℕ) → at from i ≡ v → 0 < at rank v
    → r ≡ max (at rank (at to i)) (at y (at to i) - at y v - at gap i) → at y (at from i) + at gap i ≤ at y (at to i)
    → r ≡ 0 → LeavesAt from to gap flow y rank i 0
head-open from to gap flow y rank v i r e p m k z =
    let marked : at rank (at from i) ≡ at rank v = ap (at rank) e in
    let row : at y (at from i) ≡ at y v = ap (at y) e in
    Leaves.fwd (omega arith) (omega arith) (omega arith)

pub tail-open : (from to gap flow y rank : List ℕ) (v i r : ℕ) → at to i ≡ v → 0 < at rank v
    → r ≡ max (at rank (at from i)) (1 - min (at flow i) 1) → r ≡ 0 → LeavesAt from to gap flow y rank i 0
tail-open from to gap flow y rank v i r e p m z =
    let marked : at rank (at to i) ≡ at rank v = ap (at rank) e in
    Leaves.bwd (omega arith) (omega arith) (omega arith) refl

pub raised-none : (n : ℕ) (rank : List ℕ) (d : ℕ) (y : List ℕ) → d ≡ 0 → Raised n rank d y y
raised-none n rank d y e = record { long = refl; marked = λ v h m. omega arith; other = λ v h m. refl; rest = refl }

-- how many entries are 0
unfoldable pub zeros : List ℕ → ℕ
zeros [] = 0
zeros (zero ∷ l) = suc (zeros l)
zeros (suc x ∷ l) = zeros l

pub zeros-le : (l : List ℕ) → zeros l ≤ length l
unfolding zeros
zeros-le [] = omega arith
zeros-le (zero ∷ l) = omega (arith, zeros-le l)
zeros-le (suc x ∷ l) = omega (arith, zeros-le l)

pub zeros-set : (l : List ℕ) (i v : ℕ) → i < length l → get_or l i 0 ≡ 0 → 0 < v → suc (zeros (set l i v)) ≡ zeros l
unfolding zeros
zeros-set [] i v h z p = absurd (not-suc-le-zero h)
zeros-set (zero ∷ l) zero zero h z p = absurd (not-suc-le-zero p)
zeros-set (zero ∷ l) zero (suc v) h z p = refl
zeros-set (suc x ∷ l) zero v h z p = absurd (omega arith)
zeros-set (zero ∷ l) (suc i) v h z p = ap suc (zeros-set l i v (le_of_suc-le-suc h) z p)
zeros-set (suc x ∷ l) (suc i) v h z p = zeros-set l i v (le_of_suc-le-suc h) z p

apart : (rank : List ℕ) (p v : ℕ) → 0 < at rank p → at rank v ≡ 0 → p ≡ v → ⊥
apart rank p v m z e = omega (arith, ap (at rank) e)

-- one more node in the tree
module _ (from to gap flow : List ℕ) (n s amount : ℕ) (y rank parent capacity : List ℕ) (count : ℕ)
    (t : Tree from to gap flow n s amount y rank parent capacity count)
    (v a c : ℕ) (in-rank : v < length rank) (in-parent : v < length parent) (in-capacity : v < length capacity) (new : at rank v ≡ 0) where
  link-kept : (u : ℕ) → (u ≡ v → ⊥) → Link from to gap flow y rank parent capacity u
      → Link from to gap flow y (set rank v count) (set parent v a) (set capacity v c) u
  link-kept u ne (Link.fwd i p e1 e2 e3 e4 e5 e6 e7 e8) =
      let q = apart rank p v e6 new in
      let rp = miss rank v count p q in
      let ru = miss rank v count u ne in
      let cp = miss capacity v c p q in
      let cu = miss capacity v c u ne in
      Link.fwd i p (miss parent v a u ne ∙ e1) e2 e3 e4 e5 (omega arith) (omega arith) (omega arith)
  link-kept u ne (Link.bwd i p e1 e2 e3 e4 e5 e6 e7 e8) =
      let q = apart rank p v e6 new in
      let rp = miss rank v count p q in
      let ru = miss rank v count u ne in
      let cp = miss capacity v c p q in
      let cu = miss capacity v c u ne in
      Link.bwd i p (miss parent v a u ne ∙ e1) e2 e3 e4 (omega arith) (omega arith) (omega arith) (omega arith)

  pub tree-more : s < n → Link from to gap flow y (set rank v count) (set parent v a) (set capacity v c) v → 0 < c → c ≤ amount
      → Tree from to gap flow n s amount y (set rank v count) (set parent v a) (set capacity v c) (count + 1)
  tree-more sn l pos le =
      let one = t.ranks s sn in
      record {
        root = miss rank v count s (apart rank s v (omega (arith, t.root)) new) ∙ t.root;
        only = λ u h e. elim (ℕ_discrete u v) [
          | yes q ↦ absurd (omega (arith, hit rank v count u in-rank q, t.root))
          | no q ↦ t.only u h (omega
              (arith, miss rank v count u q))
        ];
        link = λ u h e. elim (ℕ_discrete u v) [
          | yes q ↦ subst (λ (w : ℕ). Link from to gap flow y (set rank v count) (set parent v a)
              (set capacity v c) w) (sym q) l
          | no q ↦ link-kept u q (t.link u h (omega (arith, miss rank v count u q)))
        ];
        some = λ u h e. elim (ℕ_discrete u v) [
          | yes q ↦ omega (arith, hit capacity v c u in-capacity q)
          | no q ↦ omega (
            arith,
            miss capacity v c u q,
            t.some u h (omega (arith, miss rank v count u q)),
          )
        ];
        ranks = λ u h. elim (ℕ_discrete u v) [ yes q ↦ omega (arith, hit rank v count u in-rank q) | no q ↦ omega (arith, miss rank v count u q, t.ranks u h) ];
      }

-- what is known of the node v that a look marks
pub record Marked (n : ℕ) (y rank rank' : List ℕ) (count v : ℕ) : Type 0 where
  pub inside : v < n
  pub fresh : at rank v ≡ 0
  pub ranks : rank' ≡ set rank v count
  pub parent : ℕ
  pub parent_in : parent < n
  pub parent_marked : 0 < at rank parent
  pub above : at y parent ≤ at y v + gap_limit

pub record TreeMore (from to gap flow : List ℕ) (n s amount : ℕ) (y rank parent capacity rank' parent' capacity' : List ℕ) (count v : ℕ) : Type 0 where
  pub tree : Tree from to gap flow n s amount y rank' parent' capacity' (count + 1)
  pub marked : Marked n y rank rank' count v
  pub fewer : suc (zeros rank') ≡ zeros rank
  pub rank_same : length rank' ≡ length rank
  pub parent_same : length parent' ≡ length parent
  pub capacity_same : length capacity' ≡ length capacity

module _ (from to gap flow : List ℕ) (n s amount : ℕ) (y rank parent capacity : List ℕ) (count : ℕ) (shape : Shaped from to gap n)
    (narrow : Narrow gap n) (held : Held from to gap flow (at y))
    (t : Tree from to gap flow n s amount y rank parent capacity count) (sn : s < n) (rank_long : n ≤ length rank)
    (parent_long : n ≤ length parent) (capacity_long : n ≤ length capacity)
    (a : ℕ) (h : a < length from) (rank' parent' capacity' : List ℕ) (w : ℕ) where
  two : 1 < count
  two = omega (arith, t.root, t.ranks s sn)

  pub tree-marks : LeavesAt from to gap flow y rank a 0 → Marks from to flow rank parent capacity a count rank' parent' capacity' w
      → TreeMore from to gap flow n s amount y rank parent capacity rank' parent' capacity' count w
  tree-marks (Leaves.fwd m u e) (Marks.fwd z er ep ec ew) =
      let v = at to a in
      let p = at from a in
      let vn = shape.to_in a h in
      let q = apart rank p v m u in
      let c = at capacity p in
      let known = t.some p (shape.from_in a h) m in
      rw (er, ep, ec, ew) (record {
        tree = tree-more from to gap flow n s amount y rank parent capacity count t v a c (omega arith) (omega arith) (omega arith) u sn
            (Link.fwd a p (hit parent v a v (omega arith) refl) h refl refl (omega arith)
            (omega (arith, miss rank v count p q))
            (omega (arith, miss rank v count p q, hit rank v count v (omega arith) refl, t.ranks p (shape.from_in a h)))
            (omega (arith, miss capacity v c p q, hit capacity v c v (omega arith) refl)))
            (omega arith) (omega arith);
        marked = record { inside = vn; fresh = u; ranks = refl; parent = p; parent_in = shape.from_in a h; parent_marked = m; above = omega arith };
        fewer = zeros-set rank v count (omega arith) u (omega (arith, two));
        rank_same = length-set rank v count;
        parent_same = length-set parent v a;
        capacity_same = length-set capacity v c;
      })
  tree-marks (Leaves.bwd z m u e) (Marks.bwd _ er ep ec ew) =
      let v = at from a in
      let p = at to a in
      let vn = shape.from_in a h in
      let q = apart rank p v m z in
      let c = min (at capacity p) (at flow a) in
      let known = t.some p (shape.to_in a h) m in
      rw (er, ep, ec, ew) (record {
        tree = tree-more from to gap flow n s amount y rank parent capacity count t v a c (omega arith) (omega arith) (omega arith) z sn
            (Link.bwd a p (hit parent v a v (omega arith) refl) h refl refl (omega (arith, hit capacity v c v (omega arith) refl))
            (omega (arith, miss rank v count p q))
            (omega (arith, miss rank v count p q, hit rank v count v (omega arith) refl, t.ranks p (shape.to_in a h)))
            (omega (arith, miss capacity v c p q, hit capacity v c v (omega arith) refl)))
            (omega arith) (omega arith);
        marked = record {
          inside = vn;
          fresh = z;
          ranks = refl;
          parent = p;
          parent_in = shape.to_in a h;
          parent_marked = m;
          above = omega
              (arith, held.tight a h u, narrow.gaps a);
        };
        fewer = zeros-set rank v count (omega arith) z (omega (arith, two));
        rank_same = length-set rank v count;
        parent_same = length-set parent v a;
        capacity_same = length-set capacity v c;
      })
  tree-marks (Leaves.fwd m u e) (Marks.bwd p er ep ec ew) = absurd (omega arith)
  tree-marks (Leaves.bwd z m u e) (Marks.fwd p er ep ec ew) = absurd (omega arith)

abbrev Moved : List ℕ → List ℕ → List ℕ → ℕ → ℕ → Type 0
Moved y rank y' r v = ((0 < at rank v) × (at y' v ≡ at y v + r)) ⊎ ((at rank v ≡ 0) × (at y' v ≡ at y v))

-- Raising the marked nodes by no more than the least slack. An edge inside the set, or outside it, keeps its length; one that leaves it
-- loses at most its slack; one that enters it grows, and is unused, since a used one would leave no slack. So every edge is kept and used
-- edges stay tight.
module _ (from to gap flow : List ℕ) (n : ℕ) (y rank y' : List ℕ) (r : ℕ) (shape : Shaped from to gap n) (held : Held from to gap flow (at y))
    (slack : (i : ℕ) → i < length from → SlackAt from to gap flow y rank r i) (up : Raised n rank r y y') where
  moved : (v : ℕ) → v < n → Moved y rank y' r v
  moved v h = elim (dec_lt 0 (at rank v)) [ yes m ↦ inl (m, up.marked v h m) | no m ↦ inr (omega arith, up.other v h (omega arith)) ]

  pub raise-held : Held from to gap flow (at y')
  raise-held = record {
    kept = λ a h. go-kept a h (moved (at from a) (shape.from_in a h)) (moved (at to a)
        (shape.to_in a h));
    tight = λ a h u. go-tight a h u (moved (at from a) (shape.from_in a h)) (moved (at to a) (shape.to_in a h));
  }
    where
      go-kept : (a : ℕ) → a < length from → Moved y rank y' r (at from a) → Moved y rank y' r (at to a)
          → at y' (at from a) + at gap a ≤ at y' (at to a)
      go-kept a h (inl p) (inl q) = omega (arith, held.kept a h)
      go-kept a h (inl p) (inr q) = omega (arith, (slack a h).leaves p.0 q.0)
      go-kept a h (inr p) (inl q) = omega (arith, held.kept a h)
      go-kept a h (inr p) (inr q) = omega (arith, held.kept a h)

      go-tight : (a : ℕ) → a < length from → 0 < at flow a → Moved y rank y' r (at from a) → Moved y rank y' r (at to a)
          → at y' (at to a) ≤ at y' (at from a) + at gap a
      go-tight a h u (inl p) (inl q) = omega (arith, held.tight a h u)
      go-tight a h u (inl p) (inr q) = omega (arith, held.tight a h u)
      go-tight a h u (inr p) (inl q) = omega (arith, held.tight a h u, (slack a h).enters p.0 q.0 u)
      go-tight a h u (inr p) (inr q) = omega (arith, held.tight a h u)

  pub raise-tree : (s amount : ℕ) (parent capacity : List ℕ) (count : ℕ) → Tree from to gap flow n s amount y rank parent capacity count
      → Tree from to gap flow n s amount y' rank parent capacity count
  raise-tree s amount parent capacity count t = record {
    root = t.root;
    only = t.only;
    link = λ v h m. go v h (omega arith)
        (t.link v h m);
    some = t.some;
    ranks = t.ranks;
  }
    where
      go : (v : ℕ) → v < n → 0 < at rank v → Link from to gap flow y rank parent capacity v → Link from to gap flow y' rank parent capacity v
      go v h m (Link.fwd i p e1 e2 e3 e4 e5 e6 e7 e8) =
          let pn : p < n = omega (arith, shape.from_in i e2) in
          Link.fwd i p e1 e2 e3 e4 (omega (arith, up.marked v h m, up.marked p pn e6)) e6 e7 e8
      go v h m (Link.bwd i p e1 e2 e3 e4 e5 e6 e7 e8) = Link.bwd i p e1 e2 e3 e4 e5 e6 e7 e8

  -- the edge that had the least slack has none afterwards
  pub raise-leaves : (a : ℕ) → a < length from → LeavesAt from to gap flow y rank a r → LeavesAt from to gap flow y' rank a 0
  raise-leaves a h (Leaves.fwd m u e) = Leaves.fwd m u (omega (arith, up.marked (at from a) (shape.from_in a h) m, up.other (at to a) (shape.to_in a h) u))
  raise-leaves a h (Leaves.bwd z m u e) = Leaves.bwd z m u refl

  -- How high rows come: s rises by r, and the node marked next lies at most a gap below its parent, so s stays within rank · gap_limit of
  -- every marked node; and the node marked next did not rise.
  pub near-turn : (s b : ℕ) (rank' : List ℕ) (count v : ℕ) → s < n → at rank s ≡ 1 → n ≤ length rank → ((u : ℕ) → u < n → at rank u < count)
      → Near n s b y rank count → Marked n y' rank rank' count v → Near n s b y' rank' (count + 1)
  near-turn s b rank' count v sn root fits ranks near m =
      rw m.ranks (record {
        all = λ u h. elim (moved u h) [ inl p ↦ omega (arith, up-s, near.all u h) | inr p ↦ omega (arith, up-s, near.all u h) ];
        flat = λ u h z. elim (ℕ_discrete u v) [
          | yes q ↦ absurd (omega (arith, hit rank v count u in-rank q, ranks s sn))
          | no q ↦ omega (
            arith,
            miss rank v count u q,
            near.flat u h (omega (arith, miss rank v count u q)),
            up.other u h (omega (
              arith,
              miss rank v count u q,
            )),
          )
        ];
        close = λ u h k. elim (ℕ_discrete u v) [
          | yes q ↦ omega (arith, hit rank v count u in-rank q, at-v, ap (at y') q)
          | no q ↦ omega (
            arith,
            miss rank v count u q,
            up-s,
            near.close u h (omega (arith, miss rank v count u q)),
            up.marked u h (omega (
              arith,
              miss rank v count u q,
            )),
          )
        ];
        top = omega (arith, at-v, up.other v m.inside m.fresh, near.flat v m.inside m.fresh);
      })
    where
      in-rank : v < length rank
      in-rank = omega (arith, m.inside)

      up-s : at y' s ≡ at y s + r
      up-s = up.marked s sn (omega arith)

      at-v : at y' s ≤ at y' v + count * gap_limit
      at-v =
          omega (
            arith,
            up-s,
            m.above,
            near.close m.parent m.parent_in m.parent_marked,
            up.marked m.parent m.parent_in
                m.parent_marked,
            ranks m.parent m.parent_in,
          )
