-- The loop that grows the marked set: an edge leaves it, each turn marks one node more, and its end.
use mathlib.Core.Path.{◌≡◌, refl, ap, ◌∙◌, subst}
use mathlib.Core.List.{List}
use Prim.Native.Nat.{ℕ, zero, suc, ◌+◌, ◌*◌, ◌≤◌, ◌<◌}
use native.Mathlib.Nat.{not-suc-le-zero, zero-lt-suc, mul-le-mul_left}
use native.Mathlib.Decide.{ℕ_discrete, dec_lt}
use native.Mathlib.Omega.{arith}
use lib.ListN.{length, drop}
use lib.Seq.{get_or-set_same, get_or-set_other}
use Rattle.graph.specs.Rows.{at}
use Rattle.relaxation.specs.Certificate.{flux, Held}
use Rattle.transport.specs.Flow.{Flows, spread}
use Rattle.relaxation.specs.Low.{RowsLow}
use Rattle.buffers.specs.Written.{word_limit}
use Rattle.relaxation.specs.Limits.{node_limit, calm_limit, peak_limit, no_slack}
use Rattle.relaxation.specs.Network.{Shaped, Narrow, Lengths}
use Rattle.augment.specs.Search.{Leaves, LeavesAt, SlackAt, LeastIs, Tree, Fits, Marks, Raised, Near, Planted, Grown}
use Rattle.transport.proofs.SumLaws.{flux-mono, spread_none, spread-ge}
use Rattle.augment.proofs.TreeLaws.{zeros, zeros-le, TreeMore, tree-marks, raise-held, raise-tree, raise-leaves, near-turn}

-- 1 where there is a mark
unfoldable pub ind : ℕ → ℕ
ind zero = 0
ind (suc x) = 1

ind-pos : (x : ℕ) → 0 < x → ind x ≡ 1
unfolding ind
ind-pos zero h = absurd (not-suc-le-zero h)
ind-pos (suc x) h = refl

ind-zero : (x : ℕ) → x ≡ 0 → ind x ≡ 0
unfolding ind
ind-zero zero h = refl
ind-zero (suc x) h = absurd (omega arith)

ind-le : (x w : ℕ) → (0 < x → 0 < w) → ind x ≤ ind w
ind-le x w h = elim (dec_lt 0 x) [ yes p ↦ omega (arith, ind-pos x p, ind-pos w (h p)) | no p ↦ omega (arith, ind-zero x (omega arith)) ]

mul-cases : (k p q : ℕ) → (0 < k → p ≤ q) → k * p ≤ k * q
mul-cases zero p q h = omega arith
mul-cases (suc k) p q h = mul-le-mul_left (suc k) (h (zero-lt-suc k))

-- Where nothing marked wants anything and s, marked, has something to send, an edge leaves the marked set. Test the balance with the
-- function that is 1 on marked nodes and 0 elsewhere. A used edge that enters the set has its tail inside too, so the flow into the set is
-- at most the flow out of it. No demand is inside, and some supply is. So the weights out of the set exceed those into it: some edge leaves.
pub some-leaves : (from to gap flow weight supply demand : List ℕ) (n s : ℕ) (y rank : List ℕ) → Shaped from to gap n
    → length weight ≡ length from → Flows from to gap weight n y flow supply demand
    → s < n → 0 < at rank s → 0 < at supply s → ((v : ℕ) → v < n → 0 < at rank v → at demand v ≡ 0) → ((v : ℕ) → v < n → at y v < no_slack)
    → ((i : ℕ) → i < length from → SlackAt from to gap flow y rank no_slack i) → ⊥
some-leaves from to gap flow weight supply demand n s y rank shape wl fl sn m pos quiet low slack =
    omega (arith, fl.owed.test z, in-flow, in-weight, no-demand, has-supply)
  where
    z : ℕ → ℕ
    z v = ind (at rank v)

    in-flow : flux flow to z ≤ flux flow from z
    in-flow =
        flux-mono flow to from z
        (λ i h. mul-cases (at flow i) (z (at to i)) (z (at from i)) (λ u. ind-le (at rank (at to i)) (at rank (at from i)) (λ p. back i (omega
        (arith, fl.flow_long)) u p)))
      where
        back : (i : ℕ) → i < length from → 0 < at flow i → 0 < at rank (at to i) → 0 < at rank (at from i)
        back i h u p = elim (dec_lt 0 (at rank (at from i))) [ yes q ↦ q | no q ↦ absurd (omega (arith, (slack i h).enters (omega arith) p u)) ]

    in-weight : flux weight from z ≤ flux weight to z
    in-weight =
        flux-mono weight from to z
        (λ i h. mul-le-mul_left (at weight i) (ind-le (at rank (at from i)) (at rank (at to i)) (λ p. ahead i (omega arith) p)))
      where
        ahead : (i : ℕ) → i < length from → 0 < at rank (at from i) → 0 < at rank (at to i)
        ahead i h p =
            elim (dec_lt 0 (at rank (at to i)))
            [ yes q ↦ q | no q ↦ absurd (omega (arith, (slack i h).leaves p (omega arith), low (at to i) (shape.to_in i h))) ]

    no-demand : spread demand z ≡ 0
    no-demand = spread_none demand z (λ i h. go i (omega (arith, fl.demand_long)) (dec_lt 0 (at rank i)))
      where
        go : (i : ℕ) → i < n → Dec (0 < at rank i) → at demand i * z i ≡ 0
        go i h (yes p) = rw (quiet i h p) (omega arith)
        go i h (no p) = rw (ind-zero (at rank i) (omega arith)) (omega arith)

    has-supply : 0 < spread supply z
    has-supply = omega (arith, spread-ge supply z s (omega (arith, fl.supply_long)), ap (λ (k : ℕ). at supply s * k) (ind-pos (at rank s) m))

pub record Growing (from to gap flow : List ℕ) (n s amount b : ℕ) (demand old y rank parent capacity : List ℕ) (count t : ℕ) : Type 0 where
  pub tree : Tree from to gap flow n s amount y rank parent capacity count
  pub held : Held from to gap flow (at y)
  pub near : Near n s b y rank count
  pub lengths : Lengths n y rank parent capacity
  pub long : length y ≡ length old
  pub rest : drop n y ≡ drop n old
  pub few : count + zeros rank ≤ length rank + 2
  pub inside : t < n
  pub there : 0 < at rank t
  pub quiet : (v : ℕ) → v < n → 0 < at rank v → (v ≡ t → ⊥) → at demand v ≡ 0

tree-start : (from to gap flow : List ℕ) (n s amount : ℕ) (y rank parent capacity : List ℕ) → Planted n s amount rank capacity → 0 < amount
    → Tree from to gap flow n s amount y rank parent capacity 2
tree-start from to gap flow n s amount y rank parent capacity p pos =
    record {
      root = p.root;
      only = λ v h e. elim (ℕ_discrete v s) [ yes q ↦ q | no q ↦ absurd (omega (arith, p.others v h q)) ];
      link = λ v h m. elim (ℕ_discrete v s) [ yes q ↦ absurd (omega (arith, ap (at rank) q, p.root)) | no q ↦ absurd (omega (arith, p.others v h q)) ];
      some = λ v h m. elim (ℕ_discrete v s) [ yes q ↦ omega (arith, ap (at capacity) q, p.whole) | no q ↦ absurd (omega (arith, p.others v h q)) ];
      ranks = λ v h. elim (ℕ_discrete v s) [ yes q ↦ omega (arith, ap (at rank) q, p.root) | no q ↦ omega (arith, p.others v h q) ];
    }

module _ (from to gap flow weight supply demand : List ℕ) (n s amount : ℕ) (shape : Shaped from to gap n) (wl : length weight ≡ length from)
    (narrow : Narrow gap n)
    (old : List ℕ) (fl : Flows from to gap weight n old flow supply demand) (sn : s < n) (pos : 0 < at supply s) where
  pub growing-start : (rank parent capacity : List ℕ) → RowsLow n calm_limit old → Lengths n old rank parent capacity → 0 < amount
      → Planted n s amount rank capacity
      → Growing from to gap flow n s amount calm_limit demand old old rank parent capacity 2 s
  growing-start rank parent capacity l k lp p =
      record {
        tree = tree-start from to gap flow n s amount old rank parent capacity p lp;
        held = fl.held;
        near = record {
          all = λ v h. omega (arith, l.low v h);
          flat = λ v h z. l.low v h;
          close = λ v h m. elim (ℕ_discrete v s) [ yes q ↦ omega (arith, ap (at old) q) | no q ↦ absurd (omega (arith, p.others v h q)) ];
          top = omega (arith, l.low s sn);
        };
        lengths = k;
        long = refl;
        rest = refl;
        few = omega (arith, zeros-le rank);
        inside = sn;
        there = omega (arith, p.root);
        quiet = λ v h m ne. absurd (omega (arith, p.others v h ne));
      }

  module _ (y rank parent capacity : List ℕ) (count t : ℕ)
      (g : Growing from to gap flow n s amount calm_limit demand old y rank parent capacity count t) where
    marked-s : 0 < at rank s
    marked-s = omega (arith, g.tree.root)

    pub lens : (n ≤ length y) × (n ≤ length rank) × (n ≤ length parent) × (n ≤ length capacity)
    lens = omega (arith, g.lengths.y_long, g.lengths.rank_long, g.lengths.parent_long, g.lengths.capacity_long)

    pub low-all : (v : ℕ) → v < n → at y v ≤ peak_limit
    low-all v h = omega (arith, g.near.all v h, g.near.top, g.few, g.lengths.rank_long, narrow.few)

    pub growing-ends : 0 < at demand t → Grown from to gap flow n s amount peak_limit demand old y rank parent capacity t
    growing-ends w =
        record { count = count; tree = g.tree; inside = g.inside; there = g.there; wants = w; held = g.held; low = low-all; long = g.long; rest = g.rest; lengths = g.lengths }

    module _ (unmet : at demand t ≡ 0) (a r : ℕ) (least : LeastIs from to gap flow y rank a r) (fits : r < word_limit) where
      all_quiet : (v : ℕ) → v < n → 0 < at rank v → at demand v ≡ 0
      all_quiet v h m = elim (ℕ_discrete v t) [ yes q ↦ ap (at demand) q ∙ unmet | no q ↦ g.quiet v h m q ]

      flows-now : Flows from to gap weight n y flow supply demand
      flows-now = record { flow_long = fl.flow_long; supply_long = fl.supply_long; demand_long = fl.demand_long; held = g.held; owed = fl.owed; small = fl.small; few = fl.few }

      pub exit : (r < no_slack) × (a < length from) × LeavesAt from to gap flow y rank a r
      exit = elim (dec_lt r no_slack) [ yes p ↦ (p, (least.kind p).0, (least.kind p).1) | no p ↦ absurd (none (omega arith)) ]
        where
          none : r ≡ no_slack → ⊥
          none e =
              some-leaves from to gap flow weight supply demand n s y rank shape wl flows-now sn marked-s pos all_quiet
              (λ v h. omega (arith, low-all v h))
              (subst (λ (k : ℕ). (i : ℕ) → i < length from → SlackAt from to gap flow y rank k i) e least.slack)

      slack-low : r ≤ peak_limit
      slack-low = go exit.2
        where
          go : LeavesAt from to gap flow y rank a r → r ≤ peak_limit
          go (Leaves.fwd m u e) = omega (arith, low-all (at to a) (shape.to_in a exit.1))
          go (Leaves.bwd z m u e) = omega arith

      pub raise-fits : (v : ℕ) → v < n → at y v + r < word_limit
      raise-fits v h = omega (arith, low-all v h, slack-low)

      pub mark-fits : Fits from to flow rank parent capacity a
      mark-fits = record {
        from_long = exit.1;
        to_long = omega (arith, shape.to_long, exit.1);
        flow_long = omega (arith, exit.1, fl.flow_long);
        from_in = omega (arith, lens, shape.from_in a exit.1);
        to_in = omega (arith, lens, shape.to_in a exit.1);
        parent_long = omega (arith, g.lengths.parent_long, g.lengths.rank_long);
        capacity_long = omega (arith, g.lengths.capacity_long, g.lengths.rank_long);
      }

      module _ (y' : List ℕ) (up : Raised n rank r y y') (rank' parent' capacity' : List ℕ) (v : ℕ)
          (marks : Marks from to flow rank parent capacity a count rank' parent' capacity' v) where
        more : TreeMore from to gap flow n s amount y' rank parent capacity rank' parent' capacity' count v
        more =
            tree-marks from to gap flow n s amount y' rank parent capacity count shape narrow (raise-held from to gap flow n y rank y' r shape
            g.held least.slack up)
            (raise-tree from to gap flow n y rank y' r shape g.held least.slack up s amount parent capacity count g.tree) sn lens.1
            lens.2 lens.3 a exit.1 rank' parent' capacity' v
            (raise-leaves from to gap flow n y rank y' r shape g.held least.slack up a exit.1 exit.2) marks

        pub growing-turn : Growing from to gap flow n s amount calm_limit demand old y' rank' parent' capacity' (count + 1) v
        growing-turn =
            record {
              tree = more.tree;
              held = raise-held from to gap flow n y rank y' r shape g.held least.slack up;
              near = near-turn from to gap flow n y rank y' r shape g.held least.slack up s calm_limit rank' count v sn g.tree.root
                  lens.1 g.tree.ranks g.near more.marked;
              lengths = record {
                y_long = omega (arith, up.long, g.lengths.y_long);
                rank_long = more.rank_same ∙ g.lengths.rank_long;
                parent_long = more.parent_same ∙ g.lengths.parent_long;
                capacity_long = more.capacity_same ∙ g.lengths.capacity_long;
              };
              long = up.long ∙ g.long;
              rest = up.rest ∙ g.rest;
              few = omega (arith, g.few, more.fewer, more.rank_same);
              inside = more.marked.inside;
              there = omega (arith, new-rank, g.tree.ranks s sn);
              quiet = λ u h m ne. all_quiet u h (omega (arith, other-rank u ne));
            }
          where
            new-rank : at rank' v ≡ count
            new-rank = ap (λ (l : List ℕ). at l v) more.marked.ranks ∙ get_or-set_same rank v count 0 (omega (arith, more.marked.inside, lens))

            other-rank : (u : ℕ) → (u ≡ v → ⊥) → at rank' u ≡ at rank u
            other-rank u ne = ap (λ (l : List ℕ). at l u) more.marked.ranks ∙ get_or-set_other rank v u count 0 ne

        pub growing-less : zeros rank' < zeros rank
        growing-less = omega (arith, more.fewer)

        pub growing-count : count + 1 ≤ node_limit + 3
        growing-count = omega (arith, more.fewer, g.few, g.lengths.rank_long, narrow.few)
