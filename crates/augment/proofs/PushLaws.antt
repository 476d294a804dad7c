-- Pushing along the parent edges of the tree.
use mathlib.Core.Path.{◌≡◌, refl, sym, ap, ◌∙◌, subst}
use mathlib.Core.List.{List}
use Prim.Native.Nat.{ℕ, ◌+◌, ◌-◌, ◌≤◌, ◌<◌}
use native.Mathlib.Nat.{le_refl}
use native.Mathlib.Omega.{arith}
use lib.ListN.{length, set, replicate, length-set, get_or-replicate, length-replicate}
use lib.Seq.{get_or-set_same, get_or-set_other}
use Rattle.graph.specs.Rows.{at}
use Rattle.relaxation.specs.Certificate.{Held}
use Rattle.buffers.specs.Written.{word_limit}
use Rattle.relaxation.specs.Network.{Shaped}
use Rattle.augment.specs.Push.{OnWay, Steps, Pushable, Pushed}
use Rattle.augment.specs.Search.{Link, Planted}
use Rattle.buffers.proofs.ListLaws.{set_cases}
use Rattle.transport.proofs.SumLaws.{flux-add, flux-sub}

module _ (from to old : List ℕ) (d start : ℕ) where
  pub way-begins : OnWay from to old old d start start
  way-begins = record { test = λ z. omega arith }

  pub way-add : (f : List ℕ) (i : ℕ) → i < length f → OnWay from to old f d start (at to i)
      → OnWay from to old (set f i (at f i + d)) d start (at from i)
  way-add f i h w = record { test = λ z. omega (arith, w.test z, flux-add f to z i d h, flux-add f from z i d h) }

  pub way-sub : (f : List ℕ) (i : ℕ) → i < length f → d ≤ at f i → OnWay from to old f d start (at from i)
      → OnWay from to old (set f i (at f i - d)) d start (at to i)
  way-sub f i h l w = record { test = λ z. omega (arith, w.test z, flux-sub f to z i d h l, flux-sub f from z i d h l) }

-- An edge is the parent edge of one node only: it leads to its head or to its tail, and of its two ends one was marked before the other.
pub parent-inj : (from to gap flow y rank parent capacity : List ℕ) (u v : ℕ) → Link from to gap flow y rank parent capacity u
    → Link from to gap flow y rank parent capacity v → at parent u ≡ at parent v → u ≡ v
parent-inj from to gap flow y rank parent capacity u v (Link.fwd i p a1 a2 a3 a4 a5 a6 a7 a8) (Link.fwd j q b1 b2 b3 b4 b5 b6 b7 b8) e = cc
parent-inj from to gap flow y rank parent capacity u v (Link.bwd i p a1 a2 a3 a4 a5 a6 a7 a8) (Link.bwd j q b1 b2 b3 b4 b5 b6 b7 b8) e = cc
parent-inj from to gap flow y rank parent capacity u v (Link.fwd i p a1 a2 a3 a4 a5 a6 a7 a8) (Link.bwd j q b1 b2 b3 b4 b5 b6 b7 b8) e =
    let pv : p ≡ v = cc in
    let qu : q ≡ u = cc in
    absurd (omega (arith, ap (at rank) pv, ap (at rank) qu))
parent-inj from to gap flow y rank parent capacity u v (Link.bwd i p a1 a2 a3 a4 a5 a6 a7 a8) (Link.fwd j q b1 b2 b3 b4 b5 b6 b7 b8) e =
    let pv : p ≡ v = cc in
    let qu : q ≡ u = cc in
    absurd (omega (arith, ap (at rank) pv, ap (at rank) qu))

-- d is pushed from start back as far as cur, from a flow that was old; parent edges further back are as they were
pub record Way (from to gap : List ℕ) (n : ℕ) (y rank parent capacity : List ℕ) (d start : ℕ) (old flow : List ℕ) (cur : ℕ) : Type 0 where
  pub inside : cur < n
  pub marked : 0 < at rank cur
  pub long : length flow ≡ length old
  pub way : OnWay from to old flow d start cur
  pub same : (v : ℕ) → v < n → 1 < at rank v → at rank v ≤ at rank cur → at flow (at parent v) ≡ at old (at parent v)
  pub grows : (i : ℕ) → at flow i ≤ at old i + d
  pub held : Held from to gap flow (at y)
  pub capped : d ≤ at capacity cur

module _ (from to gap old : List ℕ) (n : ℕ) (y rank parent capacity : List ℕ) (s start d : ℕ) (shape : Shaped from to gap n)
    (asks : Pushable from to gap old n y rank parent capacity s start d) where
  pub way-start : Way from to gap n y rank parent capacity d start old old start
  way-start = record {
    inside = asks.inside;
    marked = asks.marked;
    long = refl;
    way = way-begins from to old d start;
    same = λ v h m l. refl;
    grows = λ i. omega arith;
    held = asks.held;
    capped = asks.capped;
  }

  module _ (flow : List ℕ) (cur : ℕ) (w : Way from to gap n y rank parent capacity d start old flow cur) where
    module _ (more : 1 < at rank cur) where
      linked : Link from to gap old y rank parent capacity cur
      linked = asks.tree.link cur w.inside more

      pub edge_in : at parent cur < length from
      edge_in = elim linked [ Link.fwd i p e1 e2 e3 e4 e5 e6 e7 e8 ↦ omega arith | Link.bwd i p e1 e2 e3 e4 e5 e6 e7 e8 ↦ omega arith ]

      kept_here : at flow (at parent cur) ≡ at old (at parent cur)
      kept_here = w.same cur w.inside more (le_refl (at rank cur))

      pub step_fits : at flow (at parent cur) + d < word_limit
      step_fits = omega (arith, kept_here, asks.fits (at parent cur))

      pub step-covers : (at to (at parent cur) ≡ cur → ⊥) → d ≤ at flow (at parent cur)
      step-covers ne = go linked
        where
          go : Link from to gap old y rank parent capacity cur → d ≤ at flow (at parent cur)
          go (Link.fwd i p e1 e2 e3 e4 e5 e6 e7 e8) = absurd (ne (ap (at to) e1 ∙ e3))
          go (Link.bwd i p e1 e2 e3 e4 e5 e6 e7 e8) = omega (arith, kept_here, ap (at old) e1, w.capped)

      -- the parent edges of nodes of lower rank are not this one
      other_edge : (v : ℕ) → v < n → 1 < at rank v → at rank v < at rank cur → at parent v ≡ at parent cur → ⊥
      other_edge v h m l e = omega (arith, ap (at rank) (parent-inj from to gap old y rank parent capacity v cur (asks.tree.link v h m) linked e))

      flow-in : at parent cur < length flow
      flow-in = omega (arith, edge_in, w.long, asks.flow_long)

      same_after : (p x : ℕ) → at rank p < at rank cur → (v : ℕ) → v < n → 1 < at rank v → at rank v ≤ at rank p
          → at (set flow (at parent cur) x) (at parent v) ≡ at old (at parent v)
      same_after p x lt v h m l = get_or-set_other flow (at parent cur) (at parent v) x 0 (other_edge v h m (omega arith)) ∙ w.same v h m (omega arith)

      -- A step over a tight edge adds d to its flow; one back over a used edge takes d off, which its capacity allows. Parent edges differ, so
      -- no edge is stepped over twice.
      pub way_step : (flow' : List ℕ) (r : ℕ) → Steps from to flow parent cur d flow' r
          → Way from to gap n y rank parent capacity d start old flow' r × (at rank r < at rank cur)
      way_step flow' r st = go linked st
        where
          go : Link from to gap old y rank parent capacity cur → Steps from to flow parent cur d flow' r
              → Way from to gap n y rank parent capacity d start old flow' r × (at rank r < at rank cur)
          go (Link.fwd i p e1 e2 e3 e4 e5 e6 e7 e8) (Steps.bwd ne ef er) = absurd (ne (ap (at to) e1 ∙ e3))
          go (Link.bwd i p e1 e2 e3 e4 e5 e6 e7 e8) (Steps.fwd e ef er) =
              let q : p ≡ cur = cc in
              absurd (omega (arith, ap (at rank) q))
          go (Link.fwd i p e1 e2 e3 e4 e5 e6 e7 e8) (Steps.fwd e ef er) =
              let rp : r ≡ p = cc in
              let lt : at rank r < at rank cur = omega (arith, ap (at rank) rp) in
              let k = at parent cur in
              let w' : OnWay from to old (set flow k (at flow k + d)) d start
              (at from k) = way-add from to old d start flow k flow-in (subst (λ
              (c : ℕ). OnWay from to old flow d start c) (sym e) w.way) in (
                rw ef (record {
                  inside = omega (arith, shape.from_in k edge_in);
                  marked = omega (arith, ap (at rank) rp);
                  long = length-set flow k _ ∙ w.long;
                  way = rw er w';
                  same = same_after r _ lt;
                  grows = λ j. set_cases (λ (x : ℕ). x ≤ at old j + d) flow k _ j flow-in (λ q. omega (arith, kept_here, ap (at old) q)) (λ ne. w.grows j);
                  held = record {
                    kept = w.held.kept;
                    tight = λ a h. set_cases (λ (x : ℕ). 0 < x → at y (at to a) ≤ at y
                        (at from a) + at gap a) flow k _ a flow-in (λ q u. tight-here a (sym e1 ∙ q)) (λ ne. w.held.tight a h);
                  };
                  capped = omega (arith, w.capped, ap (at capacity) rp);
                }),
                lt,
              )
            where
              tight-here : (a : ℕ) → i ≡ a → at y (at to a) ≤ at y (at from a) + at gap a
              tight-here a q = subst (λ (j : ℕ). at y (at to j) ≤ at y (at from j) + at gap j) q (omega (arith, ap (at y) e3, ap (at y) e4))
          go (Link.bwd i p e1 e2 e3 e4 e5 e6 e7 e8) (Steps.bwd ne ef er) =
              let rp : r ≡ p = cc in
              let lt : at rank r < at rank cur = omega (arith, ap (at rank) rp) in
              let k = at parent cur in
              let fk : at from k ≡ cur = cc in
              let w' : OnWay from to old (set flow k (at flow k - d)) d start
              (at to k) = way-sub from to old d start flow k flow-in (step-covers ne) (subst (λ
              (c : ℕ). OnWay from to old flow d start c) (sym fk) w.way) in (
                rw ef (record {
                  inside = omega (arith, shape.to_in k edge_in);
                  marked = omega (arith, ap (at rank) rp);
                  long = length-set flow k _ ∙ w.long;
                  way = rw er w';
                  same = same_after r _ lt;
                  grows = λ j. set_cases (λ (x : ℕ). x ≤ at old j + d) flow k _ j flow-in (λ q. omega (arith, kept_here, ap (at old) q)) (λ ne. w.grows j);
                  held = record {
                    kept = w.held.kept;
                    tight = λ a h. set_cases (λ (x : ℕ). 0 < x → at y (at to a) ≤ at y
                        (at from a) + at gap a) flow k _ a flow-in (λ q u. w.held.tight a h (omega (arith, ap (at flow) q)))
                        (λ ne. w.held.tight a h);
                  };
                  capped = omega (arith, w.capped, ap (at capacity) rp);
                }),
                lt,
              )

    -- Ranks fall along the way, so it ends at the node of rank 1, which is s.
    pub way-ends : at rank cur ≤ 1 → Pushed from to gap y d start s old flow
    way-ends le =
        let e : cur ≡ s = asks.tree.only cur w.inside (omega (arith, w.marked)) in
        record { long = w.long; way = subst (λ (c : ℕ). OnWay from to old flow d start c) e w.way; grows = w.grows; held = w.held }

pub planted : (n s amount : ℕ) (capacity : List ℕ) → length capacity ≡ n → s < n
    → Planted n s amount (set (replicate n 0) s 1) (set capacity s amount)
planted n s amount capacity k l = record {
  root = get_or-set_same (replicate n 0) s 1 0 (omega (arith, whole));
  others = λ v b ne. get_or-set_other (replicate n 0) s v 1 0 ne ∙ get_or-replicate {A = ℕ} n v 0 0 b;
  whole = get_or-set_same capacity s amount 0 (omega arith);
  rank_long = length-set (replicate n 0) s 1 ∙ whole;
  capacity_long = length-set capacity s amount ∙ k;
}
  where
    whole : length {A = ℕ} (replicate n 0) ≡ n
    whole = length-replicate {A = ℕ} n 0
