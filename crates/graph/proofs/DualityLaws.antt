-- A balanced flow over tight edges shows that rows have the least total; residual walks from 0 show that they are the lowest.
use mathlib.Core.Path.{◌≡◌, refl, sym, ◌∙◌}
use mathlib.Core.List.{List, [], ◌∷◌}
use Prim.Native.Nat.{ℕ, zero, suc, ◌+◌, ◌*◌, ◌-◌, ◌≤◌, ◌<◌, suc-le-suc}
use native.Mathlib.Nat.{zero-lt-suc}
use native.Mathlib.Omega.{arith}
use lib.ListN.{length, get_or}
use lib.Seq.{ext_get_or}
use Rattle.graph.specs.declared.Edge.{Edge}
use Rattle.graph.specs.Rows.{no_edge, at, Feasible, total, Best}
use Rattle.graph.proofs.FlowLaws.{dot, weights, into, outof, gaps, Balanced, UsedTight, gaps-le, gaps-eq, tight-of-gaps}

-- the total with no subtraction in it
pub total-eq : (edges : List Edge) (y : ℕ → ℕ) → Feasible edges y → total edges y + outof (weights edges) edges y ≡ into (weights edges) edges y
unfolding total dot
total-eq [] y h = refl
total-eq (e ∷ edges) y h =
    let ih = total-eq edges y (λ i b. h (suc i) (suc-le-suc b)) in
    let k = h zero (zero-lt-suc (length edges)) in
    let m : e.weight * (y e.to - y e.from + y e.from) ≡ e.weight * y e.to = rw (sub-add (y e.to) (y e.from) (omega arith)) in
    omega arith
  where
    sub-add : (p q : ℕ) → q ≤ p → p - q + q ≡ p
    sub-add p q l = omega arith

-- Weak duality: what a balanced flow collects in gaps is at most the total of any feasible rows. Put the rows into the balance: the
-- total is what the flow carries over them, and on each edge that is at least the flow times the gap.
pub flow-le : (edges : List Edge) (f : List ℕ) (z : ℕ → ℕ) → Balanced edges f → Feasible edges z → gaps f edges ≤ total edges z
flow-le edges f z bal h = omega (arith, bal z, total-eq edges z h, gaps-le edges f z h)

module _ (edges : List Edge) (f : List ℕ) (y : ℕ → ℕ) (bal : Balanced edges f) (fea : Feasible edges y) (tight : UsedTight edges f y) where
  -- Strong duality: where the flow uses tight edges only, the total is what it collects in gaps.
  pub total-is-gaps : total edges y ≡ gaps f edges
  total-is-gaps = omega (arith, bal y, total-eq edges y fea, gaps-eq edges f y tight)

  pub total-least : (z : ℕ → ℕ) → Feasible edges z → total edges y ≤ total edges z
  total-least z h = omega (arith, total-is-gaps, flow-le edges f z bal h)

  -- Complementary slackness: feasible rows of the same total are tight wherever the flow is.
  pub tight-of-total : (z : ℕ → ℕ) → Feasible edges z → total edges z ≡ total edges y → UsedTight edges f z
  tight-of-total z h e = tight-of-gaps edges f z h (omega (arith, total-is-gaps, bal z, total-eq edges z h))

-- The certificate. A balanced flow over tight edges makes the total least; any rows of that total are tight on the used edges too, so
-- it is enough that the rows lie nowhere above feasible rows that are tight there.
pub best-of-flow : (n : ℕ) (edges : List Edge) (f ys : List ℕ) → length ys ≡ n → Balanced edges f → Feasible edges (at ys)
    → UsedTight edges f (at ys)
    → ((z : ℕ → ℕ) → Feasible edges z → UsedTight edges f z → (i : ℕ) → i < n → at ys i ≤ z i)
    → Best n edges ys
best-of-flow n edges f ys long bal fea tight low =
    record {
      one_a_node = long;
      feasible = fea;
      least = λ zs _ h. total-least edges f (at ys) bal fea tight (at zs) h;
      lowest = λ zs _ h e. low (at zs) h (tight-of-total edges f (at ys) bal fea tight (at zs) h e);
    }

-- a walk over residual arcs from height 0, up any edge by its gap and down a used edge by its gap, comes to v at height h
pub data Climb (edges : List Edge) (f : List ℕ) : ℕ → ℕ → Type 0 where
  ground : {v : ℕ} → Climb edges f v 0
  over : {h : ℕ} (i : ℕ) → i < length edges → Climb edges f (get_or edges i no_edge).from h
      → Climb edges f (get_or edges i no_edge).to (h + (get_or edges i no_edge).gap)
  under : {h : ℕ} (i : ℕ) → i < length edges → 0 < get_or f i 0 → Climb edges f (get_or edges i no_edge).to h
      → Climb edges f (get_or edges i no_edge).from (h - (get_or edges i no_edge).gap)

-- No residual walk climbs above feasible rows that are tight on the used edges: each step up is by a kept edge, each step down by a
-- tight one.
pub climb-le : (edges : List Edge) (f : List ℕ) (z : ℕ → ℕ) → Feasible edges z → UsedTight edges f z → {v h : ℕ} → Climb edges f v h → h ≤ z v
climb-le edges f z fz tz ground = omega arith
climb-le edges f z fz tz (over i b c) = omega (arith, climb-le edges f z fz tz c, fz i b)
climb-le edges f z fz tz (under i b u c) = omega (arith, climb-le edges f z fz tz c, tz i b u)

-- the certificate in one: what a solver has to show of its rows and its flow
pub best-of-climbs : (n : ℕ) (edges : List Edge) (f ys : List ℕ) → length ys ≡ n → Balanced edges f → Feasible edges (at ys)
    → UsedTight edges f (at ys) → ((i : ℕ) → i < n → Climb edges f i (at ys i)) → Best n edges ys
best-of-climbs n edges f ys long bal fea tight climbs =
    best-of-flow n edges f ys long bal fea tight (λ z fz tz i h. climb-le edges f z fz tz (climbs i h))

-- Best rows are unique: two of them have the same total, and then neither is anywhere above the other.
pub best-unique : (n : ℕ) (edges : List Edge) (ys zs : List ℕ) → Best n edges ys → Best n edges zs → ys ≡ zs
best-unique n edges ys zs p q =
    let e : total edges (at zs) ≡ total edges (at ys) = omega (arith, p.least zs q.one_a_node q.feasible, q.least ys p.one_a_node p.feasible) in
    ext_get_or 0 ys zs (p.one_a_node ∙ sym q.one_a_node) (λ i b.
    let h : i < n = omega (arith, p.one_a_node) in
    omega (arith, p.lowest zs q.one_a_node q.feasible e i h, q.lowest ys p.one_a_node p.feasible (sym e) i h))
