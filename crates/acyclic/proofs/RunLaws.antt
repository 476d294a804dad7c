-- Walks over edges that stand, where one more edge joins them.
use mathlib.Core.Path.{◌≡◌, refl, sym, subst}
use mathlib.Core.Logic.{◌⊎◌, inl, inr, ⊎_elim}
use mathlib.Core.List.{List, [], ◌∷◌}
use Prim.Native.Nat.{ℕ, zero, suc, ◌<◌, suc-le-suc}
use native.Mathlib.Nat.{le_of_suc-le-suc, zero-lt-suc}
use native.Mathlib.Omega.{arith}
use lib.ListN.{length, get_or}
use Rattle.graph.specs.declared.Edge.{Edge}
use Rattle.graph.specs.Rows.{no_edge}
use Rattle.acyclic.specs.Loops.{Walk, LoopFree}
use Rattle.acyclic.specs.Loops as loops

-- ---- walks joined and replaced

pub walk-join : {edges : List Edge} {s u v : ℕ} → Walk edges s u → Walk edges u v → Walk edges s v
walk-join {edges} {s} w (loops.one i h e) = loops.more i h (subst (Walk edges s) (sym e) w)
walk-join w (loops.more i h x) = loops.more i h (walk-join w x)

-- a walk along each edge of one list over those of another
pub record Runs (edges others : List Edge) : Type 0 where
  pub along : (i : ℕ) → i < length edges → Walk others (get_or edges i no_edge).from (get_or edges i no_edge).to

-- then a walk over the one is a walk over the other: each of its edges is replaced by the walk along it
pub walk-replace : {edges others : List Edge} {s v : ℕ} → Runs edges others → Walk edges s v → Walk others s v
walk-replace {edges} {others} r (loops.one i h e) = subst (λ (k : ℕ). Walk others k (get_or edges i no_edge).to) e (r.along i h)
walk-replace r (loops.more i h w) = walk-join (walk-replace r w) (r.along i h)

pub runs-free : {edges others : List Edge} → Runs edges others → LoopFree others → LoopFree edges
runs-free r f = record { free = λ k w. f.free k (walk-replace r w) }

pub runs-join : {edges others last : List Edge} → Runs edges others → Runs others last → Runs edges last
runs-join r q = record { along = λ i h. walk-replace q (r.along i h) }

pub runs_same : (edges : List Edge) → Runs edges edges
runs_same edges = record { along = λ i h. loops.one i h refl }

pub runs_none : (others : List Edge) → Runs [] others
runs_none others = record { along = λ i h. absurd (omega arith) }

-- ---- one edge more

pub walk_here : (e : Edge) (stand : List Edge) → Walk (e ∷ stand) e.from e.to
walk_here e stand = loops.one zero (zero-lt-suc (length stand)) refl

pub runs-later : (e : Edge) (stand : List Edge) → Runs stand (e ∷ stand)
runs-later e stand = record { along = λ i h. loops.one (suc i) (suc-le-suc h) refl }

pub runs-cons : {e : Edge} {edges others : List Edge} → Walk others e.from e.to → Runs edges others → Runs (e ∷ edges) others
runs-cons {e} {edges} {others} w r = record { along = go }
  where
    go : (i : ℕ) → i < length (e ∷ edges) → Walk others (get_or (e ∷ edges) i no_edge).from (get_or (e ∷ edges) i no_edge).to
    go zero h = w
    go (suc i) h = r.along i (le_of_suc-le-suc h)

pub runs-head : {e : Edge} {edges others : List Edge} → Runs (e ∷ edges) others → Walk others e.from e.to
runs-head {e} {edges} r = r.along zero (zero-lt-suc (length edges))

pub runs-tail : {e : Edge} {edges others : List Edge} → Runs (e ∷ edges) others → Runs edges others
runs-tail r = record { along = λ i h. r.along (suc i) (suc-le-suc h) }

-- ---- walks with one edge more

-- there already, or a walk away
abbrev pub Reach : List Edge → ℕ → ℕ → Type 0
Reach edges s v = (s ≡ v) ⊎ Walk edges s v

reach-on : {edges : List Edge} {s : ℕ} (i : ℕ) → i < length edges → Reach edges s (get_or edges i no_edge).from → Reach edges s (get_or edges i no_edge).to
reach-on i h (inl e) = inr (loops.one i h (sym e))
reach-on i h (inr w) = inr (loops.more i h w)

reach-join : {edges : List Edge} {s u v : ℕ} → Reach edges s u → Reach edges u v → Reach edges s v
reach-join {edges} {s} {u} {v} (inl e) r = subst (λ (k : ℕ). Reach edges k v) (sym e) r
reach-join {edges} {s} {u} {v} (inr w) (inl e) = inr (subst (Walk edges s) e w)
reach-join (inr w) (inr x) = inr (walk-join w x)

module _ (e : Edge) (stand : List Edge) where
  pub walk-later : {s v : ℕ} → Walk stand s v → Walk (e ∷ stand) s v
  walk-later w = walk-replace (runs-later e stand) w

  -- A walk with the edge goes without it, or without it to its tail and without it on from its head: it is cut at the edge's first use and
  -- at its last.
  pub walk_split : {s v : ℕ} → Walk (e ∷ stand) s v → Walk stand s v ⊎ (Reach stand s e.from × Reach stand e.to v)
  walk_split (loops.one zero h q) = inr (inl (sym q), inl refl)
  walk_split (loops.one (suc i) h q) = inl (loops.one i (le_of_suc-le-suc h) q)
  walk_split (loops.more zero h w) = ⊎_elim (λ x. inr (inr x, inl refl)) (λ p. inr (p.0, inl refl)) (walk_split w)
  walk_split (loops.more (suc i) h w) =
      let l = le_of_suc-le-suc h in
      ⊎_elim (λ x. inl (loops.more i l x)) (λ p. inr (p.0, reach-on i l p.1)) (walk_split w)

  -- and back: to its tail, over it, and on from its head
  pub walk-over : {s v : ℕ} → Reach stand s e.from → Reach stand e.to v → Walk (e ∷ stand) s v
  walk-over {s} {v} p q = onward q (forth p)
    where
      forth : Reach stand s e.from → Walk (e ∷ stand) s e.to
      forth (inl same) = subst (λ (k : ℕ). Walk (e ∷ stand) k e.to) (sym same) (walk_here e stand)
      forth (inr w) = walk-join (walk-later w) (walk_here e stand)

      onward : Reach stand e.to v → Walk (e ∷ stand) s e.to → Walk (e ∷ stand) s v
      onward (inl same) w = subst (Walk (e ∷ stand) s) same w
      onward (inr x) w = walk-join w (walk-later x)

  -- an edge between two nodes, from whose head nothing leads to its tail, closes no loop
  pub free_more : (e.from ≡ e.to → ⊥) → (Walk stand e.to e.from → ⊥) → LoopFree stand → LoopFree (e ∷ stand)
  free_more apart shut f = record { free = λ k w. ⊎_elim (f.free k) (λ p. no_way (reach-join p.1 p.0)) (walk_split w) }
    where
      no_way : Reach stand e.to e.from → ⊥
      no_way r = ⊎_elim (λ q. apart (sym q)) shut r
