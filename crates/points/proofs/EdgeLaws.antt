-- Edges by their ends, and what each turn of a loop over them meets.
use mathlib.Core.Path.{◌≡◌, refl, ap}
use mathlib.Core.List.{List, [], ◌∷◌, ◌++◌, tail}
use Prim.Native.Nat.{ℕ, zero, suc, ◌+◌, ◌-◌, ◌*◌, ◌≤◌, ◌<◌}
use native.Mathlib.Nat.{not-suc-le-zero, le_of_suc-le-suc}
use native.Mathlib.Numerals.{add-one}
use native.Mathlib.Omega.{arith}
use lib.ListN.{length, get_or, drop, length-append, drop_of_length-le}
use lib.Seq.{drop-cons}
use Rattle.graph.specs.declared.Edge.{Edge}
use Rattle.graph.specs.Rows.{at, no_edge}
use Rattle.graph.specs.Search.{run}
use Rattle.buffers.proofs.ListLaws.{at_tail, at_low}
use Rattle.buffers.proofs.RunLaws.{run_length}
use Rattle.points.specs.Points.{between, chain, segments_from}
use Rattle.points.specs.Laying.{edges_between, size_limit, Chart}
use Rattle.buffers.specs.Written.{word_limit}

-- ---- the edges of two lists of ends

pub edges-length : (from to : List ℕ) → length (edges_between from to) ≡ length from
unfolding edges_between
edges-length [] to = refl
edges-length (a ∷ from) to = ap suc (edges-length from (tail to))

abbrev pub edge_of : List ℕ → List ℕ → ℕ → Edge
edge_of from to i = record { from = at from i; to = at to i; gap = 0; weight = 0 }

pub edge_at : (from to : List ℕ) (i : ℕ) → i < length from → get_or (edges_between from to) i no_edge ≡ edge_of from to i
unfolding edges_between
edge_at [] to i h = absurd (not-suc-le-zero h)
edge_at (a ∷ from) to zero h = refl
edge_at (a ∷ from) to (suc i) h = rw (edge_at from (tail to) i (le_of_suc-le-suc h), at_tail to i)

-- the edges from number i on
abbrev pub edges_from : List ℕ → List ℕ → ℕ → List Edge
edges_from from to i = drop i (edges_between from to)

-- how many dummies edge i has
abbrev pub between_at : List ℕ → List ℕ → List ℕ → ℕ → ℕ
between_at ys from to i = at ys (at to i) - at ys (at from i) - 1

-- ---- what all edges have

unfoldable pub between_all : List ℕ → List Edge → ℕ
between_all ys [] = 0
between_all ys (e ∷ edges) = between ys e + between_all ys edges

unfoldable pub dummy_rows : List ℕ → List Edge → List ℕ
dummy_rows ys [] = []
dummy_rows ys (e ∷ edges) = run (suc (at ys e.from)) (between ys e) ++ dummy_rows ys edges

pub rows-length : (ys : List ℕ) (edges : List Edge) → length (dummy_rows ys edges) ≡ between_all ys edges
unfolding dummy_rows between_all
rows-length ys [] = refl
rows-length ys (e ∷ edges) = simp (length-append, run_length) (ap (λ (k : ℕ). between ys e + k) (rows-length ys edges))

-- ---- edge i, and those behind it

module _ (ys from to : List ℕ) (i : ℕ) (h : i < length from) where
  edges-turn : edges_from from to i ≡ edge_of from to i ∷ edges_from from to (i + 1)
  edges-turn = let l : i < length (edges_between from to) = omega (arith, edges-length from to) in
      rw (add-one i, ← edge_at from to i h) (drop-cons (edges_between from to) i no_edge l)

  pub between-turn : between_all ys (edges_from from to i) ≡ between_at ys from to i + between_all ys (edges_from from to (i + 1))
  unfolding between_all
  between-turn = ap (between_all ys) edges-turn

  pub rows-turn : dummy_rows ys (edges_from from to i)
      ≡ run (suc (at ys (at from i))) (between_at ys from to i) ++ dummy_rows ys (edges_from from to (i + 1))
  unfolding dummy_rows
  rows-turn = ap (dummy_rows ys) edges-turn

  pub segments-turn : (d k : ℕ) → k ≡ between_at ys from to i → segments_from ys d (edges_from from to i)
      ≡ chain (at from i) (at to i) d k ++ segments_from ys (d + k) (edges_from from to (i + 1))
  unfolding segments_from
  segments-turn d k e = rw e (ap (segments_from ys d) edges-turn)

edges-end : (from to : List ℕ) (i : ℕ) → length from ≤ i → edges_from from to i ≡ []
edges-end from to i h = drop_of_length-le (edges_between from to) {i = i} (omega (arith, edges-length from to))

module _ (ys from to : List ℕ) (i : ℕ) (h : length from ≤ i) where
  pub between-end : between_all ys (edges_from from to i) ≡ 0
  unfolding between_all
  between-end = ap (between_all ys) (edges-end from to i h)

  pub rows_end : dummy_rows ys (edges_from from to i) ≡ []
  unfolding dummy_rows
  rows_end = ap (dummy_rows ys) (edges-end from to i h)

  pub segments-end : (d : ℕ) → segments_from ys d (edges_from from to i) ≡ []
  unfolding segments_from
  segments-end d = ap (segments_from ys d) (edges-end from to i h)

-- ---- a chart's edge i joins two of its nodes

module _ {ys from to : List ℕ} (c : Chart ys from to) (i : ℕ) (h : i < length from) where
  pub tail-in : at from i < length ys
  tail-in = c.from_in.below i h

  pub to_inside : i < length to
  to_inside = omega (arith, c.to_long)

  pub head_in : at to i < length ys
  head_in = c.to_in.below i to_inside

-- ---- sizes

between-small : (ys : List ℕ) (edges : List Edge) → ((x : ℕ) → at ys x < size_limit) → between_all ys edges ≤ length edges * size_limit
unfolding between_all
between-small ys [] b = omega arith
between-small ys (e ∷ edges) b = omega (arith, b e.to, between-small ys edges b)

-- the points can be counted in a word
pub points-fit : {ys from to : List ℕ} → Chart ys from to → length ys + between_all ys (edges_between from to) < word_limit
points-fit {ys} {from} {to} c =
    omega (arith, between-small ys (edges_between from to) (at_low size_limit ys (omega arith) c.few_rows), edges-length from to, c.few_nodes, c.few_edges)
