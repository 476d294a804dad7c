-- The search for a soft edge, and the loop that gathers the must edges.
use mathlib.Core.Path.{◌≡◌, refl, sym, ap, ◌∙◌}
use mathlib.Core.Bool.{Bool, true, false, cond, ◌||◌}
use mathlib.Core.List.{List, [], ◌∷◌, ◌++◌}
use Prim.Native.Nat.{ℕ, suc, ◌+◌, ◌≤◌, ◌<◌}
use native.Mathlib.Numerals.{add-one}
use native.Mathlib.Omega.{arith}
use lib.ListN.{length, get_or, take}
use lib.Seq.{take-suc, length-take-le}
use Rattle.std.proofs.Common.{take_all}
use Rattle.std.specs.List.{list_any}
use Rattle.graph.specs.declared.Edge.{Edge}
use Rattle.graph.specs.declared.TableEdge.{TableEdge}
use Rattle.graph.specs.Directed.{own_edge, no_table_edge}
use Rattle.table.specs.Limits.{max_edges}
use Rattle.acyclic.specs.Oriented.{must_of, any_soft}

-- ---- one edge more

must-append : (edges : List TableEdge) (e : TableEdge) → must_of (edges ++ e ∷ []) ≡ must_of edges ++ must_of (e ∷ [])
unfolding must_of
must-append [] e = refl
must-append (d ∷ edges) e = go d.soft (must-append edges e)
  where
    go : (b : Bool) → must_of (edges ++ e ∷ []) ≡ must_of edges ++ must_of (e ∷ [])
        → cond b (must_of (edges ++ e ∷ [])) (own_edge d ∷ must_of (edges ++ e ∷ [])) ≡ cond b (must_of edges) (own_edge d ∷ must_of edges) ++ must_of (e ∷ [])
    go true ih = ih
    go false ih = ap (λ (l : List Edge). own_edge d ∷ l) ih

-- a soft edge adds none, and a must edge itself
module _ (edges : List TableEdge) (e : TableEdge) where
  must-soft : e.soft ≡ true → must_of (edges ++ e ∷ []) ≡ must_of edges
  unfolding must_of
  must-soft s = must-append edges e ∙ rw s (append-none (must_of edges))
    where
      append-none : (l : List Edge) → l ++ [] ≡ l
      append-none [] = refl
      append-none (x ∷ l) = ap (λ (t : List Edge). x ∷ t) (append-none l)

  must-firm : e.soft ≡ false → must_of (edges ++ e ∷ []) ≡ must_of edges ++ own_edge e ∷ []
  unfolding must_of
  must-firm s = must-append edges e ∙ rw s refl

-- a search for a soft edge
pub soft-any : (edges : List TableEdge) → list_any (λ (e : TableEdge). e.soft) edges ≡ any_soft edges
unfolding any_soft
soft-any [] = refl
soft-any (e ∷ edges) = ap (λ (b : Bool). e.soft || b) (soft-any edges)

-- there are no more must edges than edges
pub must-fewer : (edges : List TableEdge) → length (must_of edges) ≤ length edges
unfolding must_of
must-fewer [] = omega arith
must-fewer (e ∷ edges) = go e.soft (must-fewer edges)
  where
    go : (b : Bool) → length (must_of edges) ≤ length edges → length (cond b (must_of edges) (own_edge e ∷ must_of edges)) ≤ suc (length edges)
    go true h = omega arith
    go false h = omega arith

-- ---- the loop: the must edges of the first i

pub must-start : (edges : List TableEdge) (flat : List Edge) → flat ≡ [] → flat ≡ must_of (take 0 edges)
unfolding must_of
must-start edges flat e = e

module _ (edges : List TableEdge) (flat : List Edge) (i : ℕ) (so_far : flat ≡ must_of (take i edges)) where
  pub must-room : i < length edges → length edges ≤ max_edges → length flat < max_edges
  must-room h few = omega (arith, ap length so_far, must-fewer (take i edges), length-take-le i edges (omega arith))

  list : i < length edges → take (i + 1) edges ≡ take i edges ++ get_or edges i no_table_edge ∷ []
  list inside = rw add-one (take-suc edges i no_table_edge inside)

  pub must-past : i < length edges → (get_or edges i no_table_edge).soft ≡ true → flat ≡ must_of (take (i + 1) edges)
  must-past h s = so_far ∙ sym (ap must_of (list h) ∙ must-soft (take i edges) (get_or edges i no_table_edge) s)

  pub must-more : (new : List Edge) (e : Edge) → i < length edges → (get_or edges i no_table_edge).soft ≡ false → e ≡ own_edge (get_or edges i no_table_edge)
      → new ≡ flat ++ e ∷ [] → new ≡ must_of (take (i + 1) edges)
  must-more new e h s same more =
      more ∙ rw (so_far, same) (sym (ap must_of (list h) ∙ must-firm (take i edges) (get_or edges i no_table_edge) s))

  pub must-all : length edges ≤ i → flat ≡ must_of edges
  must-all h = so_far ∙ ap must_of (take_all i edges h)
