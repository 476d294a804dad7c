-- The parts of a table that are put on a page one behind the other: of an edge, and of a list item by item.
use mathlib.Core.Path.{◌≡◌, refl, ap}
use mathlib.Core.List.{List, [], ◌∷◌, ◌++◌, map}
use Prim.Native.Nat.{ℕ, ◌+◌, ◌≤◌, ◌<◌}
use native.Mathlib.Numerals.{add-one}
use lib.ListN.{length, get_or, drop, length-map, drop_of_length-le}
use lib.Seq.{drop-cons}
use Rattle.graph.specs.declared.TableEdge.{TableEdge}
use Rattle.table.specs.declared.types.Step.{Step}
use Rattle.labels.proofs.PageLaws.{Parts}
use Rattle.encoding.specs.Said.{Said, said_step}
use Rattle.encoding.specs.Shortest.{short_number, short_step, edition_for, short_firmness, short_edge, each, short_list, shortest}

-- ---- an edge: its ends, its sizes and its firmness

abbrev pub short_ends : TableEdge → List ℕ
short_ends e = short_number e.from ++ short_number e.to

abbrev pub short_sizes : TableEdge → List ℕ
short_sizes e = short_number e.gap ++ short_number e.weight

pub edge-parts : (edition : ℕ) (e : TableEdge) → Parts (short_edge edition e) (short_ends e ++ short_sizes e) (short_firmness edition e.soft)
unfolding short_edge
edge-parts edition e = record { is = refl }

-- ---- a list: its count, and the items from i on

module _ {A : Type 0} (write : A → List ℕ) (l : List A) where
  pub list-parts : Parts (short_list write l) (short_number (length l)) (each write l)
  unfolding short_list
  list-parts = record { is = refl }

  pub next-item : (none : A) (i : ℕ) → i < length l → Parts (each write (drop i l)) (write (get_or l i none)) (each write (drop (i + 1) l))
  unfolding each
  next-item none i h = record { is = rw (add-one, drop-cons l i none) }

  pub last-item : (i : ℕ) → length l ≤ i → each write (drop i l) ≡ []
  unfolding each
  last-item i h = ap (each write) (drop_of_length-le l h)

-- items of a list by what they say
pub each_map : {A B : Type 0} (say : A → B) (write : B → List ℕ) (l : List A) → each write (map say l) ≡ each (λ a. write (say a)) l
unfolding each
each_map say write [] = refl
each_map say write (a ∷ l) = ap (λ m. write (say a) ++ m) (each_map say write l)

pub said-parts : (bytes : List ℕ) (steps : List Step)
    → Parts (short_list short_step (map (said_step bytes) steps)) (short_number (length steps)) (each (λ s. short_step (said_step bytes s)) steps)
unfolding short_list
said-parts bytes steps = record { is = rw (length-map steps (said_step bytes), each_map (said_step bytes) short_step steps) }

-- ---- the table: the edition with the steps, and the edges

pub table-parts : (w : Said)
    → Parts (shortest w) (short_number (edition_for w.edges) ++ short_list short_step w.steps) (short_list (short_edge (edition_for w.edges)) w.edges)
unfolding shortest
table-parts w = record { is = refl }
