-- The dummies laid edge by edge: those of the first edges are laid, and the rest is to come.
use mathlib.Core.Path.{◌≡◌, refl, sym, ap, ◌∙◌, subst}
use mathlib.Core.Bool.{Bool}
use mathlib.Core.List.{List, [], ◌∷◌, ◌++◌, map}
use Prim.Native.Nat.{ℕ, suc, ◌+◌, ◌-◌, ◌≤◌, ◌<◌}
use native.Mathlib.Numerals.{add-one}
use lib.ListN.{length, get_or, drop, drop_of_length-le, length-map}
use lib.Seq.{drop-cons}
use Rattle.graph.specs.declared.Edge.{Edge}
use Rattle.graph.specs.Rows.{at, no_edge}
use Rattle.graph.specs.Search.{run}
use Rattle.merging.specs.declared.MergedEdge.{MergedEdge}
use Rattle.merging.specs.Merged.{no_merged_edge, drawn_edge, drawn_edges}
use Rattle.merging.proofs.SameLaws.{drawn-get}
use Rattle.points.specs.declared.dummy.Dummy.{Dummy}
use Rattle.points.specs.Points.{dummies}
use Rattle.labels.proofs.PageLaws.{Parts}
use Rattle.lines.specs.Printing.{numbered, dummies_on, Layable}

map-append : {A B : Type 0} (f : A → B) (xs ys : List A) → map f (xs ++ ys) ≡ map f xs ++ map f ys
map-append f [] ys = refl
map-append f (x ∷ xs) ys = ap (f x ∷◌) (map-append f xs ys)

map-map : {A B C : Type 0} (f : B → C) (g : A → B) (xs : List A) → map f (map g xs) ≡ map (λ x. f (g x)) xs
map-map f g [] = refl
map-map f g (x ∷ xs) = ap (f (g x) ∷◌) (map-map f g xs)

-- ---- edge by edge

-- the rows between the ends of an edge
abbrev pub rows_between : List ℕ → Edge → List ℕ
rows_between ys e = run (suc (at ys e.from)) (at ys e.to - at ys e.from - 1)

pub dummies-length : (edge : ℕ) (rows : List ℕ) → length (dummies_on edge rows) ≡ length rows
dummies-length edge rows = length-map rows (λ (r : ℕ). record { edge = edge; row = r })

pub numbered-count : (list : List MergedEdge) (ds : List Dummy) → length (numbered list ds) ≡ length ds
unfolding numbered
numbered-count list ds = length-map ds (λ (d : Dummy). record { edge = (get_or list d.edge no_merged_edge).first; row = d.row })

module _ (list : List MergedEdge) (ys : List ℕ) (edges : List Edge) (i : ℕ) where
  -- the dummies of the edges from number i on
  abbrev pub still : List Dummy
  still = numbered list (dummies ys i (drop i edges))

  abbrev pub later : List Dummy
  later = numbered list (dummies ys (i + 1) (drop (i + 1) edges))

  pub next-laid : {e : Edge} → i < length edges → get_or edges i no_edge ≡ e
      → Parts still (dummies_on (get_or list i no_merged_edge).first (rows_between ys e)) later
  unfolding dummies numbered
  next-laid {e} h p =
      let own : Dummy → Dummy = λ d. record { edge = (get_or list d.edge no_merged_edge).first; row = d.row } in
      record {
        is =
            ap (λ (l : List Edge). map own (dummies ys i l)) (drop-cons edges i no_edge h)
            ∙ rw (p, add-one i)
            (map-append own (dummies_on i (rows_between ys e)) (dummies ys (suc i) (drop (suc i) edges))
            ∙ ap (◌++ map own (dummies ys (suc i) (drop (suc i) edges))) (map-map own (λ r. record { edge = i; row = r }) (rows_between ys e)));
      }

  pub last-laid : length edges ≤ i → still ≡ []
  unfolding dummies numbered
  last-laid h = ap (λ (l : List Edge). numbered list (dummies ys i l)) (drop_of_length-le edges {i = i} h)

-- an edge that leads down between rows that are given
pub record Downward (ys : List ℕ) (e : Edge) : Type 0 where
  pub from_in : e.from < length ys
  pub to_in : e.to < length ys
  pub down : at ys e.from < at ys e.to

-- merged edge i, directed by its own flag, is edge i of those that are drawn, and leads down where they can be laid
module _ (list : List MergedEdge) (turned : List Bool) (i : ℕ) (h : i < length list) {d : Edge} (e : d ≡ drawn_edge turned (get_or list i no_merged_edge)) where
  pub laid-edge : get_or (drawn_edges turned list) i no_edge ≡ d
  laid-edge = drawn-get turned list i h ∙ sym e

  pub laid-down : {ys : List ℕ} {cap : ℕ} → Layable list turned ys cap → Downward ys d
  laid-down {ys} g = subst (Downward ys) laid-edge (record { from_in = g.from_in i h; to_in = g.to_in i h; down = g.down i h })
