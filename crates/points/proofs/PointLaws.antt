-- How many points and segments there are.
use mathlib.Core.Path.{◌≡◌, refl, sym, ap, ◌∙◌}
use mathlib.Core.List.{List, [], ◌∷◌, ◌++◌, map}
use Prim.Native.Nat.{ℕ, zero, suc, ◌+◌, ◌-◌, ◌≤◌, ◌<◌}
use native.Mathlib.Omega.{arith}
use lib.ListN.{length, take, drop, length-append, length-map, length-drop}
use lib.Seq.{length-take-le}
use Rattle.graph.specs.declared.Edge.{Edge}
use Rattle.graph.specs.Rows.{at}
use Rattle.graph.specs.Search.{run}
use Rattle.buffers.specs.Written.{Stored}
use Rattle.buffers.proofs.RunLaws.{run_length}
use Rattle.buffers.proofs.WriteLaws.{stored-put}
use Rattle.points.specs.declared.dummy.Dummy.{Dummy}
use Rattle.points.specs.Points.{Segment, between, dummies, point_rows, chain, segments_from, segments}
use Rattle.points.specs.Laying.{edges_between, uppers, lowers}
use Rattle.points.proofs.EdgeLaws.{between_at, between_all, dummy_rows, edges_from, rows-length, segments-turn}

map-append : {A B : Type 0} (f : A → B) (xs zs : List A) → map f (xs ++ zs) ≡ map f xs ++ map f zs
map-append f [] zs = refl
map-append f (x ∷ xs) zs = ap (λ l. f x ∷ l) (map-append f xs zs)

rows_of : (i : ℕ) (rs : List ℕ) → map (λ (d : Dummy). d.row) (map (λ r. record { edge = i; row = r }) rs) ≡ rs
rows_of i [] = refl
rows_of i (r ∷ rs) = ap (λ l. r ∷ l) (rows_of i rs)

dummies-rows : (ys : List ℕ) (i : ℕ) (edges : List Edge) → map (λ (d : Dummy). d.row) (dummies ys i edges) ≡ dummy_rows ys edges
unfolding dummies dummy_rows
dummies-rows ys i [] = refl
dummies-rows ys i (e ∷ edges) =
    let rs = run (suc (at ys e.from)) (between ys e) in
    map-append (λ (d : Dummy). d.row) (map (λ r. record { edge = i; row = r }) rs) (dummies ys (suc i) edges)
    ∙ ap (λ l. l ++ map (λ (d : Dummy). d.row) (dummies ys (suc i) edges)) (rows_of i rs)
    ∙ ap (λ l. rs ++ l) (dummies-rows ys (suc i) edges)

-- the rows of the points: those of the nodes, and then a run of rows for each edge
pub rows_are : (ys : List ℕ) (edges : List Edge) → point_rows ys edges ≡ ys ++ dummy_rows ys edges
unfolding point_rows
rows_are ys edges = ap (λ l. ys ++ l) (dummies-rows ys 0 edges)

-- a point for each node, and for each edge one fewer than its length
pub points-length : (ys : List ℕ) (edges : List Edge) → length (point_rows ys edges) ≡ length ys + between_all ys edges
points-length ys edges = ap length (rows_are ys edges) ∙ length-append ys (dummy_rows ys edges) ∙ ap (λ (k : ℕ). length ys + k) (rows-length ys edges)

-- ---- the chain of an edge: its upper ends, and its lower

pub chain-uppers : (a b d k : ℕ) → uppers (chain a b d k) ≡ a ∷ run d k
unfolding chain run
chain-uppers a b d zero = refl
chain-uppers a b d (suc k) = ap (λ (l : List ℕ). a ∷ l) (chain-uppers d b (suc d) k)

pub chain-lowers : (a b d k : ℕ) → lowers (chain a b d k) ≡ run d k ++ (b ∷ [])
unfolding chain run
chain-lowers a b d zero = refl
chain-lowers a b d (suc k) = ap (λ (l : List ℕ). d ∷ l) (chain-lowers d b (suc d) k)

-- consecutive numbers put in the place of the entries from p up to q
pub stored-run : (l : List ℕ) (p q f g n : ℕ) {vs : List ℕ} → vs ≡ run f (length (take (q - p) (drop p l))) → p ≤ q → q ≤ length l → g ≡ f → n ≡ q - p
    → Stored l p (run g n) (take p l ++ (vs ++ drop (q - p) (drop p l))) q
stored-run l p q f g n {vs} e h k same long =
    let m : length (take (q - p) (drop p l)) ≡ n = length-take-le (q - p) (drop p l) (omega (arith, length-drop p l)) ∙ sym long in
    let e' : vs ≡ run g n = e ∙ ap (run f) m ∙ ap (λ (x : ℕ). run x n) (sym same) in
    rw e' (stored-put l p q (run g n) (omega (arith, run_length g n)) k)

-- ---- how many segments there are

pub chain_length : (a b d k : ℕ) → length (chain a b d k) ≡ suc k
unfolding chain
chain_length a b d zero = refl
chain_length a b d (suc k) = ap suc (chain_length d b (suc d) k)

-- a segment more for each edge than it has dummies
pub segments-length : (ys : List ℕ) (d : ℕ) (edges : List Edge) → length (segments_from ys d edges) ≡ length edges + between_all ys edges
unfolding segments_from between_all
segments-length ys d [] = refl
segments-length ys d (e ∷ edges) = simp (length-append, chain_length) (omega (arith, segments-length ys (d + between ys e) edges))

module _ (a b d k : ℕ) where
  pub uppers-length : length (uppers (chain a b d k)) ≡ suc k
  uppers-length = length-map (chain a b d k) (λ (s : Segment). s.upper) ∙ chain_length a b d k

  pub lowers-length : length (lowers (chain a b d k)) ≡ suc k
  lowers-length = length-map (chain a b d k) (λ (s : Segment). s.lower) ∙ chain_length a b d k

-- ---- the ends of the segments, edge by edge

module _ (ys from to : List ℕ) (i : ℕ) (h : i < length from) (d k : ℕ) (e : k ≡ between_at ys from to i) where
  pub uppers-turn : uppers (segments_from ys d (edges_from from to i))
      ≡ uppers (chain (at from i) (at to i) d k) ++ uppers (segments_from ys (d + k) (edges_from from to (i + 1)))
  uppers-turn = ap uppers (segments-turn ys from to i h d k e) ∙ map-append (λ (s : Segment). s.upper) (chain (at from i) (at to i) d k) _

  pub lowers-turn : lowers (segments_from ys d (edges_from from to i))
      ≡ lowers (chain (at from i) (at to i) d k) ++ lowers (segments_from ys (d + k) (edges_from from to (i + 1)))
  lowers-turn = ap lowers (segments-turn ys from to i h d k e) ∙ map-append (λ (s : Segment). s.lower) (chain (at from i) (at to i) d k) _

-- ---- gaps and weights play no part: any edges have the points and segments of their ends

abbrev pub tails : List Edge → List ℕ
tails edges = map (λ (e : Edge). e.from) edges

abbrev pub heads : List Edge → List ℕ
heads edges = map (λ (e : Edge). e.to) edges

rows-by-ends : (ys : List ℕ) (edges : List Edge) → dummy_rows ys (edges_between (tails edges) (heads edges)) ≡ dummy_rows ys edges
unfolding dummy_rows edges_between
rows-by-ends ys [] = refl
rows-by-ends ys (e ∷ edges) = ap (λ l. run (suc (at ys e.from)) (between ys e) ++ l) (rows-by-ends ys edges)

segments-by-ends : (ys : List ℕ) (d : ℕ) (edges : List Edge) → segments_from ys d (edges_between (tails edges) (heads edges)) ≡ segments_from ys d edges
unfolding segments_from edges_between
segments-by-ends ys d [] = refl
segments-by-ends ys d (e ∷ edges) =
    ap (λ l. chain e.from e.to d (between ys e) ++ l) (segments-by-ends ys (d + between ys e) edges)

pub any-points : (ys : List ℕ) (edges : List Edge) → point_rows ys (edges_between (tails edges) (heads edges)) ≡ point_rows ys edges
any-points ys edges =
    rows_are ys (edges_between (tails edges) (heads edges)) ∙ ap (λ l. ys ++ l) (rows-by-ends ys edges) ∙ sym (rows_are ys edges)

pub any-segments : (ys : List ℕ) (edges : List Edge) → segments ys (edges_between (tails edges) (heads edges)) ≡ segments ys edges
unfolding segments
any-segments ys edges = segments-by-ends ys (length ys) edges
