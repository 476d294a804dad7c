-- The best rows as a definition that computes: every placement is tried. It shares nothing with the method of the solver.
use Rattle.std.specs.Prelude.{Bool, true, ◌&&◌, ◌||◌, cond, List, [], ◌∷◌, ◌++◌, map, ℕ, zero, suc, ◌+◌, ◌*◌, ◌-◌, max, leb, ltb, length}
use Rattle.graph.specs.declared.Edge.{Edge}
use Rattle.graph.specs.Rows.{at, total}

-- k numbers from a on
unfoldable pub run : ℕ → ℕ → List ℕ
run a zero = []
run a (suc k) = a ∷ run (suc a) k

-- the rows ys, of the first nodes, keep the edge, where both its ends are among them
unfoldable pub keeps_one : List ℕ → Edge → Bool
keeps_one ys e = leb (length ys) e.from || leb (length ys) e.to || leb (at ys e.from + e.gap) (at ys e.to)

unfoldable pub keeps : List Edge → List ℕ → Bool
keeps [] ys = true
keeps (e ∷ edges) ys = keeps_one ys e && keeps edges ys

-- those of the lists that keep the edges
unfoldable pub sieve : List Edge → List (List ℕ) → List (List ℕ)
sieve edges [] = []
sieve edges (c ∷ cs) = let rest = sieve edges cs in cond (keeps edges c) (c ∷ rest) rest

-- one node more, at each row from 0 to b
unfoldable pub extend : List Edge → ℕ → List (List ℕ) → List (List ℕ)
extend edges b [] = []
extend edges b (c ∷ cs) = sieve edges (map (λ x. c ++ x ∷ []) (run 0 (suc b))) ++ extend edges b cs

-- the placements of the first k nodes at the rows 0 to b that keep the edges, in dictionary order
unfoldable pub placements : List Edge → ℕ → ℕ → List (List ℕ)
placements edges b zero = [] ∷ []
placements edges b (suc k) = extend edges b (placements edges b k)

-- the first of the lightest of c and cs, by what each weighs
unfoldable pub lightest : (List ℕ → ℕ) → List ℕ → List (List ℕ) → List ℕ
lightest weigh c [] = c
lightest weigh c (d ∷ ds) = lightest weigh (cond (ltb (weigh d) (weigh c)) d c) ds

unfoldable pub first_lightest : (List ℕ → ℕ) → List (List ℕ) → List ℕ
first_lightest weigh [] = []
first_lightest weigh (c ∷ cs) = lightest weigh c cs

-- the largest gap
unfoldable pub widest : List Edge → ℕ
widest [] = 0
widest (e ∷ edges) = max e.gap (widest edges)

-- The answer of document 01 under "Rows": of the feasible placements of least total the first in dictionary order, which is the
-- lowest at every node. No row of the answer is above (n − 1) times the largest gap, so no other placement need be tried.
unfoldable pub rows_of : ℕ → List Edge → List ℕ
rows_of n edges = first_lightest (λ ys. total edges (at ys)) (placements edges ((n - 1) * widest edges) n)
