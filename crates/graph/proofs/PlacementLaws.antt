-- No row of the answer is above the rows that the definition tries: it is one of the placements.
use mathlib.Core.Bool.{Bool, true, false, cond}
use mathlib.Core.List.{List, [], ◌∷◌, ◌++◌, map}
use Prim.Native.Nat.{ℕ, zero, suc, ◌+◌, ◌*◌, ◌-◌, ◌≤◌, zero-le}
use native.Mathlib.Omega.{arith}
use lib.Dec.{ltb}
use Rattle.graph.specs.declared.Edge.{Edge}
use Rattle.graph.specs.Rows.{at, total}
use Rattle.graph.specs.Search.{run, keeps, sieve, extend, placements, lightest, first_lightest, widest, rows_of}

-- ---- one list of rows, and several

-- no row is above b
record Under (b : ℕ) (ys : List ℕ) : Type 0 where
  low : (v : ℕ) → at ys v ≤ b

low-none : (b : ℕ) → Under b []
low-none b = record { low = λ v. zero-le }

low-snoc : (b x : ℕ) (ys : List ℕ) → x ≤ b → Under b ys → Under b (ys ++ x ∷ [])
low-snoc b x [] h l = record { low = go }
  where
    go : (v : ℕ) → at (x ∷ []) v ≤ b
    go zero = h
    go (suc v) = zero-le
low-snoc b x (y ∷ ys) h l = record { low = go (low-snoc b x ys h (record { low = λ v. l.low (suc v) })) }
  where
    go : Under b (ys ++ x ∷ []) → (v : ℕ) → at (y ∷ ys ++ x ∷ []) v ≤ b
    go m zero = l.low zero
    go m (suc v) = m.low v

abbrev AllUnder : ℕ → List (List ℕ) → Type 0
AllUnder b [] = Unit {0}
AllUnder b (c ∷ cs) = Under b c × AllUnder b cs

all_append : (b : ℕ) (cs ds : List (List ℕ)) → AllUnder b cs → AllUnder b ds → AllUnder b (cs ++ ds)
all_append b [] ds h k = k
all_append b (c ∷ cs) ds h k = (h.0, all_append b cs ds h.1 k)

-- ---- the placements

module _ (edges : List Edge) (b : ℕ) where
  all-sieve : (cs : List (List ℕ)) → AllUnder b cs → AllUnder b (sieve edges cs)
  unfolding sieve
  all-sieve [] h = tt
  all-sieve (c ∷ cs) h = go (keeps edges c) (all-sieve cs h.1)
    where
      go : (t : Bool) → AllUnder b (sieve edges cs) → AllUnder b (cond t (c ∷ sieve edges cs) (sieve edges cs))
      go true k = (h.0, k)
      go false k = k

  all-run : (c : List ℕ) → Under b c → (a k : ℕ) → a + k ≤ suc b → AllUnder b (map (λ x. c ++ x ∷ []) (run a k))
  unfolding run
  all-run c h a zero l = tt
  all-run c h a (suc k) l = (low-snoc b a c (omega arith) h, all-run c h (suc a) k (omega arith))

  all-extend : (cs : List (List ℕ)) → AllUnder b cs → AllUnder b (extend edges b cs)
  unfolding extend
  all-extend [] h = tt
  all-extend (c ∷ cs) h =
      all_append b (sieve edges (map (λ x. c ++ x ∷ []) (run 0 (suc b)))) (extend edges b cs)
      (all-sieve (map (λ x. c ++ x ∷ []) (run 0 (suc b))) (all-run c h.0 0 (suc b) (omega arith)))
      (all-extend cs h.1)

  all-placements : (k : ℕ) → AllUnder b (placements edges b k)
  unfolding placements
  all-placements zero = (low-none b, tt)
  all-placements (suc k) = all-extend (placements edges b k) (all-placements k)

  low-lightest : (weigh : List ℕ → ℕ) (c : List ℕ) (cs : List (List ℕ)) → Under b c → AllUnder b cs → Under b (lightest weigh c cs)
  unfolding lightest
  low-lightest weigh c [] h k = h
  low-lightest weigh c (d ∷ ds) h k = low-lightest weigh (cond (ltb (weigh d) (weigh c)) d c) ds (go (ltb (weigh d) (weigh c))) k.1
    where
      go : (t : Bool) → Under b (cond t d c)
      go true = k.0
      go false = h

  low_first : (weigh : List ℕ → ℕ) (cs : List (List ℕ)) → AllUnder b cs → Under b (first_lightest weigh cs)
  unfolding first_lightest
  low_first weigh [] h = low-none b
  low_first weigh (c ∷ cs) h = low-lightest weigh c cs h.0 h.1

-- the bound for any number of nodes and any gaps
pub rows-low : (n : ℕ) (edges : List Edge) (v : ℕ) → at (rows_of n edges) v ≤ (n - 1) * widest edges
unfolding rows_of
rows-low n edges v =
    let b = (n - 1) * widest edges in
    (low_first edges b (λ ys. total edges (at ys)) (placements edges b n) (all-placements edges b n)).low v
