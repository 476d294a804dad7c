-- An order as one flat list: two points that follow each other are neighbours exactly where they stand in one row, so the edges that the
-- flat list gives are those of the rows.
use mathlib.Core.Path.{◌≡◌, refl, sym, ap, ◌∙◌}
use mathlib.Core.List.{List, [], ◌∷◌, ◌++◌, flatten, append-nil, append_assoc}
use Prim.Native.Nat.{ℕ, zero, suc, ◌+◌, ◌-◌, ◌≤◌, ◌<◌, suc-le-suc}
use native.Mathlib.Nat.{zero-lt-suc, add-zero}
use native.Mathlib.Omega.{arith}
use lib.ListN.{length, drop}
use lib.Seq.{drop-cons, drop-length}
use Rattle.graph.specs.declared.Edge.{Edge}
use Rattle.graph.specs.Rows.{at}
use Rattle.spacing.specs.Coordinates.{row_in}
use Rattle.spacing.specs.Auxiliary.{beside, row_edges, one_row, order_edges}
use Rattle.spacing.specs.Flat.{beside_if, besides}
use Rattle.spacing.proofs.ExtendLaws.{link-same, link-other}

-- the edges of points that follow p, and of a whole list
unfoldable flat_rest : List ℕ → ℕ → List ℕ → List Edge
flat_rest row p [] = []
flat_rest row p (q ∷ rest) = beside_if row p q ++ flat_rest row q rest

unfoldable flat_edges : List ℕ → List ℕ → List Edge
flat_edges row [] = []
flat_edges row (p ∷ rest) = flat_rest row p rest

-- those that are linked, and those from point i on, are all
besides-rest : (row order : List ℕ) (i : ℕ) → i < length order → besides row order i ++ flat_edges row (drop i order) ≡ flat_edges row order
unfolding besides flat_edges flat_rest
besides-rest row order zero h = refl
besides-rest row order (suc i) h =
    append_assoc (besides row order i) (beside_if row (at order i) (at order (suc i))) (flat_edges row (drop (suc i) order))
    ∙ ap (λ (l : List Edge). besides row order i ++ l) step
    ∙ besides-rest row order i (omega arith)
  where
    cons : (p q : ℕ) (rest : List ℕ) → beside_if row p q ++ flat_edges row (q ∷ rest) ≡ flat_edges row (p ∷ q ∷ rest)
    cons p q rest = refl

    step : beside_if row (at order i) (at order (suc i)) ++ flat_edges row (drop (suc i) order) ≡ flat_edges row (drop i order)
    step =
        let a : drop (suc i) order ≡ at order (suc i) ∷ drop (suc (suc i)) order = drop-cons order (suc i) 0 h in
        let b : drop i order ≡ at order i ∷ drop (suc i) order = drop-cons order i 0 (omega arith) in
        rw (b, a) (cons (at order i) (at order (suc i)) (drop (suc (suc i)) order))

-- the last point has none behind it
last-free : (row order : List ℕ) (i : ℕ) → suc i ≡ length order → flat_edges row (drop i order) ≡ []
unfolding flat_edges flat_rest
last-free row order i e =
    let a : drop i order ≡ at order i ∷ drop (suc i) order = drop-cons order i 0 (omega arith) in
    let b : drop (suc i) order ≡ [] = ap (λ (k : ℕ). drop k order) e ∙ drop-length order in
    rw (a, b)

besides-all : (row order : List ℕ) → besides row order (length order - 1) ≡ flat_edges row order
unfolding besides flat_edges
besides-all row [] = refl
besides-all row (p ∷ order) =
    let i : suc (length order) - 1 ≡ length order = omega arith in
    let l = besides row (p ∷ order) (length order) in
    rw i
    (sym (append-nil l)
    ∙ ap (λ (t : List Edge). l ++ t) (sym (last-free row (p ∷ order) (length order) refl))
    ∙ besides-rest row (p ∷ order) (length order) (omega arith))

-- ---- all points of a list

data Each (P : ℕ → Type 0) : List ℕ → Type 0 where
  none : Each P []
  one : {p : ℕ} {l : List ℕ} → P p → Each P l → Each P (p ∷ l)

each_of : (P : ℕ → Type 0) (l : List ℕ) → ((i : ℕ) → i < length l → P (at l i)) → Each P l
each_of P [] h = none
each_of P (p ∷ l) h = one (h zero (zero-lt-suc (length l))) (each_of P l (λ i b. h (suc i) (suc-le-suc b)))

each-join : {P : ℕ → Type 0} {a b : List ℕ} → Each P a → Each P b → Each P (a ++ b)
each-join none k = k
each-join (one p h) k = one p (each-join h k)

-- the points of each row of an order have its number as their row, counted from b on
abbrev pub RowsFrom : List ℕ → ℕ → List (List ℕ) → Type 0
RowsFrom row b o = (r i : ℕ) → r < length o → i < length (row_in o r) → at row (at (row_in o r) i) ≡ b + r

rows-tail : (row : List ℕ) (b : ℕ) (l : List ℕ) (o : List (List ℕ)) → RowsFrom row b (l ∷ o) → RowsFrom row (suc b) o
rows-tail row b l o h r i k m = h (suc r) i (suc-le-suc k) m ∙ shift
  where
    shift : b + suc r ≡ suc b + r
    shift = omega arith

rows_head : (row : List ℕ) (b : ℕ) (l : List ℕ) (o : List (List ℕ)) → RowsFrom row b (l ∷ o) → Each (λ p. at row p ≡ b) l
rows_head row b l o h = each_of (λ p. at row p ≡ b) l (λ i m. h zero i (zero-lt-suc (length o)) m ∙ add-zero b)

rows_above : (row : List ℕ) (b : ℕ) (o : List (List ℕ)) → RowsFrom row b o → Each (λ p. b ≤ at row p) (flatten o)
unfolding flatten
rows_above row b [] h = none
rows_above row b (l ∷ o) h =
    each-join (each_map l (λ p e. omega arith) (rows_head row b l o h)) (each_map (flatten o) (λ p e. omega arith) (rows_above row (suc b) o (rows-tail row b l o h)))
  where
    each_map : {P Q : ℕ → Type 0} (l : List ℕ) → ((p : ℕ) → P p → Q p) → Each P l → Each Q l
    each_map [] f none = none
    each_map (p ∷ l) f (one k h) = one (f p k) (each_map l f h)

-- the points of one row, and behind them those of later rows
flat-row : (row : List ℕ) (b p : ℕ) (l rest : List ℕ) → Each (λ q. at row q ≡ b) (p ∷ l) → Each (λ q. suc b ≤ at row q) rest
    → flat_rest row p (l ++ rest) ≡ row_edges p l ++ flat_edges row rest
unfolding flat_rest flat_edges row_edges
flat-row row b p [] [] h k = refl
flat-row row b p [] (t ∷ rest) (one e h) (one g k) = rw (link-other row p t (λ d. omega arith))
flat-row row b p (q ∷ l) rest (one e (one d h)) k =
    rw (link-same row p q (omega arith)) (ap (λ (m : List Edge). beside p q ∷ m) (flat-row row b q l rest (one d h) k))

flat-order : (row : List ℕ) (b : ℕ) (o : List (List ℕ)) → RowsFrom row b o → flat_edges row (flatten o) ≡ order_edges o
unfolding flat_edges flatten order_edges one_row
flat-order row b [] h = refl
flat-order row b ([] ∷ o) h = flat-order row (suc b) o (rows-tail row b [] o h)
flat-order row b ((p ∷ l) ∷ o) h =
    flat-row row b p l (flatten o) (rows_head row b (p ∷ l) o h) (rows_above row (suc b) o (rows-tail row b (p ∷ l) o h))
    ∙ ap (λ (m : List Edge). row_edges p l ++ m) (flat-order row (suc b) o (rows-tail row b (p ∷ l) o h))

-- The edges that the flat list gives are those of the rows: inside a row any two that follow each other are neighbours, and from one row to
-- the next the rows differ.
pub besides-order : (row order : List ℕ) (o : List (List ℕ)) → order ≡ flatten o → RowsFrom row 0 o → besides row order (length order - 1) ≡ order_edges o
besides-order row order o e h = besides-all row order ∙ ap (flat_edges row) e ∙ flat-order row 0 o h
