-- Flows over edges: a number for each edge, judged against the weights. What a flow carries, and when it balances.
use mathlib.Core.Path.{◌≡◌, refl, ap}
use mathlib.Core.List.{List, [], ◌∷◌, map}
use Prim.Native.Nat.{ℕ, zero, suc, ◌+◌, ◌*◌, ◌≤◌, ◌<◌, suc-le-suc}
use native.Mathlib.Nat.{mul-le-mul_left, zero-lt-suc, eq_of_mul-eq-mul_left}
use native.Mathlib.Omega.{arith}
use lib.ListN.{length, get_or}
use Rattle.graph.specs.declared.Edge.{Edge}
use Rattle.graph.specs.Rows.{no_edge, Tight, Feasible}

-- Σ f·g over the edges
unfoldable pub dot : List ℕ → (Edge → ℕ) → List Edge → ℕ
dot [] g edges = 0
dot (x ∷ f) g [] = 0
dot (x ∷ f) g (e ∷ edges) = x * g e + dot f g edges

abbrev pub weights : List Edge → List ℕ
weights edges = map (λ (e : Edge). e.weight) edges

-- Σ f·z(to), Σ f·z(from), Σ f·gap
abbrev pub into : List ℕ → List Edge → (ℕ → ℕ) → ℕ
into f edges z = dot f (λ e. z e.to) edges

abbrev pub outof : List ℕ → List Edge → (ℕ → ℕ) → ℕ
outof f edges z = dot f (λ e. z e.from) edges

abbrev pub gaps : List ℕ → List Edge → ℕ
gaps f edges = dot f (λ e. e.gap) edges

-- f carries as much into each node, less what it carries out, as the weights do: tested by every z
abbrev pub Balanced : List Edge → List ℕ → Type 0
Balanced edges f = (z : ℕ → ℕ) → into f edges z + outof (weights edges) edges z ≡ outof f edges z + into (weights edges) edges z

-- each edge that f uses is tight
abbrev pub UsedTight : List Edge → List ℕ → (ℕ → ℕ) → Type 0
UsedTight edges f y = (i : ℕ) → i < length edges → 0 < get_or f i 0 → Tight y (get_or edges i no_edge)

-- what a flow carries over feasible rows is at least the gaps
pub gaps-le : (edges : List Edge) (f : List ℕ) (z : ℕ → ℕ) → Feasible edges z → outof f edges z + gaps f edges ≤ into f edges z
unfolding dot
gaps-le [] [] z h = omega arith
gaps-le [] (x ∷ f) z h = omega arith
gaps-le (e ∷ edges) [] z h = omega arith
gaps-le (e ∷ edges) (x ∷ f) z h =
    let ih = gaps-le edges f z (λ i b. h (suc i) (suc-le-suc b)) in
    omega (arith, mul-le-mul_left x (h zero (zero-lt-suc (length edges))))

-- and as much where the used edges are tight
pub gaps-eq : (edges : List Edge) (f : List ℕ) (y : ℕ → ℕ) → UsedTight edges f y → into f edges y ≡ outof f edges y + gaps f edges
unfolding dot
gaps-eq [] [] y t = refl
gaps-eq [] (x ∷ f) y t = refl
gaps-eq (e ∷ edges) [] y t = refl
gaps-eq (e ∷ edges) (zero ∷ f) y t =
    let ih = gaps-eq edges f y (λ i b. t (suc i) (suc-le-suc b)) in
    omega arith
gaps-eq (e ∷ edges) (suc x ∷ f) y t =
    let ih = gaps-eq edges f y (λ i b. t (suc i) (suc-le-suc b)) in
    omega (arith, ap (λ k. suc x * k) (t zero (zero-lt-suc (length edges)) (zero-lt-suc x)))

-- the other way: where the flow carries no more than the gaps, the used edges are tight
pub tight-of-gaps : (edges : List Edge) (f : List ℕ) (z : ℕ → ℕ) → Feasible edges z → into f edges z ≤ outof f edges z + gaps f edges
    → UsedTight edges f z
unfolding dot
tight-of-gaps [] f z h c i b p = omega arith
tight-of-gaps (e ∷ edges) [] z h c i b p = omega arith
tight-of-gaps (e ∷ edges) (x ∷ f) z h c zero b p =
    let le = gaps-le edges f z (λ i b. h (suc i) (suc-le-suc b)) in
    let k = h zero b in
    eq_of_mul-eq-mul_left x p _ _ (omega (arith, mul-le-mul_left x k))
tight-of-gaps (e ∷ edges) (x ∷ f) z h c (suc i) b p =
    tight-of-gaps edges f z (λ i b. h (suc i) (suc-le-suc b))
    (omega (arith, mul-le-mul_left x (h zero (zero-lt-suc (length edges)))))
    i
    (omega arith)
    p
