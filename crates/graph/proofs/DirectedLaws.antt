-- Edges that are directed by flags: each stands at its own number, and only its ends may be exchanged.
use mathlib.Core.Path.{◌≡◌, refl, sym, ap, ◌∙◌, subst}
use mathlib.Core.Bool.{Bool, false}
use mathlib.Core.List.{List, [], ◌∷◌, ◌++◌, tail}
use Prim.Native.Nat.{ℕ, zero, suc, ◌<◌, suc-le-suc}
use native.Mathlib.Nat.{le_of_suc-le-suc, not-suc-le-zero, zero-lt-suc}
use lib.ListN.{length, get_or, take, replicate}
use Rattle.graph.specs.declared.Edge.{Edge}
use Rattle.graph.specs.declared.TableEdge.{TableEdge}
use Rattle.graph.specs.Rows.{no_edge}
use Rattle.graph.specs.Directed.{no_table_edge, own_edge, plain_edges, directed, directed_by}

pub directed-length : (flags : List Bool) (edges : List TableEdge) → length (directed_by flags edges) ≡ length edges
unfolding directed_by
directed-length flags [] = refl
directed-length flags (e ∷ edges) = ap suc (directed-length (tail flags) edges)

pub tail-get : (flags : List Bool) (i : ℕ) → get_or (tail flags) i false ≡ get_or flags (suc i) false
tail-get [] i = refl
tail-get (f ∷ flags) i = refl

-- edge i is directed by flag i
pub directed-get : (flags : List Bool) (edges : List TableEdge) (i : ℕ) → i < length edges
    → get_or (directed_by flags edges) i no_edge ≡ directed (get_or flags i false) (own_edge (get_or edges i no_table_edge))
unfolding directed_by
directed-get flags [] i h = absurd (not-suc-le-zero h)
directed-get flags (e ∷ edges) zero h = refl
directed-get flags (e ∷ edges) (suc i) h =
    directed-get (tail flags) edges i (le_of_suc-le-suc h) ∙ ap (λ b. directed b (own_edge (get_or edges i no_table_edge))) (tail-get flags i)

-- flags that say the same of every edge direct the edges alike
pub directed-same : (flags others : List Bool) (edges : List TableEdge) → ((i : ℕ) → i < length edges → get_or flags i false ≡ get_or others i false)
    → directed_by flags edges ≡ directed_by others edges
unfolding directed_by
directed-same flags others [] h = refl
directed-same flags others (e ∷ edges) h =
    rw (
      h zero (zero-lt-suc (length edges)),
      directed-same (tail flags) (tail others) edges
          (λ i l. tail-get flags i ∙ h (suc i) (suc-le-suc l) ∙ sym (tail-get others i)),
    ) refl

-- without a flag every edge is as it is
pub directed-none : (flags : List Bool) (edges : List TableEdge) → ((i : ℕ) → i < length edges → get_or flags i false ≡ false)
    → directed_by flags edges ≡ plain_edges edges
unfolding directed_by
directed-none flags [] h = refl
directed-none flags (e ∷ edges) h =
    rw (h zero (zero-lt-suc (length edges)), directed-none (tail flags) edges (λ i l. tail-get flags i ∙ h (suc i) (suc-le-suc l))) refl

-- the first edges, directed, are the first of the directed ones
pub directed-take : (flags : List Bool) (m : ℕ) (edges : List TableEdge) → take m (directed_by flags edges) ≡ directed_by flags (take m edges)
unfolding directed_by
directed-take flags zero edges = refl
directed-take flags (suc m) [] = refl
directed-take flags (suc m) (e ∷ edges) = ap (λ l. directed (get_or flags 0 false) (own_edge e) ∷ l) (directed-take (tail flags) m edges)

-- no flags stand behind the last
pub padded-get : (flags : List Bool) (k i : ℕ) → get_or (flags ++ replicate k false) i false ≡ get_or flags i false
padded-get [] zero i = refl
padded-get [] (suc k) zero = refl
padded-get [] (suc k) (suc i) = padded-get [] k i
padded-get (f ∷ flags) k zero = refl
padded-get (f ∷ flags) k (suc i) = padded-get flags k i

-- what holds of an edge whichever way it points holds of a directed one
pub directed-each : (P : Edge → Type 0) (flags : List Bool) (edges : List TableEdge)
    → ((i : ℕ) → i < length edges → (b : Bool) → P (directed b (own_edge (get_or edges i no_table_edge))))
    → (i : ℕ) → i < length (directed_by flags edges) → P (get_or (directed_by flags edges) i no_edge)
directed-each P flags edges h i l =
    let inside : i < length edges = subst (λ k. i < k) (directed-length flags edges) l in
    subst P (sym (directed-get flags edges i inside)) (h i inside (get_or flags i false))
