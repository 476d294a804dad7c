-- The numbers that dummies bear are among those of the edges that were laid.
use mathlib.Core.Path.{◌≡◌, refl}
use mathlib.Core.List.{List, [], ◌∷◌, ◌++◌}
use Prim.Native.Nat.{ℕ, zero, suc, ◌+◌, ◌≤◌, ◌<◌}
use native.Mathlib.Nat.{le_of_suc-le-suc, not-suc-le-zero}
use native.Mathlib.Omega.{arith}
use lib.ListN.{length, get_or}
use Rattle.graph.specs.declared.Edge.{Edge}
use Rattle.graph.specs.Rows.{at}
use Rattle.graph.specs.Search.{run}
use Rattle.merging.specs.declared.MergedEdge.{MergedEdge}
use Rattle.merging.specs.Merged.{no_merged_edge}
use Rattle.points.specs.declared.dummy.Dummy.{Dummy}
use Rattle.points.specs.Points.{between, dummies}
use Rattle.labels.specs.Labels.{no_dummy}
use Rattle.lines.specs.Printing.{numbered, dummies_on}
use Rattle.lines.proofs.LayLaws.{numbered-count}

-- every dummy bears a number below n
record Bearing (n : ℕ) (ds : List Dummy) : Type 0 where
  below : (k : ℕ) → k < length ds → (get_or ds k no_dummy).edge < n

-- dummies of edge i in front of others
bearing-more : (n i : ℕ) (rs : List ℕ) (ds : List Dummy) → i < n → Bearing n ds → (k : ℕ) → k < length (dummies_on i rs ++ ds)
    → (get_or (dummies_on i rs ++ ds) k no_dummy).edge < n
bearing-more n i [] ds l b k h = b.below k h
bearing-more n i (r ∷ rs) ds l b zero h = l
bearing-more n i (r ∷ rs) ds l b (suc k) h = bearing-more n i rs ds l b k (le_of_suc-le-suc h)

bearing-from : (n : ℕ) (ys : List ℕ) (i : ℕ) (edges : List Edge) → i + length edges ≤ n → Bearing n (dummies ys i edges)
unfolding dummies
bearing-from n ys i [] h = record { below = λ k l. absurd (not-suc-le-zero l) }
bearing-from n ys i (e ∷ edges) h =
    record {
      below =
          bearing-more n i (run (suc (at ys e.from)) (between ys e)) (dummies ys (suc i) edges) (omega arith)
          (bearing-from n ys (suc i) edges (omega arith));
    }

-- what dummy k bears
number-at : (list : List MergedEdge) (ds : List Dummy) (k : ℕ) → k < length ds
    → (get_or (numbered list ds) k no_dummy).edge ≡ (get_or list (get_or ds k no_dummy).edge no_merged_edge).first
unfolding numbered
number-at list [] k h = absurd (not-suc-le-zero h)
number-at list (d ∷ ds) zero h = refl
number-at list (d ∷ ds) (suc k) h = number-at list ds k (le_of_suc-le-suc h)

-- so the numbers that they bear are among those of the merged edges
pub numbers-below : (n : ℕ) (list : List MergedEdge) (ys : List ℕ) (edges : List Edge)
    → ((k : ℕ) → k < length edges → (get_or list k no_merged_edge).first < n) → (k : ℕ) → k < length (numbered list (dummies ys 0 edges))
    → (get_or (numbered list (dummies ys 0 edges)) k no_dummy).edge < n
numbers-below n list ys edges h k l =
    let inside : k < length (dummies ys 0 edges) = omega (arith, numbered-count list (dummies ys 0 edges)) in
    let low = h _ ((bearing-from (length edges) ys 0 edges (omega arith)).below k inside) in
    omega (arith, number-at list (dummies ys 0 edges) k inside, low)
