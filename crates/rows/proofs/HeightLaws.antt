-- No row of an answer is above top_row, one is as high, and rows of few steps fit a byte.
use mathlib.Core.Path.{◌≡◌, refl, sym, subst}
use Prim.Native.Nat.{ℕ, ◌*◌, ◌-◌, ◌≤◌, ◌<◌}
use native.Mathlib.Nat.{le_trans, mul-le-mul}
use native.Mathlib.Omega.{arith}
use mathlib.Core.List.{List}
use lib.ListN.{length, get_or}
use Rattle.graph.specs.declared.Edge.{Edge}
use Rattle.graph.specs.Rows.{at, no_edge}
use Rattle.graph.specs.Search.{rows_of}
use Rattle.graph.proofs.BoundLaws.{widest-le}
use Rattle.graph.proofs.PlacementLaws.{rows-low}
use Rattle.graph.proofs.PathLaws.{path, path-length, path-get, path-top}
use Rattle.table.specs.Limits.{max_steps, old_size, max_gap}
use Rattle.table.specs.Fair.{FairEdge}
use Rattle.rows.specs.Limits.{top_row, old_top_row}
use Rattle.rows.specs.Placed.{FairEdges}

-- the bound for any number of nodes and any gaps, at the limit of gaps and any limit of nodes
pub rows-within : (most n : ℕ) (edges : List Edge) → n ≤ most → ((i : ℕ) → i < length edges → (get_or edges i no_edge).gap ≤ max_gap)
    → (v : ℕ) → at (rows_of n edges) v ≤ (most - 1) * max_gap
rows-within most n edges h g v = le_trans (rows-low n edges v) (mul-le-mul {n₁ = n - 1} {n₂ = most - 1} (omega arith) (widest-le edges max_gap g))

pub rows-top : (n : ℕ) (edges : List Edge) → n ≤ max_steps → ((i : ℕ) → i < length edges → (get_or edges i no_edge).gap ≤ max_gap)
    → (v : ℕ) → at (rows_of n edges) v ≤ top_row
rows-top n edges h g v = rows-within max_steps n edges h g v

-- a list of rows that was kept as bytes, when there were no more steps than the old limit, holds them still
pub rows-byte : (n : ℕ) (edges : List Edge) → n ≤ old_size.steps → ((i : ℕ) → i < length edges → (get_or edges i no_edge).gap ≤ max_gap)
    → (v : ℕ) → at (rows_of n edges) v ≤ old_top_row
rows-byte n edges h g v = rows-within old_size.steps n edges h g v

pub top-row : top_row ≡ 380
top-row = refl

pub old-top-row : old_top_row ≡ 252
old-top-row = refl

-- ---- the bound is reached

-- as many steps as there can be, each as far below the one before as a gap can say
abbrev pub tallest : List Edge
tallest = path max_gap 0 (max_steps - 1)

pub tallest-fair : FairEdges max_steps tallest
tallest-fair =
    record {
      few_steps = omega arith;
      few_edges = omega (arith, path-length max_gap 0 (max_steps - 1));
      each = λ i h.
          let l : i < max_steps - 1 = omega (arith, path-length max_gap 0 (max_steps - 1)) in
          subst (FairEdge max_steps) (sym (path-get max_gap 0 (max_steps - 1) i l))
          (record { from_in = omega arith; to_in = omega arith; apart = λ e. omega arith; gap_some = omega arith; gap_low = omega arith; weight_low = omega arith });
    }

pub top_reached : at (rows_of max_steps tallest) (max_steps - 1) ≡ top_row
top_reached = path-top max_gap (max_steps - 1)
