-- What the scans over the edges look for.
use Rattle.std.specs.Prelude.{◌≡◌, ◌⊎◌, Bool, true, false, Option, Some, None, List, ℕ, ◌+◌, ◌≤◌, ◌<◌, length, get_or}
use Rattle.graph.specs.Rows.{at}

-- a scan from lo to below hi: a number that passes, or all of them fail
abbrev pub ScanIs : (ℕ → Type 0) → (ℕ → Type 0) → ℕ → ℕ → Option ℕ → Type 0
ScanIs Pass Fail lo hi (Some i) = (i < hi) × Pass i
ScanIs Pass Fail lo hi None = (i : ℕ) → lo ≤ i → i < hi → Fail i

-- edge i leads from s, or from a marked node, to a node that is not marked
pub record Open (from to : List ℕ) (s : ℕ) (seen : List Bool) (i : ℕ) : Type 0 where
  pub comes : (at from i ≡ s) ⊎ (get_or seen (at from i) false ≡ true)
  pub fresh : get_or seen (at to i) false ≡ false

-- edge i is shorter than its gap
pub record Short (from to gap y : List ℕ) (i : ℕ) : Type 0 where
  pub short : at y (at to i) < at y (at from i) + at gap i

-- rows y keep every edge and are at most cap
pub record Rests (from to gap : List ℕ) (cap : ℕ) (y : List ℕ) : Type 0 where
  pub kept : (i : ℕ) → i < length from → Short from to gap y i → ⊥
  pub low : (v : ℕ) → at y v ≤ cap
