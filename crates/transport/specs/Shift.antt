-- Supply or demand moved over one edge, from one of its ends to the other.
use Rattle.std.specs.Prelude.{◌≡◌, List, ℕ, ◌+◌, ◌-◌, ◌≤◌, set}
use Rattle.graph.specs.Rows.{at}
use Rattle.relaxation.specs.Limits.{weight_limit}

-- d taken off entry u and put on entry w
unfoldable pub shifted : List ℕ → ℕ → ℕ → ℕ → List ℕ
shifted xs u w d = set (set xs u (at xs u - d)) w (at (set xs u (at xs u - d)) w + d)

-- d moved from entry u to entry w while the flow of edge a grows by d, unless that flow would be large
pub data CarriesOn (flow xs : List ℕ) (a u w : ℕ) (flow' xs' : List ℕ) : Type 0 where
  stays : flow' ≡ flow → xs' ≡ xs → CarriesOn flow xs a u w flow' xs'
  moves : (d : ℕ) → d ≤ at xs u → at flow a + d ≤ weight_limit → flow' ≡ set flow a (at flow a + d) → xs' ≡ shifted xs u w d
      → CarriesOn flow xs a u w flow' xs'

-- d moved from entry u to entry w while the flow of edge a falls by d
pub data CarriesBack (flow xs : List ℕ) (a u w : ℕ) (flow' xs' : List ℕ) : Type 0 where
  moves : (d : ℕ) → d ≤ at xs u → d ≤ at flow a → flow' ≡ set flow a (at flow a - d) → xs' ≡ shifted xs u w d
      → CarriesBack flow xs a u w flow' xs'

-- what entry v of both lists has in common is taken off both
pub data Cancels (supply demand : List ℕ) (v : ℕ) (supply' demand' : List ℕ) : Type 0 where
  off : (d : ℕ) → d ≤ at supply v → d ≤ at demand v → supply' ≡ set supply v (at supply v - d) → demand' ≡ set demand v (at demand v - d)
      → Cancels supply demand v supply' demand'
