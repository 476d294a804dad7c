-- Relaxation: an edge that is not held has an end that must rise.
use Rattle.std.specs.Prelude.{◌≡◌, Bool, true, false, List, [], ◌∷◌, ℕ, ◌+◌, ◌-◌, ◌≤◌, ◌<◌, length, set, drop}
use Rattle.graph.specs.Rows.{at}
use Rattle.buffers.specs.Written.{word_limit}
use Rattle.relaxation.specs.Limits.{row_limit}
use Rattle.relaxation.specs.Certificate.{Held, Height}

-- some rows are held and at most top
pub record Holder (from to gap flow : List ℕ) (n top : ℕ) : Type 0 where
  pub rows : ℕ → ℕ
  pub held : Held from to gap flow rows
  pub low : (v : ℕ) → v < n → rows v ≤ top

-- the rows y keep each edge
pub record EdgesKept (from to gap y : List ℕ) : Type 0 where
  pub kept : (a : ℕ) → a < length from → at y (at from a) + at gap a ≤ at y (at to a)

-- what each edge asks of its head fits a word
pub record Sums (from gap y : List ℕ) : Type 0 where
  pub fits : (a : ℕ) → a < length from → at y (at from a) + at gap a < word_limit

-- Where the tail of an edge moves: from row lo to r, with gap g below the head in row hi, and only where the edge is used and too long.
pub record TailIs (lo g hi x r : ℕ) : Type 0 where
  pub no_lower : lo ≤ r
  pub raised : lo < r → (0 < x) × (r + g ≡ hi)
  pub still : r ≡ lo → 0 < x → hi ≤ lo + g

-- r tells whether an end moved
pub data MovedIs (lo low hi high : ℕ) (r : Bool) : Type 0 where
  neither : r ≡ false → low ≡ lo → high ≡ hi → MovedIs lo low hi high r
  tail-moved : r ≡ true → (low ≡ lo → ⊥) → MovedIs lo low hi high r
  head-moved : r ≡ true → (high ≡ hi → ⊥) → MovedIs lo low hi high r

-- y' is y with one end of edge a lifted: its head where the edge is too short, its tail where it is used and too long
pub data Lifts (from to gap flow y : List ℕ) (a : ℕ) (y' : List ℕ) : Type 0 where
  up : at y (at to a) < at y (at from a) + at gap a → y' ≡ set y (at to a) (at y (at from a) + at gap a) → Lifts from to gap flow y a y'
  down : 0 < at flow a → at y (at from a) + at gap a < at y (at to a) → y' ≡ set y (at from a) (at y (at to a) - at gap a)
      → Lifts from to gap flow y a y'

-- edge a is held, and nothing changes, or an end of it is lifted
pub data Eases (from to gap flow y : List ℕ) (a : ℕ) (y' : List ℕ) (r : Bool) : Type 0 where
  holds : r ≡ false → y' ≡ y → at y (at from a) + at gap a ≤ at y (at to a) → (0 < at flow a → at y (at to a) ≤ at y (at from a) + at gap a)
      → Eases from to gap flow y a y' r
  lifts : r ≡ true → Lifts from to gap flow y a y' → Eases from to gap flow y a y' r

-- each entry is the height of a residual walk
pub record Heights (from to gap flow : List ℕ) (n : ℕ) (y : List ℕ) : Type 0 where
  pub each : (v : ℕ) → v < n → Height from to gap flow v (at y v)

-- how far the entries may still rise in all
unfoldable pub headroom : ℕ → List ℕ → ℕ
headroom top [] = 0
headroom top (x ∷ xs) = (top - x) + headroom top xs

-- after a sweep over all edges: where no end was lifted, all edges are held; where one was, there is less room to rise
pub record Swept (from to gap flow : List ℕ) (n : ℕ) (old y : List ℕ) (lifted : Bool) : Type 0 where
  pub long : length y ≡ length old
  pub rest : drop n y ≡ drop n old
  pub heights : Heights from to gap flow n y
  pub none : lifted ≡ false → Held from to gap flow (at y)
  pub some : lifted ≡ true → headroom row_limit y < headroom row_limit old
