-- The segments between two rows, by the upper row's points from left to right, and what a count of their crossings asks for.
use Rattle.std.specs.Prelude.{◌≡◌, List, [], ◌∷◌, ◌++◌, map, ℕ, suc, ◌+◌, ◌≤◌, ◌<◌, length}
use Rattle.graph.specs.Rows.{at}
use Rattle.buffers.specs.Lists.{Below}
use Rattle.points.specs.Lists.{listed, Falls}
use Rattle.crossings.specs.Crossings.{PlacedSegment, crossing_pairs}
use Rattle.crossings.specs.Placing.{segment_limit}

-- the position of the lower end of segment k
abbrev pub low_of : List ℕ → List ℕ → ℕ → ℕ
low_of lower pos k = at pos (at lower k)

-- the positions of the lower ends of a list of segments
unfoldable pub lows : List ℕ → List ℕ → List ℕ → ℕ → List ℕ
lows lower pos next h = map (low_of lower pos) (listed next h)

-- the lower ends of each of the points, by the head of each point's list
unfoldable pub groups : List ℕ → List ℕ → List ℕ → List ℕ → List ℕ → List (List ℕ)
groups lower pos next head points = map (λ p. lows lower pos next (at head p)) points

-- how many segments the points have
unfoldable pub grouped_count : List (List ℕ) → ℕ
grouped_count [] = 0
grouped_count (ls ∷ gs) = length ls + grouped_count gs

-- a segment from position i of row r down to position l
abbrev pub segment_to : ℕ → ℕ → ℕ → PlacedSegment
segment_to r i l = record { row = r; upper = i; lower = l }

-- the segments of row r, by the lower ends of each upper end, of which the first stands at position i
unfoldable pub placed_from : ℕ → ℕ → List (List ℕ) → List PlacedSegment
placed_from r i [] = []
placed_from r i (ls ∷ gs) = map (segment_to r i) ls ++ placed_from r (suc i) gs

-- lists of segments whose lower ends have positions
pub record EndsPlaced (lower pos next : List ℕ) : Type 0 where
  pub falls : Falls next
  pub both : length next ≤ length lower
  pub few : length next < segment_limit
  pub ends : (k : ℕ) → k < length next → at lower k < length pos

-- every number of every list is below n
pub data AllBelow (n : ℕ) : List (List ℕ) → Type 0 where
  none_below : AllBelow n []
  one_below : {ls : List ℕ} {gs : List (List ℕ)} → Below n ls → AllBelow n gs → AllBelow n (ls ∷ gs)

-- points whose lists these are
pub record Pointed (points head next : List ℕ) : Type 0 where
  pub points_in : (i : ℕ) → i < length points → at points i < length head
  pub heads_in : (i : ℕ) → i < length points → at head (at points i) ≤ length next

-- r is the number of crossings of these segments, whichever row they start from
pub record CrossingsOf (r : ℕ) (gs : List (List ℕ)) : Type 0 where
  pub counted : (row : ℕ) → r ≡ crossing_pairs (placed_from row 0 gs)
