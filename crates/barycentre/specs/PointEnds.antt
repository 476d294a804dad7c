-- The ends of segments by point: the neighbours whose positions make its mean.
use Rattle.std.specs.Prelude.{cond, List, [], ◌∷◌, ℕ, eqb}
use Rattle.points.specs.Points.{Segment}

-- the far ends of the segments whose near end is p, one for each segment
unfoldable pub ends : (Segment → ℕ) → (Segment → ℕ) → List Segment → ℕ → List ℕ
ends near far [] p = []
ends near far (s ∷ segs) p = let rest = ends near far segs p in cond (eqb (near s) p) (far s ∷ rest) rest

-- in the row above, and in the row below
abbrev pub ends_above : List Segment → ℕ → List ℕ
ends_above segs = ends (λ s. s.lower) (λ s. s.upper) segs

abbrev pub ends_below : List Segment → ℕ → List ℕ
ends_below segs = ends (λ s. s.upper) (λ s. s.lower) segs
