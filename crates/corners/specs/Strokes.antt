-- Strokes (document 02, request 8): each is a move or a line to a corner.
use Rattle.std.specs.Prelude.{Bool, true, false, ℕ}
use Rattle.corners.specs.declared.Corner.{Corner}
use Rattle.corners.specs.declared.Stroke.{Stroke}
use Rattle.corners.specs.declared.Stroke.TheVariants.{Move, Line}
use Rattle.corners.specs.Corners.{corner_of}

-- the corner that a stroke goes to
abbrev pub end_of : Stroke → Corner
end_of (Move c) = c
end_of (Line c) = c

-- the stroke to the point of an x and a row, where a line may start
abbrev pub stroke_to : Bool → ℕ → ℕ → Stroke
stroke_to true x row = Move (corner_of x row)
stroke_to false x row = Line (corner_of x row)
