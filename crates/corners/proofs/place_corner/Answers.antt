-- The two products are the corner of the definition, which stands exactly.
use mathlib.Core.Path.{sym, subst}
use Rattle.corners.specs.declared.Corner.{Corner}
use Rattle.corners.specs.Corners.{Stands}
use Rattle.corners.proofs.CornerLaws.{corner-made, corner-stands}
use Rattle.corners.proofs.place_corner.Goals as goal

pub returns : goal.returns
returns c =
    let made = corner-made c.args.x c.args.row c.requires.0 c.requires.1 in
    record {
      value = made;
      stands = subst (λ (d : Corner). Stands d c.args.x c.args.row) (sym made) (corner-stands c.args.x c.args.row c.requires.0 c.requires.1);
    }
