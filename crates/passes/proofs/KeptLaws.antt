-- What is kept of the room for the work of a pass, from one call to the next.
use mathlib.Core.Path.{refl, ◌∙◌}
use Rattle.passes.specs.declared.Work.{Work}
use Rattle.passes.specs.Kept.{WorkKept}

pub work-same : {w : Work} → WorkKept w w
work-same = record { totals_lent = refl; moved_lent = refl; totals_kept = refl; moved_kept = refl }

pub work-again : {u v w : Work} → WorkKept u v → WorkKept v w → WorkKept u w
work-again h k =
    record {
      totals_lent = k.totals_lent ∙ h.totals_lent;
      moved_lent = k.moved_lent ∙ h.moved_lent;
      totals_kept = k.totals_kept ∙ h.totals_kept;
      moved_kept = k.moved_kept ∙ h.moved_kept;
    }
