use Rattle.buffers.proofs.WriteLaws.{stored-front}
use Rattle.buffers.proofs.copy_front.Goals as goal

pub returns : goal.returns
returns c = stored-front _ _ c.requires c.copy_from_slice.ensures.after
