-- The exchange and the turn leave the next order.
use native.Mathlib.Omega.{arith}
use Rattle.permutations.proofs.AdvanceLaws as laws
use Rattle.permutations.proofs.advance.Goals as goal

pub returns : goal.returns
returns c =
    laws.advanced _ _ _ _ _ c.requires c.find_larger-j.ensures (c.swap.ensures.by_index.3 0)
    (laws.tail_turned _ _ _ (omega (arith, c.swap.ensures.len, c.requires.inside)) c.reverse.ensures.after)
