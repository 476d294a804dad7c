use Rattle.augment.proofs.residual.Residual.find_open.Given as goal

abbrev pub decreases-loop-k : goal.decreases-loop-k
decreases-loop-k l = l.k
