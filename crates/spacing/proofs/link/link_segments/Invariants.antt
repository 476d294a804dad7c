-- The edges of the first segments are written.
use lib.ListN.{length}
use Rattle.flatten.specs.Flat.{flat_edges}
use Rattle.spacing.proofs.ExtendLaws.{Pulling}
use Rattle.spacing.proofs.link.link_segments.Given as goal

abbrev pub invariant-loop-k : goal.invariant-loop-k
invariant-loop-k l = Pulling l.n l.upper l.lower l.cost (flat_edges l.initial.links) (length l.yielded) (flat_edges l.links)
