-- The best so far and the orders that are left make the answer.
use mathlib.Core.Path.{◌≡◌}
use lib.ListN.{length}
use Rattle.exchange.proofs.TurnLaws as laws
use Rattle.exchange.proofs.best.find_best.Given as goal

abbrev pub invariant-loop : goal.invariant-loop
invariant-loop l = laws.Trying l.costs.table.now l.tries l.initial.order l.order l.saved l.total l.fewest l.counter × (length l.order ≡ length l.initial.order) × (length l.saved ≡ length l.initial.saved)
