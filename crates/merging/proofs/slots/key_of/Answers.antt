-- Each answer by the firmness.
use mathlib.Core.Path.{refl}
use Rattle.merging.specs.Merging.{key_of}
use Rattle.merging.proofs.slots.key_of.Goals as goal

pub returns-then-e : goal.returns-then-e
unfolding key_of
returns-then-e c = simp c.if-e.true refl

pub returns : goal.returns
unfolding key_of
returns c = simp c.if-e.false refl
