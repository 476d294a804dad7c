use Rattle.std.proofs.Common.{arith}
use Rattle.std.proofs.lemmas.Grind.{common_steps}
use Rattle.std.proofs.iter.runs.Sources.{range_listed_back}
use Rattle.permutations.proofs.PlaceLaws as laws
use Rattle.permutations.proofs.find_pivot.Goals as goal

pub returns : goal.returns
returns c = laws.pivot-found _ _ (λ e k h l. grind (arith, common_steps, range_listed_back)) (λ r e. grind (arith, common_steps, range_listed_back)) (λ r e. grind (arith, common_steps, range_listed_back)) (λ r e k h l. grind (arith, common_steps, range_listed_back))
