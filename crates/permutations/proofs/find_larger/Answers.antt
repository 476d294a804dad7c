use Prim.Native.Nat.{ℕ}
use lib.ListN.{drop}
use Rattle.std.proofs.lemmas.List.{take_rest}
use mathlib.Core.Path.{◌∙◌}
use lib.Dec.{ltb}
use Rattle.std.proofs.Common.{rules, tests}
use Rattle.std.proofs.lemmas.Iterator.{YieldsList-from_slice}
use Rattle.std.proofs.lemmas.Iterator.Search.{YieldsList-from_take_while}
use Rattle.std.proofs.lemmas.Iterator.Consumers.{YieldsList-at, count_from_yields_List}
use Rattle.std.proofs.lemmas.List.Folds.{length-prefix_len}
use Rattle.permutations.proofs.PlaceLaws as laws
use Rattle.permutations.proofs.find_larger.Goals as goal

pub returns : goal.returns
returns c =
    let e = count_from_yields_List _ _ c.count.ensures.ran (YieldsList-from_take_while _ (λ y. ltb c.args.x y) (YieldsList-at c.take_while.ensures.source (YieldsList-from_slice _ (c.iter.ensures.rest ∙ take_rest c.args.p.now c.args.r))) c.take_while.ensures.closure c.take_while.ensures.done (λ x b q k. search (rules, tests))) in
    laws.run-found _ _ _ _ c.requires.r_in_bounds c.requires.x_bound (e ∙ length-prefix_len (λ (y : ℕ). ltb c.args.x y) (drop c.args.r c.args.p.now))
