-- Of some orders the first with fewest crossings, or of whatever else counts them.
use Rattle.std.specs.Prelude.{cond, List, [], ◌∷◌, ℕ, ltb}
use Rattle.permutations.specs.Next.{next_order, following}
use Rattle.exchange.specs.Costs.{cost_of}

-- the first with fewest, of one order and those after it
unfoldable pub fewest_by : (List ℕ → ℕ) → List ℕ → List (List ℕ) → List ℕ
fewest_by count best [] = best
fewest_by count best (p ∷ ps) = fewest_by count (cond (ltb (count p) (count best)) p best) ps

-- of a list of orders
abbrev pub first_fewest : (List ℕ → ℕ) → List (List ℕ) → List ℕ
first_fewest count [] = []
first_fewest count (p ∷ ps) = fewest_by count p ps

-- the best order by the costs of pairs: of one and as many that follow it as there are tries
unfoldable pub cheapest : (ℕ → ℕ → ℕ) → ℕ → List ℕ → List ℕ
cheapest cost tries row = fewest_by (cost_of cost) row (following tries (next_order row))
