-- An order and its crossings against the best so far.
use Rattle.std.specs.Prelude.{List, ℕ}
use Rattle.buffers.specs.Keeping.{Keeping}
use Rattle.crossings.specs.Placing.{ChartCrossings}

-- what becomes of the best so far where the order in the lists, whose crossings are counted, is held against it
pub record Judged (first head next lower order pos saved : List ℕ) (fewest : ℕ) (saved' : List ℕ) (fewest' : ℕ) : Type 0 where
  pub crossings : ℕ
  pub counted : ChartCrossings order first head next lower pos crossings
  pub keeping : Keeping order crossings saved fewest saved' fewest'
