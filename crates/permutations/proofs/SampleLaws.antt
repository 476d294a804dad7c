-- Rows of three and four points, computed.
use mathlib.Core.Path.{◌≡◌, refl}
use mathlib.Core.List.{[], ◌∷◌, flatten}
use lib.ListN.{length}
use Rattle.graph.specs.Search.{run}
use Rattle.permutations.specs.Orders.{picks, arranged_in, arrangements}
use Rattle.permutations.specs.Next.{to, above, exchanged, next_with, next_order, following, orders}

-- the six orders of a row of the points 7, 3 and 9, by where they stand and not by their numbers
three-arranged : arrangements (7 ∷ 3 ∷ 9 ∷ [])
    ≡ (7 ∷ 3 ∷ 9 ∷ []) ∷ (7 ∷ 9 ∷ 3 ∷ []) ∷ (3 ∷ 7 ∷ 9 ∷ []) ∷ (3 ∷ 9 ∷ 7 ∷ []) ∷ (9 ∷ 7 ∷ 3 ∷ []) ∷ (9 ∷ 3 ∷ 7 ∷ []) ∷ []
unfolding arranged_in picks flatten
three-arranged = refl

-- the walk from order to order over three positions, with more tries than there are orders
three-orders : orders 9 (run 0 3) ≡ (0 ∷ 1 ∷ 2 ∷ []) ∷ (0 ∷ 2 ∷ 1 ∷ []) ∷ (1 ∷ 0 ∷ 2 ∷ []) ∷ (1 ∷ 2 ∷ 0 ∷ []) ∷ (2 ∷ 0 ∷ 1 ∷ []) ∷ (2 ∷ 1 ∷ 0 ∷ []) ∷ []
unfolding run orders following next_order next_with exchanged above
three-orders = refl

-- four points have twenty-four
four-orders : length (orders 50 (run 0 4)) ≡ 24
unfolding run orders following next_order next_with exchanged above
four-orders = refl

four-after : next_order (1 ∷ 3 ∷ 2 ∷ 0 ∷ []) ≡ to (2 ∷ 0 ∷ 1 ∷ 3 ∷ [])
unfolding next_order next_with exchanged above
four-after = refl
