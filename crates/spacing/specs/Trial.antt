-- The best x as a definition that computes: all x that are spaced are tried. It shares nothing with the method of the search.
use Rattle.std.specs.Prelude.{List, ℕ, ◌-◌}
use Rattle.graph.specs.Rows.{at}
use Rattle.graph.specs.Search.{placements, first_lightest}
use Rattle.spacing.specs.Coordinates.{Costed, x_total}
use Rattle.spacing.specs.Auxiliary.{order_edges}

-- The answer of document 02, request 7: of the spaced x of n points, each from 0 to n − 1, the first in dictionary order of least total, which
-- is the lowest at every point. No best x is as large as n, so no others need be tried.
unfoldable pub xs_of : ℕ → List (List ℕ) → List Costed → List ℕ
xs_of n order costed = first_lightest (λ xs. x_total costed (at xs)) (placements (order_edges order) (n - 1) n)
