-- Taking the edges in, at rows that are given.
use Rattle.std.specs.Prelude.{◌≡◌, List, ℕ, ◌+◌, set}
use Rattle.graph.specs.Rows.{at}

-- Edge e is taken in: its weight is its flow where it is tight, and what its ends send and get elsewhere.
pub data Loads (from to gap weight y flow supply demand : List ℕ) (e : ℕ) (flow' supply' demand' : List ℕ) : Type 0 where
  tight : at y (at to e) ≡ at y (at from e) + at gap e → flow' ≡ set flow e (at weight e) → supply' ≡ supply → demand' ≡ demand
      → Loads from to gap weight y flow supply demand e flow' supply' demand'
  loose : flow' ≡ flow → supply' ≡ set supply (at from e) (at supply (at from e) + at weight e)
      → demand' ≡ set demand (at to e) (at demand (at to e) + at weight e)
      → Loads from to gap weight y flow supply demand e flow' supply' demand'
