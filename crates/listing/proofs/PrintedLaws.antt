-- What the program prints for a longer input: it takes the first max_input bytes, and these decide every line.
use mathlib.Core.Path.{◌≡◌, refl, ap}
use mathlib.Core.List.{List}
use Prim.Native.Nat.{ℕ, ◌<◌}
use native.Mathlib.Omega.{arith}
use lib.Seq.{take_all}
use Rattle.table.specs.declared.rule.Rule.TheVariants.{Old, Shortest}
use Rattle.table.specs.Limits.{max_table, max_input}
use Rattle.outcome.specs.Refusal.{Outcome, done, refused}
use Rattle.table.specs.Table.{Contents, read}
use Rattle.table.proofs.FairLaws.{read_short}
use Rattle.table.proofs.PrefixLaws.{read-prefix}
use Rattle.ordering.specs.Calls.{chart_of_table}
use Rattle.listing.specs.Listing.{listing}
use Rattle.listing.specs.Calls.{printed}

-- the program takes more than any table has that a rule accepts
enough : max_table Old < max_input
enough = omega arith

-- Of a longer input the lines are those of the whole. An accepted table is no longer than what is taken. Of a refused one both
-- readings end with the same refusal, and its line has no byte of the table.
pub printed-whole : (input : List ℕ) → printed input ≡ listing input
unfolding printed listing chart_of_table
printed-whole input = go (read input) refl
  where
    go : (o : Outcome Contents) → read input ≡ o → printed input ≡ listing input
    go (done t) e = ap listing (take_all max_input input (omega (arith, read_short input e)))
    go (refused r) e = rw (read-prefix Shortest max_input input enough, e)
