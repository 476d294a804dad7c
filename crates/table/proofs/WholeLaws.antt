-- A whole table, made of the two lists that were read.
use mathlib.Core.Path.{◌≡◌}
use mathlib.Core.List.{List}
use Prim.Native.Nat.{ℕ}
use borrow.Author.Tests.{eq-eqb, ne_eqb}
use lib.ListN.{length}
use Rattle.graph.specs.declared.TableEdge.{TableEdge}
use Rattle.outcome.specs.declared.Refusal.{Refusal}
use Rattle.outcome.specs.declared.Refusal.TheVariants.{Spare}
use Rattle.table.specs.declared.rule.Rule.{Rule}
use Rattle.table.specs.declared.types.Step.{Step}
use Rattle.table.specs.Number.{got, fault}
use Rattle.table.specs.Table.{steps_at, edges_at, lists_at, lists_within}

module _ (rule : Rule) (s : List ℕ) (edition at : ℕ) where
  pub lists-stop : {f : Refusal} → steps_at rule s at ≡ fault f → lists_at rule s edition at ≡ fault f
  unfolding lists_within
  lists-stop e = rw e

  module _ {steps : List Step} {p : ℕ} (n : ℕ) (e : steps_at rule s at ≡ got steps p) (l : length steps ≡ n) where
    pub lists-cut : {f : Refusal} → edges_at rule s edition n p ≡ fault f → lists_at rule s edition at ≡ fault f
    unfolding lists_within
    lists-cut g = rw (e, l, g)

    module _ {edges : List TableEdge} {q : ℕ} (g : edges_at rule s edition n p ≡ got edges q) where
      pub lists-spare : (q ≡ length s → ⊥) → lists_at rule s edition at ≡ fault Spare
      unfolding lists_within
      lists-spare h = rw (e, l, g, ne_eqb q (length s) h)

      pub lists-whole : q ≡ length s → lists_at rule s edition at ≡ got (record { steps = steps; edges = edges }) q
      unfolding lists_within
      lists-whole h = rw (e, l, g, eq-eqb q (length s) h)
