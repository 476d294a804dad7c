-- The old rule takes all that any rule takes, and reads the same: what is read by a rule is read by the old one too, part by part.
use mathlib.Core.Path.{◌≡◌, refl}
use mathlib.Core.Bool.{Bool, true, false, not, ◌&&◌}
use mathlib.Core.List.{List}
use Prim.Native.Nat.{ℕ}
use lib.Dec.{leb, ltb, eqb}
use lib.ListN.{length}
use Rattle.outcome.specs.declared.Refusal.{Refusal}
use Rattle.outcome.specs.declared.Refusal.TheVariants.{BadEdition, ManySteps, BadKind, OutOfRange, ManyEdges, BadEnd, Spare, Overlong, BadFirmness}
use Rattle.table.specs.declared.rule.Rule.{Rule}
use Rattle.table.specs.declared.rule.Rule.TheVariants.{Old}
use Rattle.table.specs.Limits.{min_edition}
use Rattle.outcome.specs.Refusal.{done, refused}
use Rattle.table.specs.Number.{got, judge, byte_at, takes, number_at, number_in}
use Rattle.table.specs.Table.{Contents, adjust_at, wait_at, kind_at, name_at, named_at, step_at, end_at, edge_between, edge_at, firmness_at, table_edge_at, steps_at, edges_at, table_at, read_by, steps_within, edges_within, lists_within, table_within, read_within}
use Rattle.table.proofs.FollowLaws.{Follows, follows_same, follows_then, follows_on, follows-cond, follows-judge, follows-more, follows-many, follows-done, follows-refused}

-- a last byte that the rule does not take
abbrev Excused : Refusal → Type 0
Excused r = r ≡ Overlong

-- the old rule has one test less
less : (t u : Bool) → t && u ≡ true → t && true ≡ true
less true u e = refl
less false u e = e

module _ (rule : Rule) (s : List ℕ) where
  old-number : (at : ℕ) → Follows Excused (number_at rule s at) (number_at Old s at)
  unfolding number_at
  old-number at =
      follows_on Excused (byte_at s at) _ _ (λ a p. follows-cond Excused (ltb a 0x80) _ _ _ _ refl
      (follows_on Excused (byte_at s p) _ _ (λ b q. follows-cond Excused (ltb b 0x80) _ _ _ _ (follows-more Excused (takes rule b) true Overlong _ refl (λ _. refl))
      (follows_on Excused (byte_at s q) _ _ (λ c e. follows-more Excused (ltb c 0x80 && takes rule c) (ltb c 0x80 && true) Overlong _ refl (less (ltb c 0x80) (takes rule c)))))))

  old-limits : (low high : ℕ) (r : Refusal) (at : ℕ) → Follows Excused (number_in rule low high r s at) (number_in Old low high r s at)
  unfolding number_in
  old-limits low high r at = follows_then Excused (number_at rule s at) (number_at Old s at) _ _ (old-number at) (λ v p. follows_same Excused (judge (leb low v && leb v high) r (got v p)))

  -- ---- steps

  old-step : (at : ℕ) → Follows Excused (step_at rule s at) (step_at Old s at)
  unfolding step_at kind_at adjust_at wait_at named_at
  old-step at =
      follows_then Excused (kind_at rule s at) (kind_at Old s at) _ _ kind (λ k p. follows_then Excused (number_in rule _ _ OutOfRange s p) (number_in Old _ _ OutOfRange s p) _ _ (old-limits _ _ OutOfRange p) (λ l q. follows_on Excused (name_at s l q) _ _ (λ len e. refl)))
    where
      kind : Follows Excused (kind_at rule s at) (kind_at Old s at)
      kind =
          follows_then Excused (number_in rule _ _ BadKind s at) (number_in Old _ _ BadKind s at) _ _ (old-limits _ _ BadKind at) (λ k p. follows-cond Excused (eqb k 0) _ _ _ _ refl
          (follows-cond Excused (eqb k 1) _ _ _ _
          (follows_then Excused (number_in rule _ _ OutOfRange s p) (number_in Old _ _ OutOfRange s p) _ _ (old-limits _ _ OutOfRange p) (λ t q. refl))
          (follows_then Excused (number_in rule _ _ OutOfRange s p) (number_in Old _ _ OutOfRange s p) _ _ (old-limits _ _ OutOfRange p) (λ t q. refl))))

  -- ---- edges

  old-end : (n but at : ℕ) → Follows Excused (end_at rule s n but at) (end_at Old s n but at)
  unfolding end_at
  old-end n but at = follows_then Excused (number_at rule s at) (number_at Old s at) _ _ (old-number at) (λ v p. follows_same Excused (judge (ltb v n && not (eqb v but)) BadEnd (got v p)))

  old-edge : (n at : ℕ) → Follows Excused (edge_at rule s n at) (edge_at Old s n at)
  unfolding edge_at edge_between
  old-edge n at =
      follows_then Excused (end_at rule s n n at) (end_at Old s n n at) _ _ (old-end n n at) (λ f p.
      follows_then Excused (end_at rule s n f p) (end_at Old s n f p) _ _ (old-end n f p) (λ t q.
      follows_then Excused (number_in rule _ _ OutOfRange s q) (number_in Old _ _ OutOfRange s q) _ _ (old-limits _ _ OutOfRange q) (λ g e.
      follows_then Excused (number_in rule _ _ OutOfRange s e) (number_in Old _ _ OutOfRange s e) _ _ (old-limits _ _ OutOfRange e) (λ w o. refl))))

  old-table-edge : (edition n at : ℕ) → Follows Excused (table_edge_at rule s edition n at) (table_edge_at Old s edition n at)
  unfolding table_edge_at firmness_at
  old-table-edge edition n at =
      follows_then Excused (edge_at rule s n at) (edge_at Old s n at) _ _ (old-edge n at) (λ e p.
      follows_then Excused (firmness_at rule s edition p) (firmness_at Old s edition p) _ _
      (follows-cond Excused (eqb edition min_edition) _ _ _ _ refl (old-limits _ _ BadFirmness p)) (λ f q. refl))

  -- ---- the table

  old-table : Follows Excused (table_at rule s 0) (table_at Old s 0)
  unfolding table_within lists_within steps_within edges_within
  old-table =
      follows_then Excused (number_in rule _ _ BadEdition s 0) (number_in Old _ _ BadEdition s 0) _ _ (old-limits _ _ BadEdition 0) (λ edition p.
      follows_then Excused (steps_at rule s p) (steps_at Old s p) _ _ (steps p) (λ l q.
      follows_then Excused (edges_at rule s edition (length l) q) (edges_at Old s edition (length l) q) _ _ (edges edition (length l) q) (λ m e.
      follows-judge Excused (eqb e (length s)) Spare _ _ refl)))
    where
      steps : (p : ℕ) → Follows Excused (steps_at rule s p) (steps_at Old s p)
      steps p =
          follows_then Excused (number_in rule _ _ ManySteps s p) (number_in Old _ _ ManySteps s p) _ _ (old-limits _ _ ManySteps p) (λ n q.
          follows-many Excused (step_at rule s) (step_at Old s) old-step n q)

      edges : (edition n q : ℕ) → Follows Excused (edges_at rule s edition n q) (edges_at Old s edition n q)
      edges edition n q =
          follows_then Excused (number_in rule _ _ ManyEdges s q) (number_in Old _ _ ManyEdges s q) _ _ (old-limits _ _ ManyEdges q) (λ m e.
          follows-many Excused (table_edge_at rule s edition n) (table_edge_at Old s edition n) (old-table-edge edition n) m e)

-- A table that any rule accepts the old rule accepts, with the same contents. So today's tables may go through the converter too.
pub read-old : (rule : Rule) (s : List ℕ) {c : Contents} → read_by rule s ≡ done c → read_by Old s ≡ done c
unfolding read_within
read-old rule s e = follows-done Excused (table_at rule s 0) (table_at Old s 0) (old-table rule s) e

-- And what a rule refuses by another number than 2 the old rule refuses alike.
pub refused-old : (rule : Rule) (s : List ℕ) {r : Refusal} → read_by rule s ≡ refused r → (r ≡ Overlong → ⊥) → read_by Old s ≡ refused r
unfolding read_within
refused-old rule s e n = follows-refused Excused (table_at rule s 0) (table_at Old s 0) (old-table rule s) e n
