-- How much of an input decides its outcome: no accepted table is longer than max_table bytes, and which bytes a longer input has
-- behind them makes no difference. So a program may stop taking input once it has more bytes than that.
use mathlib.Core.Path.{◌≡◌, refl, ap, ◌∙◌}
use mathlib.Core.Bool.{Bool, true, false, ◌&&◌, cond}
use mathlib.Core.List.{List}
use Prim.Native.Nat.{ℕ, zero, suc, ◌+◌, ◌*◌, ◌≤◌, ◌<◌}
use native.Mathlib.Omega.{arith}
use borrow.Author.Tests.{leb-true, leb-false, lt-ltb, ne_eqb}
use lib.Dec.{leb, ltb}
use lib.ListN.{length, take}
use lib.Seq.{take_all, length-take-le, get_or-take}
use Rattle.graph.specs.declared.Edge.{Edge}
use Rattle.graph.specs.declared.TableEdge.{TableEdge}
use Rattle.table.specs.declared.rule.Rule.{Rule}
use Rattle.table.specs.declared.rule.Rule.TheVariants.{Old}
use Rattle.table.specs.declared.types.Kind.{Kind}
use Rattle.table.specs.declared.types.Step.{Step}
use Rattle.outcome.specs.declared.Refusal.{Refusal}
use Rattle.outcome.specs.declared.Refusal.TheVariants.{BadEdition, ManySteps, BadKind, OutOfRange, BadNameByte, ManyEdges, BadFirmness}
use Rattle.table.specs.Limits.{min_edition, max_edition, max_steps, max_edges, max_kind, max_tolerance, min_minutes, max_minutes, min_name, max_name, min_name_byte, max_name_byte, min_gap, max_gap, max_weight, softness, number_bytes, step_bytes, edge_bytes, max_table}
use Rattle.table.specs.Number.{Read, got, fault, and_then, byte_at, number_at, number_in, many, counted}
use Rattle.table.specs.Table.{adjust_at, wait_at, kind_at, name_byte_at, name_at, named_at, step_at, end_at, edge_between, edge_at, firmness_at, table_edge_at, steps_at, edges_at, lists_at, table_at, outcome, read_by, steps_within, edges_within, lists_within, table_within, read_within}
use Rattle.table.proofs.NumberLaws.{in-limits}
use Rattle.table.proofs.InverseLaws.{came, passed, got-place, many-width}
use Rattle.table.proofs.PlaceLaws.{byte-place, width-most, limits-place}
use Rattle.table.proofs.FairLaws.{kind-place, step-fair, end-fair, edge-fair, table-edge-fair}

-- two readings that begin alike, and go on alike from what was read, are the same
same_then : {A B : Type 0} (x : Read A) {y : Read A} (f g : A → ℕ → Read B) → x ≡ y
    → ((a : A) (p : ℕ) → x ≡ got a p → f a p ≡ g a p) → and_then x f ≡ and_then y g
same_then {A} x f g e h = go x h ∙ ap (λ z. and_then z g) e
  where
    go : (x : Read A) → ((a : A) (p : ℕ) → x ≡ got a p → f a p ≡ g a p) → and_then x f ≡ and_then x g
    go (got a p) h = h a p refl
    go (fault r) h = refl

-- ---- each part of a table that ends within as many bytes as a table can have by any rule, of two inputs that have these bytes in common

module _ (rule : Rule) (s t : List ℕ) (same : (i : ℕ) → i < max_table Old → byte_at s i ≡ byte_at t i) where
  number_same : (at : ℕ) → at + number_bytes ≤ max_table Old → number_at rule s at ≡ number_at rule t at
  unfolding number_at
  number_same at h =
      same_then (byte_at s at) _ _ (same at (omega arith)) λ a p e. ap (cond (ltb a 0x80) (got a p))
      (same_then (byte_at s p) _ _ (same p (omega (arith, byte-place s at e))) λ b q f. ap (cond (ltb b 0x80) _)
      (same_then (byte_at s q) _ _ (same q (omega (arith, byte-place s at e, byte-place s p f))) λ c r g. refl))

  limits-end : (low high : ℕ) (r : Refusal) (at : ℕ) {v p : ℕ} → number_in rule low high r s at ≡ got v p → p ≤ at + number_bytes
  limits-end low high r at e = omega (arith, limits-place rule low high r s at e, width-most rule high)

  limits-same : (low high : ℕ) (r : Refusal) (at : ℕ) → at + number_bytes ≤ max_table Old → number_in rule low high r s at ≡ number_in rule low high r t at
  unfolding number_in
  limits-same low high r at h = rw (number_same at h)

  many-same : {A : Type 0} (f g : ℕ → Read A) (w : ℕ) → ((at : ℕ) → at + w ≤ max_table Old → f at ≡ g at)
      → ((at : ℕ) (a : A) (p : ℕ) → f at ≡ got a p → p ≤ at + w) → (n at : ℕ) → at + n * w ≤ max_table Old → many f n at ≡ many g n at
  unfolding many
  many-same f g w each wide zero at h = refl
  many-same f g w each wide (suc n) at h =
      same_then (f at) _ _ (each at (omega arith)) λ a p e.
      same_then (many f n p) _ _ (many-same f g w each wide n p (omega (arith, wide at a p e))) λ l q d. refl

  -- ---- steps

  kind-same : (at : ℕ) → at + 2 * number_bytes ≤ max_table Old → kind_at rule s at ≡ kind_at rule t at
  unfolding kind_at adjust_at wait_at
  kind-same at h =
      same_then (number_in rule 0 max_kind BadKind s at) _ _ (limits-same 0 max_kind BadKind at (omega arith)) λ k p e.
      let l : p + number_bytes ≤ max_table Old = omega (arith, limits-end 0 max_kind BadKind at e) in
      rw (limits-same 0 max_tolerance OutOfRange p l, limits-same min_minutes max_minutes OutOfRange p l)

  name-same : (n at : ℕ) → at + n ≤ max_table Old → name_at s n at ≡ name_at t n at
  unfolding name_at name_byte_at
  name-same n at h = ap counted (many-same (name_byte_at s) (name_byte_at t) 1 (λ i l. rw (same i (omega arith))) wide n at (omega arith))
    where
      wide : (i b p : ℕ) → name_byte_at s i ≡ got b p → p ≤ i + 1
      wide i b p e =
          let c = came (byte_at s i) _ e in
          let good = passed (leb min_name_byte c.value && leb c.value max_name_byte) BadNameByte _ c.next in
          omega (arith, byte-place s i c.first, got-place good.1)

  named-same : (kind : Kind) (at : ℕ) → at + number_bytes + max_name ≤ max_table Old → named_at rule s kind at ≡ named_at rule t kind at
  unfolding named_at
  named-same kind at h =
      same_then (number_in rule min_name max_name OutOfRange s at) _ _ (limits-same min_name max_name OutOfRange at (omega arith)) λ n p e.
      let l : p + n ≤ max_table Old = omega (arith, limits-end min_name max_name OutOfRange at e, in-limits rule min_name max_name OutOfRange s at e) in
      rw (name-same n p l)

  step_same : (at : ℕ) → at + step_bytes Old ≤ max_table Old → step_at rule s at ≡ step_at rule t at
  unfolding step_at
  step_same at h =
      same_then (kind_at rule s at) _ _ (kind-same at (omega arith)) λ kind p e. named-same kind p (omega (arith, kind-place rule s at e, width-most rule max_kind, width-most rule max_tolerance))

  -- ---- edges

  end_same : (n but at : ℕ) → at + number_bytes ≤ max_table Old → end_at rule s n but at ≡ end_at rule t n but at
  unfolding end_at
  end_same n but at h = rw (number_same at h)

  between-same : (from to at : ℕ) → at + 2 * number_bytes ≤ max_table Old → edge_between rule s from to at ≡ edge_between rule t from to at
  unfolding edge_between
  between-same from to at h =
      same_then (number_in rule min_gap max_gap OutOfRange s at) _ _ (limits-same min_gap max_gap OutOfRange at (omega arith)) λ gap p e.
      let l : p + number_bytes ≤ max_table Old = omega (arith, limits-end min_gap max_gap OutOfRange at e) in
      rw (limits-same 0 max_weight OutOfRange p l)

  edge-end : (n at : ℕ) {e : Edge} {p : ℕ} → edge_at rule s n at ≡ got e p → p ≤ at + 4 * number_bytes
  edge-end n at e = omega (arith, (edge-fair rule s n at e).1, width-most rule n, width-most rule max_gap, width-most rule max_weight)

  edge_same : (n at : ℕ) → at + 4 * number_bytes ≤ max_table Old → edge_at rule s n at ≡ edge_at rule t n at
  unfolding edge_at
  edge_same n at h =
      same_then (end_at rule s n n at) _ _ (end_same n n at (omega arith)) λ from p e.
      let a = (end-fair rule s n n at e).2 in
      let w = width-most rule n in
      same_then (end_at rule s n from p) _ _ (end_same n from p (omega arith)) λ to q f.
      let b = (end-fair rule s n from p f).2 in
      between-same from to q (omega arith)

  firmness-same : (edition at : ℕ) → at + number_bytes ≤ max_table Old → firmness_at rule s edition at ≡ firmness_at rule t edition at
  unfolding firmness_at
  firmness-same edition at h = rw (limits-same 0 softness BadFirmness at h)

  table-edge-same : (edition n at : ℕ) → at + edge_bytes Old max_steps ≤ max_table Old → table_edge_at rule s edition n at ≡ table_edge_at rule t edition n at
  unfolding table_edge_at
  table-edge-same edition n at h =
      same_then (edge_at rule s n at) _ _ (edge_same n at (omega arith)) λ e p f.
      let a = edge-end n at f in
      rw (firmness-same edition p (omega arith))

  -- ---- the lists, with where they end

  step_end : (at : ℕ) (x : Step) (p : ℕ) → step_at rule s at ≡ got x p → p ≤ at + step_bytes Old
  step_end at x p e = omega (arith, (step-fair rule s at e).1, width-most rule max_kind, width-most rule max_tolerance, width-most rule max_name)

  table-edge-end : (edition n at : ℕ) (x : TableEdge) (p : ℕ) → table_edge_at rule s edition n at ≡ got x p → p ≤ at + edge_bytes Old max_steps
  table-edge-end edition n at x p e =
      omega (arith, (table-edge-fair rule s edition n at e).1, width-most rule n, width-most rule max_gap, width-most rule max_weight, width-most rule softness)

  steps-same : (at : ℕ) → at + number_bytes + max_steps * step_bytes Old ≤ max_table Old → steps_at rule s at ≡ steps_at rule t at
  unfolding steps_within
  steps-same at h =
      same_then (number_in rule 0 max_steps ManySteps s at) _ _ (limits-same 0 max_steps ManySteps at (omega arith)) λ n p e.
      many-same (step_at rule s) (step_at rule t) (step_bytes Old) step_same step_end n p
      (omega (arith, limits-end 0 max_steps ManySteps at e, in-limits rule 0 max_steps ManySteps s at e))

  edges-same : (edition n at : ℕ) → at + number_bytes + max_edges * edge_bytes Old max_steps ≤ max_table Old → edges_at rule s edition n at ≡ edges_at rule t edition n at
  unfolding edges_within
  edges-same edition n at h =
      same_then (number_in rule 0 max_edges ManyEdges s at) _ _ (limits-same 0 max_edges ManyEdges at (omega arith)) λ m p e.
      many-same (table_edge_at rule s edition n) (table_edge_at rule t edition n) (edge_bytes Old max_steps) (table-edge-same edition n) (table-edge-end edition n) m p
      (omega (arith, limits-end 0 max_edges ManyEdges at e, in-limits rule 0 max_edges ManyEdges s at e))

  steps-place : (at : ℕ) {l : List Step} {p : ℕ} → steps_at rule s at ≡ got l p → p ≤ at + number_bytes + max_steps * step_bytes Old
  unfolding steps_within
  steps-place at e =
      let n = came (number_in rule 0 max_steps ManySteps s at) _ e in
      let wide = many-width (step_at rule s) (step_bytes Old) step_end n.value n.place n.next in
      omega (arith, limits-end 0 max_steps ManySteps at n.first, in-limits rule 0 max_steps ManySteps s at n.first)

  edges-place : (edition n at : ℕ) {l : List TableEdge} {p : ℕ} → edges_at rule s edition n at ≡ got l p → p ≤ at + number_bytes + max_edges * edge_bytes Old max_steps
  unfolding edges_within
  edges-place edition n at e =
      let m = came (number_in rule 0 max_edges ManyEdges s at) _ e in
      let wide = many-width (table_edge_at rule s edition n) (edge_bytes Old max_steps) (table-edge-end edition n) m.value m.place m.next in
      omega (arith, limits-end 0 max_edges ManyEdges at m.first, in-limits rule 0 max_edges ManyEdges s at m.first)

  -- ---- the table: both inputs go on behind the last edge, so both have bytes to spare

  module _ (more-s : max_table Old < length s) (more-t : max_table Old < length t) where
    lists-same : (edition at : ℕ) → at ≤ number_bytes → lists_at rule s edition at ≡ lists_at rule t edition at
    unfolding lists_within
    lists-same edition at h =
        same_then (steps_at rule s at) _ _ (steps-same at (omega arith)) λ steps p e.
        let a = steps-place at e in
        same_then (edges_at rule s edition (length steps) p) _ _ (edges-same edition (length steps) p (omega arith)) λ edges q f.
        let b = edges-place edition (length steps) p f in
        rw (ne_eqb q (length s) (λ z. omega arith), ne_eqb q (length t) (λ z. omega arith))

    table_same : table_at rule s 0 ≡ table_at rule t 0
    unfolding table_within
    table_same =
        same_then (number_in rule min_edition max_edition BadEdition s 0) _ _ (limits-same min_edition max_edition BadEdition 0 (omega arith)) λ v p e.
        lists-same v p (omega (arith, limits-end min_edition max_edition BadEdition 0 e))

-- A reader that takes only the first k bytes, for any k above the length of the longest table of the old rule, gets the outcome of the whole,
-- refusals included. An input of at most k bytes is taken whole. Of a longer one both readings see the same bytes where a table
-- could have any, so that they meet the same fault there, or both find bytes to spare.
pub read-prefix : (rule : Rule) (k : ℕ) (s : List ℕ) → max_table Old < k → read_by rule (take k s) ≡ read_by rule s
unfolding read_within byte_at
read-prefix rule k s h = go (leb (length s) k) refl
  where
    go : (b : Bool) → leb (length s) k ≡ b → read_by rule (take k s) ≡ read_by rule s
    go true e = ap (read_by rule) (take_all k s (leb-true (length s) k e))
    go false e =
        let l = leb-false (length s) k e in
        let n = length-take-le k s (omega arith) in
        let same : (i : ℕ) → i < max_table Old → byte_at (take k s) i ≡ byte_at s i =
        λ i m. rw (lt-ltb i (length (take k s)) (omega arith), lt-ltb i (length s) (omega arith), get_or-take k s i 0 (omega arith)) in
        ap outcome (table_same rule (take k s) s same (omega arith) (omega arith))
