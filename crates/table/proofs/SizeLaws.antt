-- A larger size takes all that a smaller one takes, and reads the same: so tables that were accepted before document 02 let them grow are
-- read as they were.
use mathlib.Core.Path.{◌≡◌, refl, sym, subst}
use mathlib.Core.Bool.{Bool, true, false, ◌&&◌}
use mathlib.Core.Logic.{◌⊎◌, inl, inr}
use mathlib.Core.List.{List}
use Prim.Native.Nat.{ℕ, ◌≤◌}
use native.Mathlib.Nat.{le_trans}
use native.Mathlib.Omega.{arith}
use borrow.Author.Tests.{leb-true, le-leb}
use lib.Dec.{leb, eqb}
use lib.ListN.{length}
use Rattle.outcome.specs.declared.Refusal.{Refusal}
use Rattle.outcome.specs.declared.Refusal.TheVariants.{BadEdition, ManySteps, ManyEdges, Spare}
use Rattle.table.specs.declared.rule.Rule.{Rule}
use Rattle.table.specs.Limits.{min_edition, max_edition, Size, max_size, old_size}
use Rattle.outcome.specs.Refusal.{done, refused}
use Rattle.table.specs.Number.{Read, got, fault, judge, number_at, number_in, many}
use Rattle.table.specs.Table.{Contents, step_at, table_edge_at, steps_within, edges_within, lists_within, table_within, outcome, read_within, read_by}
use Rattle.table.proofs.NumberLaws.{in-limits}
use Rattle.table.proofs.InverseLaws.{came, passed, got-value, many-length}
use Rattle.table.proofs.FollowLaws.{Follows, follows_then, follows_on, follows-more, follows_same, follows-done, follows-refused}

-- more steps, or more edges, than the smaller size has
abbrev Excused : Refusal → Type 0
Excused r = (r ≡ ManySteps) ⊎ (r ≡ ManyEdges)

raised : (low v small large : ℕ) → small ≤ large → leb low v && leb v small ≡ true → leb low v && leb v large ≡ true
raised low v small large h e = go (leb low v) (leb v small) refl refl e
  where
    go : (t u : Bool) → leb low v ≡ t → leb v small ≡ u → t && u ≡ true → leb low v && leb v large ≡ true
    go true true a b c = rw (a, le-leb v large (le_trans (leb-true v small b) h)) refl
    go true false a b c = let z : ◌≡◌ {A = ℕ} 0 1 = cc in absurd (omega arith)
    go false u a b c = let z : ◌≡◌ {A = ℕ} 0 1 = cc in absurd (omega arith)

module _ (small large : Size) (steps-grow : small.steps ≤ large.steps) (edges-grow : small.edges ≤ large.edges) (rule : Rule) (s : List ℕ) where
  -- a count within the smaller limit, or with its refusal
  count-grows : (few many : ℕ) (r : Refusal) (at : ℕ) → few ≤ many → Excused r → Follows Excused (number_in rule 0 few r s at) (number_in rule 0 many r s at)
  unfolding number_in
  count-grows few many r at h e =
      follows_on Excused (number_at rule s at) _ _ (λ v p. follows-more Excused (leb 0 v && leb v few) (leb 0 v && leb v many) r (got v p) e (raised 0 v few many h))

  table-grows : Follows Excused (table_within small rule s 0) (table_within large rule s 0)
  unfolding table_within lists_within steps_within edges_within
  table-grows =
      follows_on Excused (number_in rule min_edition max_edition BadEdition s 0) _ _ (λ edition p.
      follows_then Excused (steps_within small rule s p) (steps_within large rule s p) _ _
      (follows_then Excused (number_in rule 0 small.steps ManySteps s p) (number_in rule 0 large.steps ManySteps s p) _ _
      (count-grows small.steps large.steps ManySteps p steps-grow (inl refl)) (λ n q. follows_same Excused (many (step_at rule s) n q))) (λ l q.
      follows_then Excused (edges_within small rule s edition (length l) q) (edges_within large rule s edition (length l) q) _ _
      (follows_then Excused (number_in rule 0 small.edges ManyEdges s q) (number_in rule 0 large.edges ManyEdges s q) _ _
      (count-grows small.edges large.edges ManyEdges q edges-grow (inr refl)) (λ m e. follows_same Excused (many (table_edge_at rule s edition (length l)) m e))) (λ m e.
      follows_same Excused (judge (eqb e (length s)) Spare (got (record { steps = l; edges = m }) e)))))

  -- what the smaller size accepts the larger accepts, with the same contents
  pub read-larger : {c : Contents} → read_within small rule s ≡ done c → read_within large rule s ≡ done c
  unfolding read_within
  read-larger e = follows-done Excused (table_within small rule s 0) (table_within large rule s 0) table-grows e

  -- and what it refuses by another number than 4 or 8 the larger refuses alike
  pub refused-larger : {r : Refusal} → read_within small rule s ≡ refused r → (r ≡ ManySteps → ⊥) → (r ≡ ManyEdges → ⊥) → read_within large rule s ≡ refused r
  unfolding read_within
  refused-larger {r} e a b = follows-refused Excused (table_within small rule s 0) (table_within large rule s 0) table-grows e neither
    where
      neither : Excused r → ⊥
      neither (inl x) = a x
      neither (inr x) = b x

-- what is accepted within a size has no more steps and edges than it says
module _ (size : Size) (rule : Rule) (s : List ℕ) where
  table-few : {c : Contents} {p : ℕ} → table_within size rule s 0 ≡ got c p → (length c.steps ≤ size.steps) × (length c.edges ≤ size.edges)
  unfolding table_within lists_within steps_within edges_within
  table-few {c} {p} e =
      let ed = came (number_in rule min_edition max_edition BadEdition s 0) _ e in
      let st = came (steps_within size rule s ed.place) _ ed.next in
      let es = came (edges_within size rule s ed.value (length st.value) st.place) _ st.next in
      let last = passed (eqb es.place (length s)) Spare _ es.next in
      let n = came (number_in rule 0 size.steps ManySteps s ed.place) _ st.first in
      let m = came (number_in rule 0 size.edges ManyEdges s st.place) _ es.first in
      let few = (in-limits rule 0 size.steps ManySteps s ed.place n.first).1 in
      let fewer = (in-limits rule 0 size.edges ManyEdges s st.place m.first).1 in
      let nl = many-length (step_at rule s) n.value n.place n.next in
      let ml = many-length (table_edge_at rule s ed.value (length st.value)) m.value m.place m.next in
      subst (λ (t : Contents). (length t.steps ≤ size.steps) × (length t.edges ≤ size.edges)) (got-value last.1)
      (subst (λ x. x ≤ size.steps) (sym nl) few, subst (λ x. x ≤ size.edges) (sym ml) fewer)

  pub read-few : {c : Contents} → read_within size rule s ≡ done c → (length c.steps ≤ size.steps) × (length c.edges ≤ size.edges)
  unfolding read_within
  read-few {c} e = go (table_within size rule s 0) refl e
    where
      go : (x : Read Contents) → table_within size rule s 0 ≡ x → outcome x ≡ done c → (length c.steps ≤ size.steps) × (length c.edges ≤ size.edges)
      go (got t p) f e = let k : t ≡ c = cc in subst (λ (t : Contents). (length t.steps ≤ size.steps) × (length t.edges ≤ size.edges)) k (table-few f)
      go (fault r) f e = let z : ◌≡◌ {A = ℕ} 0 1 = cc in absurd (omega arith)

-- a table that the old limits accepted is read as before, by either rule, and refused as before but where there were too many steps or edges
module _ (rule : Rule) (s : List ℕ) where
  pub read-before : {c : Contents} → read_within old_size rule s ≡ done c → read_by rule s ≡ done c
  read-before e = read-larger old_size max_size (omega arith) (omega arith) rule s e

  pub refused-before : {r : Refusal} → read_within old_size rule s ≡ refused r → (r ≡ ManySteps → ⊥) → (r ≡ ManyEdges → ⊥) → read_by rule s ≡ refused r
  refused-before e = refused-larger old_size max_size (omega arith) (omega arith) rule s e
