-- The whole table: reading the shortest table gives what it was made from, and no table that says the same is shorter.
use mathlib.Core.Path.{◌≡◌, refl, sym, ap, subst, ◌∙◌}
use mathlib.Core.List.{List, [], ◌∷◌, ◌++◌, map}
use Prim.Native.Nat.{ℕ, ◌+◌, ◌≤◌}
use native.Mathlib.Omega.{arith}
use borrow.Author.Tests.{eq-eqb, eqb-true}
use lib.Dec.{eqb}
use lib.ListN.{length, length-append, length-map}
use Rattle.graph.specs.declared.TableEdge.{TableEdge}
use Rattle.outcome.specs.declared.Refusal.TheVariants.{BadEdition, ManySteps, ManyEdges, Spare}
use Rattle.outcome.specs.Refusal.{Outcome, done, then_do}
use Rattle.table.specs.declared.rule.Rule.{Rule}
use Rattle.table.specs.declared.rule.Rule.TheVariants.{Old, Shortest}
use Rattle.table.specs.declared.types.Step.{Step}
use Rattle.table.specs.Limits.{min_edition, max_edition, max_steps, max_edges}
use Rattle.table.specs.Number.{Read, got, fault, number_in}
use Rattle.table.specs.Table.{Contents, step_at, table_edge_at, steps_at, edges_at, table_at, outcome, read_by, read, steps_within, edges_within, lists_within, table_within, read_within}
use Rattle.table.proofs.NumberLaws.{in-limits}
use Rattle.table.proofs.OldLaws.{read-old}
use Rattle.table.proofs.InverseLaws.{came, passed, got-value, many-length}
use Rattle.table.proofs.PlaceLaws.{limits-place}
use Rattle.encoding.specs.Said.{SaidStep, Said, said_step, said}
use Rattle.encoding.specs.Shortest.{short_number, short_step, edition_for, short_edge, each, short_list, shortest}
use Rattle.encoding.proofs.ShortLaws.{bytes_one}
use Rattle.encoding.proofs.BoundLaws.{edition-low}
use Rattle.writing.specs.Calls.{shortened_by}
use Rattle.writing.specs.Sayable.{Says, All, SayableStep, SayableEdge, Sayable}
use Rattle.writing.proofs.StandsLaws.{Stands, stands-whole, stands-first, stands-then}
use Rattle.writing.proofs.BackLaws.{limits-back, limits-short}
use Rattle.writing.proofs.EachLaws.{Back, many-back, many-short}
use Rattle.writing.proofs.StepLaws.{step_back, step-short}
use Rattle.writing.proofs.EdgeLaws.{TellableEdge, edge-back, edge-short, edition-some, tellable, sayable, told-short}

map_same : {A : Type 0} (l : List A) → map (λ (a : A). a) l ≡ l
map_same [] = refl
map_same (a ∷ l) = ap (λ m. a ∷ m) (map_same l)

-- ---- read back

module _ (s : List ℕ) where
  steps_back : (at : ℕ) (l : List SaidStep) → length l ≤ max_steps → All SayableStep l → Stands s at (short_list short_step l)
      → Back (map (said_step s)) (steps_at Shortest s at) l (at + length (short_list short_step l))
  unfolding steps_within short_list
  steps_back at l few g h =
      let a = short_number (length l) in
      let b = each short_step l in
      let n = limits-back 0 max_steps ManySteps s at (length l) (omega arith) few (omega arith) (stands-first a b h) in
      let m = many-back (step_at Shortest s) (said_step s) short_step SayableStep s (step_back s) (at + length a) l g (stands-then a b h) in
      let e : at + length a + length b ≡ at + length (a ++ b) = omega (arith, length-append a b) in
      record { value = m.value; reads = rw n (m.reads ∙ ap (got m.value) e); says = m.says }

  edges-back : (edition n at : ℕ) (l : List TableEdge) → n ≤ max_steps → length l ≤ max_edges → All (TellableEdge edition n) l
      → Stands s at (short_list (short_edge edition) l) → edges_at Shortest s edition n at ≡ got l (at + length (short_list (short_edge edition) l))
  unfolding edges_within short_list
  edges-back edition n at l low few g h =
      let a = short_number (length l) in
      let b = each (short_edge edition) l in
      let c = limits-back 0 max_edges ManyEdges s at (length l) (omega arith) few (omega arith) (stands-first a b h) in
      let m = many-back (table_edge_at Shortest s edition n) (λ e. e) (short_edge edition) (TellableEdge edition n) s (edge-back s edition n low) (at + length a) l g (stands-then a b h) in
      let e : at + length a + length b ≡ at + length (a ++ b) = omega (arith, length-append a b) in
      let same : m.value ≡ l = sym (map_same m.value) ∙ m.says in
      rw c (m.reads ∙ ap (got m.value) e ∙ ap (λ x. got x (at + length (a ++ b))) same)

-- Whatever keeps the limits is said by its shortest table. The edition, the steps and the edges stand in it one behind the other and
-- nothing follows; each of them is read back from where it stands.
pub shortest-back : (what : Said) → Sayable what → Says (shortest what) what
unfolding read_within table_within lists_within shortest
shortest-back what g =
    let s = shortest what in
    let edition = edition_for what.edges in
    let a = short_number edition in
    let b = short_list short_step what.steps in
    let c = short_list (short_edge edition) what.edges in
    let whole = stands-whole s in
    let front = stands-first (a ++ b) c whole in
    let ed = limits-back min_edition max_edition BadEdition s 0 edition (edition-some what.edges) (edition-low what.edges) (omega arith) (stands-first a b front) in
    let st = steps_back s (0 + length a) what.steps g.few_steps g.steps (stands-then a b front) in
    let count : length st.value ≡ length what.steps = sym (length-map st.value (said_step s)) ∙ ap length st.says in
    let place : 0 + length (a ++ b) ≡ 0 + length a + length b = omega (arith, length-append a b) in
    let es = edges-back s edition (length what.steps) (0 + length a + length b) what.edges g.few_steps g.few_edges (tellable (length what.steps) what.edges g.edges) (subst (λ p. Stands s p c) place (stands-then (a ++ b) c whole)) in
    let end : 0 + length a + length b + length c ≡ length s = omega (arith, length-append a b, length-append (a ++ b) c) in
    record {
      contents = record { steps = st.value; edges = what.edges };
      reads = rw (ed, st.reads, count, es, eq-eqb (0 + length a + length b + length c) (length s) end);
      says = ap (λ x. record { steps = x; edges = what.edges }) st.says;
    }

-- equal bytes say one thing
said-once : {s t : List ℕ} {a b : Said} → Says s a → Says t b → s ≡ t → a ≡ b
said-once {s} {t} {a} {b} x y e =
    let r : done x.contents ≡ done y.contents = sym x.reads ∙ ap read e ∙ y.reads in
    let k : x.contents ≡ y.contents = cc in
    sym x.says ∙ ap (λ u. said u x.contents) e ∙ ap (said t) k ∙ y.says

-- ---- no fewer bytes

list-wide : (at q p n l : ℕ) → at + n ≤ q → q + l ≤ p → at + (n + l) ≤ p
list-wide at q p n l h k = omega arith

whole_wide : (a b c : List ℕ) (p q e len : ℕ) → 0 + length a ≤ p → p + length b ≤ q → q + length c ≤ e → e ≡ len → length (a ++ b ++ c) ≤ len
whole_wide a b c p q e len h k m end = omega (arith, length-append a b, length-append (a ++ b) c)

module _ (rule : Rule) (s : List ℕ) where
  steps-short : (at : ℕ) {l : List Step} {p : ℕ} → steps_at rule s at ≡ got l p
      → (length l ≤ max_steps) × All SayableStep (map (said_step s) l) × (at + length (short_list short_step (map (said_step s) l)) ≤ p)
  unfolding steps_within short_list
  steps-short at {l} {p} e =
      let n = came (number_in rule 0 max_steps ManySteps s at) _ e in
      let few = (in-limits rule 0 max_steps ManySteps s at n.first).1 in
      let width = limits-short rule 0 max_steps ManySteps s at (omega arith) n.first in
      let count = many-length (step_at rule s) n.value n.place n.next in
      let all = many-short (step_at rule s) (said_step s) short_step SayableStep (step-short rule s) n.value n.place n.next in
      let same : length (map (said_step s) l) ≡ n.value = length-map l (said_step s) ∙ count in (
        subst (λ k. k ≤ max_steps) (sym count) few,
        all.0,
        rw same (subst (λ k. at + k ≤ p) (sym (length-append (short_number n.value) (each short_step (map (said_step s) l))))
            (list-wide at n.place p (length (short_number n.value)) (length (each short_step (map (said_step s) l))) width all.1)),
      )

  edges-short : (edition n at : ℕ) {l : List TableEdge} {p : ℕ} → n ≤ max_steps → edges_at rule s edition n at ≡ got l p
      → (length l ≤ max_edges) × All (TellableEdge edition n) l × (at + length (short_list (short_edge (edition_for l)) l) ≤ p)
  unfolding edges_within short_list
  edges-short edition n at {l} {p} low e =
      let m = came (number_in rule 0 max_edges ManyEdges s at) _ e in
      let few = (in-limits rule 0 max_edges ManyEdges s at m.first).1 in
      let width = limits-short rule 0 max_edges ManyEdges s at (omega arith) m.first in
      let count = many-length (table_edge_at rule s edition n) m.value m.place m.next in
      let all = many-short (table_edge_at rule s edition n) (λ e. e) (short_edge edition) (TellableEdge edition n) (edge-short rule s edition n low) m.value m.place m.next in
      let same = map_same l in
      let told : All (TellableEdge edition n) l = subst (All (TellableEdge edition n)) same all.0 in
      let wide : m.place + length (each (short_edge edition) l) ≤ p = subst (λ x. m.place + length (each (short_edge edition) x) ≤ p) same all.1 in
      let narrow : m.place + length (each (short_edge (edition_for l)) l) ≤ p = omega (arith, told-short edition n l told) in (
        subst (λ k. k ≤ max_edges) (sym count) few,
        told,
        rw count (subst (λ k. at + k ≤ p) (sym (length-append (short_number m.value) (each (short_edge (edition_for l)) l)))
            (list-wide at m.place p (length (short_number m.value)) (length (each (short_edge (edition_for l)) l)) width narrow)),
      )

-- what an accepted table says keeps the limits, and its shortest form has no more bytes than the table
record Shortened (s : List ℕ) (c : Contents) : Type 0 where
  fair : Sayable (said s c)
  short : length (shortest (said s c)) ≤ length s

table-short : (rule : Rule) (s : List ℕ) {c : Contents} {p : ℕ} → table_at rule s 0 ≡ got c p → Shortened s c
unfolding table_within lists_within shortest
table-short rule s {c} {p} e =
    let ed = came (number_in rule min_edition max_edition BadEdition s 0) _ e in
    let st = came (steps_at rule s ed.place) _ ed.next in
    let es = came (edges_at rule s ed.value (length st.value) st.place) _ st.next in
    let last = passed (eqb es.place (length s)) Spare _ es.next in
    let end = eqb-true es.place (length s) last.0 in
    let took = limits-place rule min_edition max_edition BadEdition s 0 ed.first in
    let b = steps-short rule s ed.place st.first in
    let d = edges-short rule s ed.value (length st.value) st.place b.0 es.first in
    let count = length-map st.value (said_step s) in
    let edition = edition_for es.value in
    let a : 0 + length (short_number edition) ≤ ed.place = omega (arith, took.0, bytes_one edition (omega (arith, edition-low es.value))) in
    subst (Shortened s) (got-value last.1)
    (record {
      fair =
          record {
            few_steps = subst (λ n. n ≤ max_steps) (sym count) b.0;
            few_edges = d.0;
            steps = b.1;
            edges = subst (λ n. All (SayableEdge n) es.value) (sym count) (sayable ed.value (length st.value) d.1);
          };
      short =
          whole_wide (short_number edition) (short_list short_step (map (said_step s) st.value)) (short_list (short_edge edition) es.value) ed.place st.place es.place (length s)
          a b.2 d.2 end;
    })

read-shortened : (rule : Rule) (s : List ℕ) {c : Contents} → read_by rule s ≡ done c → Shortened s c
unfolding read_within
read-shortened rule s {c} e = go (table_at rule s 0) refl e
  where
    go : (x : Read Contents) → table_at rule s 0 ≡ x → outcome x ≡ done c → Shortened s c
    go (got t p) f e = let k : t ≡ c = cc in subst (Shortened s) k (table-short rule s f)
    go (fault r) f e = let z : ◌≡◌ {A = ℕ} 0 1 = cc in absurd (omega arith)

-- ---- an accepted table and its shortest form

-- accepted by any rule: what is said of its shortest form holds of today's tables, and of those that the old rule reads
module _ (rule : Rule) (bytes : List ℕ) {c : Contents} (e : read_by rule bytes ≡ done c) where
  -- an accepted table says what keeps the limits
  pub read-sayable : Sayable (said bytes c)
  read-sayable = (read-shortened rule bytes e).fair

  -- the shortest form is accepted today, and says what the table says
  pub written_back : Says (shortest (said bytes c)) (said bytes c)
  written_back = shortest-back (said bytes c) read-sayable

  -- no accepted table that says the same is shorter
  pub none-shorter : (by : Rule) (other : List ℕ) {d : Contents} → read_by by other ≡ done d → said other d ≡ said bytes c
      → length (shortest (said bytes c)) ≤ length other
  none-shorter by other f same = subst (λ w. length (shortest w) ≤ length other) same (read-shortened by other f).short

  -- to write it again, read by either rule, changes nothing
  pub written-again : (by : Rule) → shortened_by by (shortest (said bytes c)) ≡ done (shortest (said bytes c))
  unfolding shortened_by
  written-again Old = rw (read-old Shortest (shortest (said bytes c)) written_back.reads, written_back.says)
  written-again Shortest = rw (written_back.reads, written_back.says)

  -- Two accepted tables that say the same have the same shortest form, and two that do not have not: so tables may be compared by the
  -- bytes of their shortest forms. What reads back from equal bytes is equal.
  module _ (by : Rule) (other : List ℕ) {d : Contents} (f : read_by by other ≡ done d) where
    pub same_bytes : said bytes c ≡ said other d → shortened_by rule bytes ≡ shortened_by by other
    unfolding shortened_by
    same_bytes h = rw (e, f, h)

    told : then_do (read_by rule bytes) (λ c. done (shortest (said bytes c))) ≡ then_do (read_by by other) (λ d. done (shortest (said other d)))
        → shortest (said bytes c) ≡ shortest (said other d)
    told h =
        let k : ◌≡◌ {A = Outcome (List ℕ)} (done (shortest (said bytes c))) (done (shortest (said other d))) = rw (e, f) at h in
        cc

    pub same-said : shortened_by rule bytes ≡ shortened_by by other → said bytes c ≡ said other d
    unfolding shortened_by
    same-said h = said-once written_back (shortest-back (said other d) (read-shortened by other f).fair) (told h)
