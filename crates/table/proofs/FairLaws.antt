-- What holds of every table that is accepted: the limits of its steps and edges, where its names stand, and its length.
use mathlib.Core.Path.{◌≡◌, refl, sym, ap, subst, ◌∙◌}
use mathlib.Core.Bool.{Bool, true, false, not, ◌&&◌, cond}
use mathlib.Core.List.{List}
use Prim.Native.Nat.{ℕ, zero, suc, ◌+◌, ◌*◌, ◌≤◌, ◌<◌}
use native.Mathlib.Nat.{mul-le-mul_left, mul-le-mul_right}
use native.Mathlib.Omega.{arith}
use borrow.Author.Tests.{ltb-true, eqb-true, eqb-false}
use lib.Dec.{leb, ltb, eqb}
use lib.ListN.{length}
use Rattle.graph.specs.declared.Edge.{Edge}
use Rattle.graph.specs.declared.TableEdge.{TableEdge}
use Rattle.graph.specs.Directed.{no_table_edge, own_edge}
use Rattle.table.specs.declared.rule.Rule.{Rule}
use Rattle.table.specs.declared.rule.Rule.TheVariants.{Old, Shortest}
use Rattle.table.specs.declared.types.Kind.{Kind}
use Rattle.table.specs.declared.types.Kind.TheVariants.{Check, Adjust, Wait}
use Rattle.outcome.specs.declared.Refusal.TheVariants.{BadEdition, ManySteps, BadKind, OutOfRange, BadNameByte, ManyEdges, BadEnd, Spare, BadFirmness}
use Rattle.table.specs.declared.types.Step.{Step}
use Rattle.table.specs.Limits.{min_edition, max_edition, max_steps, max_edges, max_kind, max_tolerance, min_minutes, max_minutes, min_name, max_name, min_name_byte, max_name_byte, min_gap, max_gap, max_weight, softness, width, step_bytes, edge_bytes, max_table}
use Rattle.outcome.specs.Refusal.{done}
use Rattle.table.specs.Number.{Read, got, fault, and_then, judge, byte_at, number_at, number_in, many, counted}
use Rattle.table.specs.Table.{adjust_at, wait_at, kind_at, name_byte_at, name_at, named_at, step_at, end_at, edge_between, edge_at, firmness_at, table_edge_at, steps_at, edges_at, table_at, outcome, read_by, read, Contents, steps_within, edges_within, lists_within, table_within, read_within}
use Rattle.table.specs.Calls.{no_step}
use Rattle.table.specs.Fair.{KindInRange, FairStep, FairEdge, Fair}
use Rattle.table.proofs.NumberLaws.{in-limits}
use Rattle.table.proofs.InverseLaws.{never, came, passed, both, got-value, got-place, many-length, many-each, many-width}
use Rattle.table.proofs.PlaceLaws.{byte-place, width-grows, number-place, limits-place}

-- ---- steps

-- bytes of a kind, at most
pub kind-place : (rule : Rule) (s : List ℕ) (at : ℕ) {k : Kind} {p : ℕ} → kind_at rule s at ≡ got k p → p ≤ at + (width rule max_kind + width rule max_tolerance)
unfolding kind_at adjust_at wait_at
kind-place rule s at {k} {p} e =
    let c = came (number_in rule 0 max_kind BadKind s at) _ e in
    go (eqb c.value 0) (eqb c.value 1) c.place (limits-place rule 0 max_kind BadKind s at c.first).1 c.next
  where
    go : (t u : Bool) (q : ℕ) → q ≤ at + width rule max_kind
        → cond t (got Check q) (cond u (and_then (number_in rule 0 max_tolerance OutOfRange s q) λ t p. got (Adjust t) p) (and_then (number_in rule min_minutes max_minutes OutOfRange s q) λ m p. got (Wait m) p)) ≡ got k p
        → p ≤ at + (width rule max_kind + width rule max_tolerance)
    go true u q h e = omega (arith, got-place e)
    go false true q h e =
        let c = came (number_in rule 0 max_tolerance OutOfRange s q) _ e in
        omega (arith, got-place c.next, limits-place rule 0 max_tolerance OutOfRange s q c.first)
    go false false q h e =
        let c = came (number_in rule min_minutes max_minutes OutOfRange s q) _ e in
        omega (arith, got-place c.next, limits-place rule min_minutes max_minutes OutOfRange s q c.first, width-grows rule max_minutes max_tolerance (omega arith))

-- the number that it carries was read within its limits
kind_in : (rule : Rule) (s : List ℕ) (at : ℕ) {k : Kind} {p : ℕ} → kind_at rule s at ≡ got k p → KindInRange k
unfolding kind_at adjust_at wait_at
kind_in rule s at {k} {p} e =
    let c = came (number_in rule 0 max_kind BadKind s at) _ e in
    go (eqb c.value 0) (eqb c.value 1) c.place c.next
  where
    go : (t u : Bool) (q : ℕ)
        → cond t (got Check q) (cond u (and_then (number_in rule 0 max_tolerance OutOfRange s q) λ t p. got (Adjust t) p) (and_then (number_in rule min_minutes max_minutes OutOfRange s q) λ m p. got (Wait m) p)) ≡ got k p
        → KindInRange k
    go true u q e = subst KindInRange (got-value e) tt
    go false true q e =
        let c = came (number_in rule 0 max_tolerance OutOfRange s q) _ e in
        subst KindInRange (got-value c.next) (in-limits rule 0 max_tolerance OutOfRange s q c.first).1
    go false false q e =
        let c = came (number_in rule min_minutes max_minutes OutOfRange s q) _ e in
        subst KindInRange (got-value c.next) (in-limits rule min_minutes max_minutes OutOfRange s q c.first)

-- name bytes stand one behind the other, within the table
name-bytes : (s : List ℕ) (k at : ℕ) {l : List ℕ} {e : ℕ} → at ≤ length s → many (name_byte_at s) k at ≡ got l e → (length l ≡ k) × (e ≡ at + k) × (e ≤ length s)
unfolding many name_byte_at
name-bytes s zero at h g = (ap length (sym (got-value g)), omega (arith, got-place g), omega (arith, got-place g))
name-bytes s (suc k) at h g =
    let one = came (and_then (byte_at s at) λ b p. judge (leb min_name_byte b && leb b max_name_byte) BadNameByte (got b p)) _ g in
    let byte = came (byte_at s at) _ one.first in
    let good = passed (leb min_name_byte byte.value && leb byte.value max_name_byte) BadNameByte _ byte.next in
    let p = byte-place s at byte.first in
    let q = got-place good.1 in
    let rest = came (many (name_byte_at s) k one.place) _ one.next in
    let ih = name-bytes s k one.place (omega arith) rest.first in
    (ap length (sym (got-value rest.next)) ∙ ap suc ih.0, omega (arith, got-place rest.next), omega (arith, got-place rest.next))

-- a name is as long as it was to be
name-place : (s : List ℕ) (k at : ℕ) {len e : ℕ} → at ≤ length s → name_at s k at ≡ got len e → (len ≡ k) × (e ≡ at + k) × (e ≤ length s)
unfolding name_at
name-place s k at {len} {e} h g = go (many (name_byte_at s) k at) refl g
  where
    go : (x : Read (List ℕ)) → many (name_byte_at s) k at ≡ x → counted x ≡ got len e → (len ≡ k) × (e ≡ at + k) × (e ≤ length s)
    go (got l q) f g =
        let b = name-bytes s k at h f in
        (omega (arith, got-value g), omega (arith, got-place g), omega (arith, got-place g))
    go (fault r) f g = never g

step-wide : (a b at k l v n p : ℕ) → k ≤ at + a → l ≤ k + b → v ≤ max_name → n ≡ l + v → n ≡ p → p ≤ at + (a + (b + max_name))
step-wide a b at k l v n p c d e f g = omega arith

pub step-fair : (rule : Rule) (s : List ℕ) (at : ℕ) {st : Step} {p : ℕ} → step_at rule s at ≡ got st p → FairStep s st × (p ≤ at + step_bytes rule)
unfolding step_at named_at
step-fair rule s at {st} {p} e =
    let k = came (kind_at rule s at) _ e in
    let l = came (number_in rule min_name max_name OutOfRange s k.place) _ k.next in
    let n = came (name_at s l.value l.place) _ l.next in
    let lim = in-limits rule min_name max_name OutOfRange s k.place l.first in
    let took = limits-place rule min_name max_name OutOfRange s k.place l.first in
    let name = name-place s l.value l.place took.2 n.first in
    let kind = kind-place rule s at k.first in
    let q = got-place n.next in (
      subst (FairStep s) (got-value n.next)
          (record {
            some = subst (λ x. min_name ≤ x) (sym name.0) lim.0;
            short = subst (λ x. x ≤ max_name) (sym name.0) lim.1;
            inside = subst (λ x. l.place + x ≤ length s) (sym name.0) (subst (λ x. x ≤ length s) name.1 name.2);
            kind_in = kind_in rule s at k.first;
          }),
      step-wide (width rule max_kind + width rule max_tolerance) (width rule max_name) at k.place l.place l.value n.place p kind took.1 lim.1 name.1 q,
    )

-- ---- edges

pub end-fair : (rule : Rule) (s : List ℕ) (n but at : ℕ) {v p : ℕ} → end_at rule s n but at ≡ got v p → (v < n) × (v ≡ but → ⊥) × (p ≤ at + width rule n)
unfolding end_at
end-fair rule s n but at {v} {p} e =
    let c = came (number_at rule s at) _ e in
    let t = passed (ltb c.value n && not (eqb c.value but)) BadEnd _ c.next in
    let b = both (ltb c.value n) (not (eqb c.value but)) t.0 in
    let less = ltb-true c.value n b.0 in
    let w = got-value t.1 in
    let q = got-place t.1 in (
      omega (arith, less),
      λ h. apart c.value (eqb c.value but) refl b.1 (w ∙ h),
      omega (arith, number-place rule s at c.first, width-grows rule c.value n (omega (arith, less))),
    )
  where
    apart : (x : ℕ) (t : Bool) → eqb x but ≡ t → not t ≡ true → x ≡ but → ⊥
    apart x true e f h = let z : ◌≡◌ {A = ℕ} 0 1 = cc in omega arith
    apart x false e f h = eqb-false x but e h

edge-wide : (x y z at a b g w p : ℕ) → a ≤ at + x → b ≤ a + x → g ≤ b + y → w ≤ g + z → w ≡ p → p ≤ at + (x + x + (y + z))
edge-wide x y z at a b g w p c d e f h = omega arith

-- an edge without its firmness
pub edge-fair : (rule : Rule) (s : List ℕ) (n at : ℕ) {x : Edge} {p : ℕ} → edge_at rule s n at ≡ got x p → FairEdge n x × (p ≤ at + (width rule n + width rule n + (width rule max_gap + width rule max_weight)))
unfolding edge_at edge_between
edge-fair rule s n at {x} {p} e =
    let a = came (end_at rule s n n at) _ e in
    let b = came (end_at rule s n a.value a.place) _ a.next in
    let g = came (number_in rule min_gap max_gap OutOfRange s b.place) _ b.next in
    let w = came (number_in rule 0 max_weight OutOfRange s g.place) _ g.next in
    let from = end-fair rule s n n at a.first in
    let to = end-fair rule s n a.value a.place b.first in
    let gap = in-limits rule min_gap max_gap OutOfRange s b.place g.first in
    let weight = in-limits rule 0 max_weight OutOfRange s g.place w.first in
    let q = limits-place rule min_gap max_gap OutOfRange s b.place g.first in
    let r = limits-place rule 0 max_weight OutOfRange s g.place w.first in
    let z = got-place w.next in (
      subst (FairEdge n) (got-value w.next)
          (record { from_in = from.0; to_in = to.0; apart = to.1; gap_some = gap.0; gap_low = gap.1; weight_low = weight.1 }),
      edge-wide (width rule n) (width rule max_gap) (width rule max_weight) at a.place b.place g.place w.place p from.2 to.2 q.1 r.1 z,
    )

-- and each of its numbers fits a byte
pub edge_narrow : (rule : Rule) (s : List ℕ) (n at : ℕ) {x : Edge} {p : ℕ} → n ≤ max_steps → edge_at rule s n at ≡ got x p
    → (x.from < 0x100) × (x.to < 0x100) × (x.gap < 0x100) × (x.weight < 0x100)
edge_narrow rule s n at h e =
    let f = (edge-fair rule s n at e).0 in
    (omega (arith, f.from_in), omega (arith, f.to_in), omega (arith, f.gap_low), omega (arith, f.weight_low))

pub firmness-place : (rule : Rule) (s : List ℕ) (edition at : ℕ) {v p : ℕ} → firmness_at rule s edition at ≡ got v p → p ≤ at + width rule softness
unfolding firmness_at
firmness-place rule s edition at {v} {p} e = go (eqb edition min_edition) e
  where
    go : (t : Bool) → cond t (got 0 at) (number_in rule 0 softness BadFirmness s at) ≡ got v p → p ≤ at + width rule softness
    go true e = omega (arith, got-place e)
    go false e = (limits-place rule 0 softness BadFirmness s at e).1

table-edge-wide : (x y at a f p : ℕ) → a ≤ at + x → f ≤ a + y → f ≡ p → p ≤ at + (x + y)
table-edge-wide x y at a f p c d e = omega arith

pub table-edge-fair : (rule : Rule) (s : List ℕ) (edition n at : ℕ) {x : TableEdge} {p : ℕ} → table_edge_at rule s edition n at ≡ got x p → FairEdge n (own_edge x) × (p ≤ at + edge_bytes rule n)
unfolding table_edge_at
table-edge-fair rule s edition n at {x} {p} e =
    let a = came (edge_at rule s n at) _ e in
    let f = came (firmness_at rule s edition a.place) _ a.next in
    let own = edge-fair rule s n at a.first in (
      subst (λ (y : TableEdge). FairEdge n (own_edge y)) (got-value f.next) own.0,
      table-edge-wide (width rule n + width rule n + (width rule max_gap + width rule max_weight)) (width rule softness) at a.place f.place p own.1 (firmness-place rule s edition a.place f.first) (got-place f.next),
    )

-- ---- the table

-- n items of at most x bytes each behind their count
list-wide : (w x k at n a e : ℕ) → a ≤ at + w → n ≤ k → e ≤ a + n * x → e ≤ at + (w + k * x)
list-wide w x k at n a e f g h = omega (arith, mul-le-mul_right x g)

edges-wide : (rule : Rule) (n : ℕ) → n ≤ max_steps → edge_bytes rule n ≤ edge_bytes rule max_steps
edges-wide rule n h = omega (arith, width-grows rule n max_steps h)

table-wide : (x y z a b c len : ℕ) → a ≤ 0 + x → b ≤ a + y → c ≤ b + z → c ≡ len → len ≤ x + y + z
table-wide x y z a b c len e f g h = omega arith

-- what is accepted by a rule is fair, and no longer than the parts can be
record Kept (rule : Rule) (s : List ℕ) (c : Contents) : Type 0 where
  fair : Fair s c
  short : length s ≤ max_table rule

table-fair : (rule : Rule) (s : List ℕ) {c : Contents} {p : ℕ} → table_at rule s 0 ≡ got c p → Kept rule s c
unfolding table_within lists_within steps_within edges_within
table-fair rule s {c} {p} e =
    let ed = came (number_in rule min_edition max_edition BadEdition s 0) _ e in
    let st = came (steps_at rule s ed.place) _ ed.next in
    let es = came (edges_at rule s ed.value (length st.value) st.place) _ st.next in
    let last = passed (eqb es.place (length s)) Spare _ es.next in
    let n = came (number_in rule 0 max_steps ManySteps s ed.place) _ st.first in
    let m = came (number_in rule 0 max_edges ManyEdges s st.place) _ es.first in
    let nl = many-length (step_at rule s) n.value n.place n.next in
    let ml = many-length (table_edge_at rule s ed.value (length st.value)) m.value m.place m.next in
    let few = (in-limits rule 0 max_steps ManySteps s ed.place n.first).1 in
    let fewer = (in-limits rule 0 max_edges ManyEdges s st.place m.first).1 in
    let wide = many-width (step_at rule s) (step_bytes rule) (λ at a q h. (step-fair rule s at h).1) n.value n.place n.next in
    let wider = many-width (table_edge_at rule s ed.value (length st.value)) (edge_bytes rule (length st.value)) (λ at a q h. (table-edge-fair rule s ed.value (length st.value) at h).1) m.value m.place m.next in
    let end = eqb-true es.place (length s) last.0 in
    let a = limits-place rule min_edition max_edition BadEdition s 0 ed.first in
    let b = limits-place rule 0 max_steps ManySteps s ed.place n.first in
    let d = limits-place rule 0 max_edges ManyEdges s st.place m.first in
    let few_steps = subst (λ x. x ≤ max_steps) (sym nl) few in
    let steps = list-wide (width rule max_steps) (step_bytes rule) max_steps ed.place n.value n.place st.place b.1 few wide in
    let edges = list-wide (width rule max_edges) (edge_bytes rule (length st.value)) max_edges st.place m.value m.place es.place d.1 fewer wider in
    let narrow = mul-le-mul_left max_edges (edges-wide rule (length st.value) few_steps) in
    subst (Kept rule s) (got-value last.1)
    (record {
      fair =
          record {
            few_steps = few_steps;
            few_edges = subst (λ x. x ≤ max_edges) (sym ml) fewer;
            each_step = many-each (step_at rule s) (FairStep s) no_step (λ at a q h. (step-fair rule s at h).0) n.value n.place n.next;
            each_edge = many-each (table_edge_at rule s ed.value (length st.value)) (λ (x : TableEdge). FairEdge (length st.value) (own_edge x)) no_table_edge (λ at a q h. (table-edge-fair rule s ed.value (length st.value) at h).0) m.value m.place m.next;
          };
      short =
          table-wide (width rule max_edition) (width rule max_steps + max_steps * step_bytes rule) (width rule max_edges + max_edges * edge_bytes rule max_steps) ed.place st.place es.place (length s)
          a.1 steps (omega (arith, edges, narrow)) end;
    })

read_kept : (rule : Rule) (s : List ℕ) {c : Contents} → read_by rule s ≡ done c → Kept rule s c
unfolding read_within
read_kept rule s {c} e = go (table_at rule s 0) refl e
  where
    go : (x : Read Contents) → table_at rule s 0 ≡ x → outcome x ≡ done c → Kept rule s c
    go (got t p) f e = let k : t ≡ c = cc in subst (Kept rule s) k (table-fair rule s f)
    go (fault r) f e = let z : ◌≡◌ {A = ℕ} 0 1 = cc in absurd (omega arith)

-- what is accepted by a rule is fair, and no longer than that rule's tables can be
pub read-fair-by : (rule : Rule) (s : List ℕ) {c : Contents} → read_by rule s ≡ done c → Fair s c
read-fair-by rule s e = (read_kept rule s e).fair

pub read-short-by : (rule : Rule) (s : List ℕ) {c : Contents} → read_by rule s ≡ done c → length s ≤ max_table rule
read-short-by rule s e = (read_kept rule s e).short

-- the same of today's tables
pub read-fair : (s : List ℕ) {c : Contents} → read s ≡ done c → Fair s c
read-fair s e = read-fair-by Shortest s e

pub read_short : (s : List ℕ) {c : Contents} → read s ≡ done c → length s ≤ max_table Shortest
read_short s e = read-short-by Shortest s e

-- how long these are, and those that the old rule takes
pub longest-today : max_table Shortest ≡ 3652
longest-today = refl

pub longest-old : max_table Old ≡ 6729
longest-old = refl
