-- How many bytes the parts of a shortest table have at most.
use mathlib.Core.Path.{ap, ◌∙◌}
use mathlib.Core.Bool.{Bool, true, false, cond}
use mathlib.Core.List.{List, [], ◌∷◌, ◌++◌, map}
use Prim.Native.Nat.{ℕ, zero, suc, ◌+◌, ◌*◌, ◌≤◌, ◌<◌}
use native.Mathlib.Omega.{arith}
use lib.Dec.{eqb}
use lib.ListN.{length, get_or, take, drop, length-append, length-drop}
use lib.Seq.{length-take-le}
use Rattle.graph.specs.declared.TableEdge.{TableEdge}
use Rattle.graph.specs.Directed.{no_table_edge, own_edge}
use Rattle.table.specs.declared.rule.Rule.TheVariants.{Shortest}
use Rattle.table.specs.declared.types.Kind.{Kind}
use Rattle.table.specs.declared.types.Kind.TheVariants.{Check, Adjust, Wait}
use Rattle.table.specs.declared.types.Step.{Step}
use Rattle.table.specs.Limits.{min_edition, max_edition, max_steps, max_edges, max_name, softness, step_bytes, edge_bytes}
use Rattle.table.specs.Calls.{no_step}
use Rattle.table.specs.Fair.{KindInRange, FairStep, FairEdge}
use Rattle.acyclic.specs.Oriented.{any_soft}
use Rattle.encoding.specs.Said.{said_step}
use Rattle.encoding.specs.Shortest.{short_number, short_kind, short_name, short_step, edition_for, short_firmness, short_edge, each, short_list}
use Rattle.encoding.specs.Writable.{WritableSteps, WritableEdges}
use Rattle.encoding.proofs.ShortLaws.{bytes_one, bytes-two, soft-byte}
use Rattle.encoding.proofs.PutLaws.{short_ends, short_sizes, edge-parts, said-parts, list-parts}

-- ---- a step and an edge

kind-bytes : (k : Kind) → KindInRange k → length (short_kind k) ≤ 3
kind-bytes Check h = omega (arith, bytes_one 0 (omega arith))
kind-bytes (Adjust t) h = omega (arith, length-append (short_number 1) (short_number t), bytes_one 1 (omega arith), bytes-two t (omega arith))
kind-bytes (Wait m) h = omega (arith, length-append (short_number 2) (short_number m), bytes_one 2 (omega arith), bytes-two m (omega (arith, h.1)))

name-bytes : (name : List ℕ) → length name ≤ max_name → length (short_name name) ≤ 1 + max_name
unfolding short_name
name-bytes name h = omega (arith, length-append (short_number (length name)) name, bytes_one (length name) (omega arith))

step-bytes : (bytes : List ℕ) (s : Step) → FairStep bytes s → length (short_step (said_step bytes s)) ≤ step_bytes Shortest
unfolding short_step
step-bytes bytes s f =
    let name = take s.len (drop s.start bytes) in
    let few : length name ≤ max_name = omega (arith, f.short, f.inside, length-take-le s.len (drop s.start bytes) (omega (arith, f.inside, length-drop s.start bytes))) in
    omega (arith, length-append (short_kind s.kind) (short_name name), kind-bytes s.kind f.kind_in, name-bytes name few)

firmness-bytes : (edition : ℕ) (soft : Bool) → length (short_firmness edition soft) ≤ 1
unfolding short_firmness
firmness-bytes edition soft = go (eqb edition min_edition)
  where
    go : (t : Bool) → length (cond t [] (short_number (cond soft softness 0))) ≤ 1
    go true = omega arith
    go false = omega (arith, soft-byte soft)

edge-bytes : (edition : ℕ) (e : TableEdge) → FairEdge max_steps (own_edge e) → length (short_edge edition e) ≤ edge_bytes Shortest max_steps
edge-bytes edition e f =
    let whole = ap length (edge-parts edition e).is ∙ length-append (short_ends e ++ short_sizes e) (short_firmness edition e.soft) in
    let front = length-append (short_ends e) (short_sizes e) in
    let ends = length-append (short_number e.from) (short_number e.to) in
    let sizes = length-append (short_number e.gap) (short_number e.weight) in
    let from = bytes_one e.from (omega (arith, f.from_in)) in
    let to = bytes_one e.to (omega (arith, f.to_in)) in
    let gap = bytes_one e.gap (omega (arith, f.gap_low)) in
    let weight = bytes-two e.weight (omega (arith, f.weight_low)) in
    let last = firmness-bytes edition e.soft in
    omega (arith, whole, front, ends, sizes, from, to, gap, weight, last)

-- ---- items of at most w bytes each

each-bytes : {A : Type 0} (write : A → List ℕ) (none : A) (w : ℕ) (l : List A) → ((i : ℕ) → i < length l → length (write (get_or l i none)) ≤ w)
    → length (each write l) ≤ length l * w
unfolding each
each-bytes write none w [] h = omega arith
each-bytes write none w (a ∷ l) h =
    let first = h zero (omega arith) in
    let rest = each-bytes write none w l (λ i k. h (suc i) (omega arith)) in
    omega (arith, first, rest, length-append (write a) (each write l))

-- ---- the lists, and the edition

pub steps-bytes : (bytes : List ℕ) (steps : List Step) → WritableSteps bytes steps
    → length (short_list short_step (map (said_step bytes) steps)) ≤ 1 + max_steps * step_bytes Shortest
steps-bytes bytes steps g =
    let write : Step → List ℕ = λ s. short_step (said_step bytes s) in
    let whole = ap length (said-parts bytes steps).is ∙ length-append (short_number (length steps)) (each write steps) in
    let all = each-bytes write no_step (step_bytes Shortest) steps (λ i h. step-bytes bytes (get_or steps i no_step) (g.each_step i h)) in
    omega (arith, whole, all, g.few, bytes_one (length steps) (omega (arith, g.few)))

pub edges-bytes : (edition : ℕ) (edges : List TableEdge) → WritableEdges edges
    → length (short_list (short_edge edition) edges) ≤ 2 + max_edges * edge_bytes Shortest max_steps
edges-bytes edition edges g =
    let whole = ap length (list-parts (short_edge edition) edges).is ∙ length-append (short_number (length edges)) (each (short_edge edition) edges) in
    let all = each-bytes (short_edge edition) no_table_edge (edge_bytes Shortest max_steps) edges (λ i h. edge-bytes edition (get_or edges i no_table_edge) (g.each_edge i h)) in
    omega (arith, whole, all, g.few, bytes-two (length edges) (omega (arith, g.few)))

pub edition-low : (edges : List TableEdge) → edition_for edges ≤ max_edition
edition-low edges = go (any_soft edges)
  where
    go : (t : Bool) → cond t max_edition min_edition ≤ max_edition
    go true = omega arith
    go false = omega arith
