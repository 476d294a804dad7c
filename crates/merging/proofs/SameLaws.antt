-- Merged edges ask of rows what the edges do that they stand for: feasible rows are those of the edges. It is asked only that edges which are
-- drawn as one are all as they are or all turned. That they cost the same is in TotalLaws.
use mathlib.Core.Path.{◌≡◌, refl, sym, ap, ◌∙◌, subst}
use mathlib.Core.Bool.{Bool, true, false, cond}
use mathlib.Core.List.{List, [], ◌∷◌}
use Prim.Native.Nat.{ℕ, zero, suc, ◌+◌, ◌-◌, ◌≤◌, ◌<◌, suc-le-suc}
use native.Mathlib.Nat.{not-suc-le-zero, le_of_suc-le-suc, zero-lt-suc}
use native.Mathlib.Omega.{arith}
use lib.ListN.{length, get_or, length-map}
use Rattle.graph.specs.declared.Edge.{Edge}
use Rattle.graph.specs.declared.TableEdge.{TableEdge}
use Rattle.graph.specs.Rows.{no_edge, span, Kept, Feasible}
use Rattle.graph.specs.Directed.{own_edge, no_table_edge, directed, directed_by}
use Rattle.graph.proofs.DirectedLaws.{directed-length, directed-get}
use Rattle.merging.specs.declared.MergedEdge.{MergedEdge}
use Rattle.merging.specs.Merged.{no_merged_edge, alike, like, largest_gap, merged, as_edge, drawn_edge, drawn_edges}
use Rattle.merging.specs.Merging.{joins}
use Rattle.merging.proofs.AlikeLaws.{has-ends, alike_self}
use Rattle.merging.proofs.MergedLaws.{none-not}
use Rattle.merging.proofs.JoinLaws.{joinings-one, Joining, joined-place}
use Rattle.merging.proofs.FirstLaws.{merged-first}

-- edges that are drawn as one have one flag
pub record Agreeing (flags : List Bool) (edges : List TableEdge) : Type 0 where
  pub agree : (i j : ℕ) → i < length edges → j < length edges → alike (get_or edges i no_table_edge) (get_or edges j no_table_edge) ≡ true
      → get_or flags i false ≡ get_or flags j false

-- ---- the ends of a directed edge

-- how far its head is below its tail
abbrev pub span_between : (ℕ → ℕ) → Bool → ℕ → ℕ → ℕ
span_between y b from to = cond b (y from - y to) (y to - y from)

pub span_of : (y : ℕ → ℕ) (b : Bool) (e : Edge) → span y (directed b e) ≡ span_between y b e.from e.to
span_of y true e = refl
span_of y false e = refl

pub weight-of : (b : Bool) (e : Edge) → (directed b e).weight ≡ e.weight
weight-of true e = refl
weight-of false e = refl

-- a gap fits between the ends
abbrev GapFits : (ℕ → ℕ) → Bool → ℕ → ℕ → ℕ → Type 0
GapFits y b from to gap = cond b (y to) (y from) + gap ≤ cond b (y from) (y to)

kept-fits : (y : ℕ → ℕ) (b : Bool) (e : Edge) → Kept y (directed b e) → GapFits y b e.from e.to e.gap
kept-fits y true e k = k
kept-fits y false e k = k

fits_kept : (y : ℕ → ℕ) (b : Bool) (e : Edge) → GapFits y b e.from e.to e.gap → Kept y (directed b e)
fits_kept y true e k = k
fits_kept y false e k = k

-- ---- the largest gap of those like an edge

gap-over : (e : TableEdge) (edges : List TableEdge) (i : ℕ) → i < length edges → alike e (get_or edges i no_table_edge) ≡ true
    → (get_or edges i no_table_edge).gap ≤ largest_gap (like e edges)
unfolding like largest_gap
gap-over e [] i h a = absurd (not-suc-le-zero h)
gap-over e (d ∷ edges) zero h a = rw a (omega arith)
gap-over e (d ∷ edges) (suc i) h a = go (alike e d) (gap-over e edges i (le_of_suc-le-suc h) a)
  where
    go : (b : Bool) → (get_or edges i no_table_edge).gap ≤ largest_gap (like e edges) → (get_or edges i no_table_edge).gap ≤ largest_gap (cond b (d ∷ like e edges) (like e edges))
    go true h = omega arith
    go false h = h

gap-under : (e : TableEdge) (edges : List TableEdge) (most : ℕ)
    → ((i : ℕ) → i < length edges → alike e (get_or edges i no_table_edge) ≡ true → (get_or edges i no_table_edge).gap ≤ most) → largest_gap (like e edges) ≤ most
unfolding like largest_gap
gap-under e [] most h = omega arith
gap-under e (d ∷ edges) most h = go (alike e d) refl (gap-under e edges most (λ i l. h (suc i) (suc-le-suc l)))
  where
    go : (b : Bool) → alike e d ≡ b → largest_gap (like e edges) ≤ most → largest_gap (cond b (d ∷ like e edges) (like e edges)) ≤ most
    go true a ih = omega (arith, ih, h zero (zero-lt-suc (length edges)) a)
    go false a ih = ih

-- ---- merged edges by number

pub drawn-length : (flags : List Bool) (edges : List MergedEdge) → length (drawn_edges flags edges) ≡ length edges
unfolding drawn_edges
drawn-length flags edges = length-map edges (drawn_edge flags)

pub drawn-get : (flags : List Bool) (edges : List MergedEdge) (k : ℕ) → k < length edges
    → get_or (drawn_edges flags edges) k no_edge ≡ drawn_edge flags (get_or edges k no_merged_edge)
unfolding drawn_edges
drawn-get flags [] k h = absurd (not-suc-le-zero h)
drawn-get flags (e ∷ edges) zero h = refl
drawn-get flags (e ∷ edges) (suc k) h = drawn-get flags edges k (le_of_suc-le-suc h)

-- an edge is drawn as one with a merged edge
pub drawn-as : (edges : List TableEdge) (j : ℕ) → j < length edges → Joining (get_or edges j no_table_edge) (merged edges)
drawn-as edges j h =
    let edge = get_or edges j no_table_edge in
    joined-place edge (merged edges)
    (omega (arith, joinings-one edge edges ∙ ap (λ (b : Bool). cond b 0 1) (none-not edge edges j h (alike_self edge))))

module _ (flags : List Bool) (edges : List TableEdge) (a : Agreeing flags edges) where
  abbrev lines : List MergedEdge
  lines = merged edges

  abbrev own : ℕ → Edge
  own j = directed (get_or flags j false) (own_edge (get_or edges j no_table_edge))

  -- an edge has the ends and the flag of a merged edge that it joins, and a gap no larger
  record Joined (k j : ℕ) : Type 0 where
    tail : (get_or lines k no_merged_edge).from ≡ (get_or edges j no_table_edge).from
    head : (get_or lines k no_merged_edge).to ≡ (get_or edges j no_table_edge).to
    flag : get_or flags (get_or lines k no_merged_edge).first false ≡ get_or flags j false
    gap : (get_or edges j no_table_edge).gap ≤ (get_or lines k no_merged_edge).gap

  -- an edge that is like the first of a merged edge joins it
  first-like : (k j : ℕ) → k < length lines → j < length edges
      → alike (get_or edges (get_or lines k no_merged_edge).first no_table_edge) (get_or edges j no_table_edge) ≡ true → Joined k j
  first-like k j l m h =
      let f = merged-first edges k l in
      let first = get_or edges (get_or lines k no_merged_edge).first no_table_edge in
      let e = has-ends first.from first.to first.soft (get_or edges j no_table_edge) h in
      record {
        tail = ap (λ (x : MergedEdge). x.from) f.is ∙ e.tail;
        head = ap (λ (x : MergedEdge). x.to) f.is ∙ e.head;
        flag = a.agree (get_or lines k no_merged_edge).first j f.inside m h;
        gap = omega (arith, gap-over first edges j m h, ap (λ (x : MergedEdge). x.gap) f.is);
      }

  joins-first : (k : ℕ) (e : TableEdge) → k < length lines → joins e (get_or lines k no_merged_edge) ≡ alike (get_or edges (get_or lines k no_merged_edge).first no_table_edge) e
  joins-first k e l = ap (λ (x : MergedEdge). joins e x) (merged-first edges k l).is

  -- ---- feasible rows

  module _ (y : ℕ → ℕ) where
    -- Rows that keep every edge keep every merged edge. Its gap is the largest of edges that all lie between its own ends, and point as it
    -- does; each of these gaps fits between them, so the largest does.
    pub feasible-merged : Feasible (directed_by flags edges) y → Feasible (drawn_edges flags lines) y
    feasible-merged kept k h = rw (drawn-get flags lines k inside) (fits_kept y flag (as_edge line) (fits flag refl))
      where
        inside : k < length lines
        inside = omega (arith, drawn-length flags lines)

        line : MergedEdge
        line = get_or lines k no_merged_edge

        flag : Bool
        flag = get_or flags line.first false

        edge-fits : (j : ℕ) → j < length edges → alike (get_or edges line.first no_table_edge) (get_or edges j no_table_edge) ≡ true
            → GapFits y flag line.from line.to (get_or edges j no_table_edge).gap
        edge-fits j l h =
            let s = first-like k j inside l h in
            rw (s.tail, s.head, s.flag)
            (kept-fits y (get_or flags j false) (own_edge (get_or edges j no_table_edge))
            (subst (Kept y) (directed-get flags edges j l) (kept j (omega (arith, directed-length flags edges)))))

        widest : (most : ℕ) → ((j : ℕ) → j < length edges → alike (get_or edges line.first no_table_edge) (get_or edges j no_table_edge) ≡ true
            → (get_or edges j no_table_edge).gap ≤ most) → line.gap ≤ most
        widest most h = omega (arith, gap-under (get_or edges line.first no_table_edge) edges most h, ap (λ (x : MergedEdge). x.gap) (merged-first edges k inside).is)

        first_fits : GapFits y flag line.from line.to (get_or edges line.first no_table_edge).gap
        first_fits = edge-fits line.first (merged-first edges k inside).inside (alike_self (get_or edges line.first no_table_edge))

        fits : (b : Bool) → flag ≡ b → GapFits y flag line.from line.to line.gap
        fits true e =
            let f = first_fits in
            rw e (omega (
              arith,
              subst (λ (x : Bool). GapFits y x line.from line.to (get_or edges line.first no_table_edge).gap) e f,
              widest (y line.from - y line.to) (λ j l h. omega (arith, subst (λ (x : Bool). GapFits y x line.from line.to (get_or edges j no_table_edge).gap) e (edge-fits j l h))),
            ))
        fits false e =
            let f = first_fits in
            rw e (omega (
              arith,
              subst (λ (x : Bool). GapFits y x line.from line.to (get_or edges line.first no_table_edge).gap) e f,
              widest (y line.to - y line.from) (λ j l h. omega (arith, subst (λ (x : Bool). GapFits y x line.from line.to (get_or edges j no_table_edge).gap) e (edge-fits j l h))),
            ))

    -- The other way round, every edge is drawn as some merged edge, between the same ends; where the gap of that fits, its own, which is no
    -- larger, fits too.
    pub merged-feasible : Feasible (drawn_edges flags lines) y → Feasible (directed_by flags edges) y
    merged-feasible kept j h = rw (directed-get flags edges j inside) (fits_kept y (get_or flags j false) (own_edge (get_or edges j no_table_edge)) small)
      where
        inside : j < length edges
        inside = omega (arith, directed-length flags edges)

        as_line : Joining (get_or edges j no_table_edge) lines
        as_line = drawn-as edges j inside

        line : MergedEdge
        line = get_or lines as_line.place no_merged_edge

        s : Joined as_line.place j
        s = first-like as_line.place j as_line.inside inside (sym (joins-first as_line.place (get_or edges j no_table_edge) as_line.inside) ∙ as_line.joining)

        whole : GapFits y (get_or flags j false) (get_or edges j no_table_edge).from (get_or edges j no_table_edge).to line.gap
        whole =
            rw (← s.tail, ← s.head, ← s.flag)
            (kept-fits y (get_or flags line.first false) (as_edge line)
            (subst (Kept y) (drawn-get flags lines as_line.place as_line.inside) (kept as_line.place (omega (arith, drawn-length flags lines, as_line.inside)))))

        small : GapFits y (get_or flags j false) (get_or edges j no_table_edge).from (get_or edges j no_table_edge).to (get_or edges j no_table_edge).gap
        small = omega (arith, whole, s.gap)

  -- the gap of an edge is no larger than that of what it is drawn as
  pub gap-drawn : (j : ℕ) → j < length edges → (d : Joining (get_or edges j no_table_edge) lines) → (get_or edges j no_table_edge).gap ≤ (get_or lines d.place no_merged_edge).gap
  gap-drawn j h d = (first-like d.place j d.inside h (sym (joins-first d.place (get_or edges j no_table_edge) d.inside) ∙ d.joining)).gap
