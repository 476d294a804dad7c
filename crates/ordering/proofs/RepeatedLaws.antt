-- What joining repeated edges leaves as it was: which edges are turned, the feasible rows, the totals and the best rows, whatever the table;
-- and all of the chart where no edge is repeated. Points become fewer only, so that no chart is refused for it.
use mathlib.Core.Path.{◌≡◌, refl, sym, ap, ◌∙◌, subst}
use mathlib.Core.Bool.{Bool, true, false}
use mathlib.Core.List.{List, [], ◌∷◌}
use mathlib.Core.Logic.{◌↔◌}
use Prim.Native.Nat.{ℕ, ◌-◌, ◌≤◌, ◌<◌}
use native.Mathlib.Omega.{arith}
use lib.Dec.{leb}
use lib.ListN.{length, get_or}
use Rattle.std.specs.Prelude.{Option, Some, None}
use Rattle.graph.specs.declared.Edge.{Edge}
use Rattle.graph.specs.Rows.{at, total, Feasible, Best}
use Rattle.graph.specs.Search.{rows_of}
use Rattle.graph.specs.Directed.{no_table_edge}
use Rattle.outcome.specs.declared.Refusal.TheVariants.{ManyPoints}
use Rattle.outcome.specs.Refusal.{Outcome, done, refused, then_do, demand}
use Rattle.table.specs.Table.{Contents, read}
use Rattle.table.proofs.FairLaws.{read-fair}
use Rattle.acyclic.specs.Loops.{LoopFree, lowest_on_loop}
use Rattle.acyclic.specs.Oriented.{must_of}
use Rattle.acyclic.proofs.LoopLaws.{free-iff}
use Rattle.acyclic.proofs.OrientedLaws.{AllApart, must-each, directed-oriented}
use Rattle.rows.specs.Answers.{unless_loop}
use Rattle.rows.proofs.StepLaws.{never}
use Rattle.layering.specs.Calls.{table_rows_found, oriented_in, turned_in}
use Rattle.layering.proofs.RankLaws.{ranked-rows}
use Rattle.merging.specs.Merged.{alike}
use Rattle.merging.proofs.TurnedLaws.{turned-alike, same-feasible, same_total, same-best}
use Rattle.merging.proofs.RowsLaws.{drawn-rows}
use Rattle.merging.proofs.EndsLaws.{sum_ends, sum-merged}
use Rattle.merging.proofs.AloneLaws.{Unrepeated, merged-alone}
use Rattle.points.specs.Limits.{max_points}
use Rattle.points.proofs.EdgeLaws.{between_all}
use Rattle.points.proofs.PointLaws.{points-length}
use Rattle.ordering.specs.Calls.{drawn_in, Placing, point_count, unless_many, chart_of_table}

-- ---- points

-- the dummies of edges go by their ends
between_ends : (ys : List ℕ) (edges : List Edge) → between_all ys edges ≡ sum_ends (λ a b. at ys b - at ys a - 1) edges
unfolding between_all sum_ends
between_ends ys [] = refl
between_ends ys (e ∷ edges) = rw (between_ends ys edges)

pub fewer-points : (ys : List ℕ) (t : Contents) → point_count ys (drawn_in t) ≤ point_count ys (oriented_in t)
fewer-points ys t =
    omega (
      arith,
      points-length ys (drawn_in t),
      points-length ys (oriented_in t),
      between_ends ys (drawn_in t),
      between_ends ys (oriented_in t),
      sum-merged (λ a b. at ys b - at ys a - 1) (turned_in t) t.edges,
      ap (sum_ends (λ a b. at ys b - at ys a - 1)) (directed-oriented (length t.steps) t.edges),
    )

-- ---- no repeated edge

pub unrepeated-same : (t : Contents) → Unrepeated t.edges → drawn_in t ≡ oriented_in t
unrepeated-same t u = merged-alone (turned_in t) t.edges u ∙ directed-oriented (length t.steps) t.edges

-- ---- a table with a chart

-- it was read, and its rows were found
record Parts (bytes : List ℕ) (p : Placing) : Type 0 where
  said : read bytes ≡ done p.contents
  found : table_rows_found (length p.contents.steps) p.contents.edges ≡ done p.rows

parts-of : (bytes : List ℕ) {p : Placing} → chart_of_table bytes ≡ done p → Parts bytes p
unfolding chart_of_table
parts-of bytes {p} = go (read bytes) refl
  where
    many : (t : Contents) (ys : List ℕ) (b : Bool) → read bytes ≡ done t → table_rows_found (length t.steps) t.edges ≡ done ys
        → demand b ManyPoints (done (record { contents = t; rows = ys })) ≡ done p → Parts bytes p
    many t ys true r f e = let is : record { contents = t; rows = ys } ≡ p = cc in subst (Parts bytes) is (record { said = r; found = f })
    many t ys false r f e = never (sym e)

    rows : (t : Contents) (o : Outcome (List ℕ)) → read bytes ≡ done t → table_rows_found (length t.steps) t.edges ≡ o
        → then_do o (λ ys. unless_many t ys) ≡ done p → Parts bytes p
    rows t (done ys) r f e = many t ys (leb (point_count ys (drawn_in t)) max_points) r f e
    rows t (refused g) r f e = never (sym e)

    go : (o : Outcome Contents) → read bytes ≡ o → then_do o (λ t. then_do (table_rows_found (length t.steps) t.edges) (λ ys. unless_many t ys)) ≡ done p → Parts bytes p
    go (done t) r e = rows t (table_rows_found (length t.steps) t.edges) r refl e
    go (refused g) r e = never (sym e)

module _ (bytes : List ℕ) {p : Placing} (e : chart_of_table bytes ≡ done p) where
  abbrev n : ℕ
  n = length p.contents.steps

  apart : AllApart n p.contents.edges
  apart i h =
      let f = (read-fair bytes (parts-of bytes e).said).each_edge i h in
      record { from_in = f.from_in; to_in = f.to_in; apart = λ s. f.apart (sym s) }

  free : LoopFree (must_of p.contents.edges)
  unfolding table_rows_found
  free =
      (free-iff n (must_of p.contents.edges) (must-each (λ (x : Edge). (x.from < n) × (x.to < n)) p.contents.edges (λ i h s. ((apart i h).from_in, (apart i h).to_in)))).1
      (go (rows_of n (oriented_in p.contents)) p.rows (lowest_on_loop n (must_of p.contents.edges)) (parts-of bytes e).found)
    where
      go : (rows ys : List ℕ) (o : Option ℕ) → unless_loop o rows ≡ done ys → o ≡ None
      go rows ys None h = refl
      go rows ys (Some s) h = never (sym h)

  -- edges that are drawn as one are all kept or all turned
  pub repeated-turned : (i j : ℕ) → i < length p.contents.edges → j < length p.contents.edges
      → alike (get_or p.contents.edges i no_table_edge) (get_or p.contents.edges j no_table_edge) ≡ true
      → get_or (turned_in p.contents) i false ≡ get_or (turned_in p.contents) j false
  repeated-turned = turned-alike n p.contents.edges apart free

  pub repeated-feasible : (y : ℕ → ℕ) → Feasible (oriented_in p.contents) y ↔ Feasible (drawn_in p.contents) y
  repeated-feasible = same-feasible n p.contents.edges apart free

  pub repeated-total : (y : ℕ → ℕ) → total (drawn_in p.contents) y ≡ total (oriented_in p.contents) y
  repeated-total = same_total n p.contents.edges apart free

  pub repeated-best : (ys : List ℕ) → Best n (oriented_in p.contents) ys ↔ Best n (drawn_in p.contents) ys
  repeated-best = same-best n p.contents.edges apart free

  -- so rows found for what is drawn would be the rows of the chart
  pub repeated-rows : Best n (oriented_in p.contents) p.rows → rows_of n (drawn_in p.contents) ≡ p.rows
  repeated-rows b =
      let is = ranked-rows n p.contents.edges (parts-of bytes e).found in
      drawn-rows n p.contents.edges apart free (subst (Best n (oriented_in p.contents)) is b) ∙ sym is
