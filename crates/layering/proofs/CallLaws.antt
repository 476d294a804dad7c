-- The outcome of each call, by cases: what its parts found is what its definition says.
use mathlib.Core.Path.{◌≡◌, refl, sym, ap, subst, ◌∙◌}
use mathlib.Core.List.{List}
use Prim.Native.Nat.{ℕ}
use native.Mathlib.Omega.{arith}
use lib.ListN.{length, take}
use lib.Seq.{take_all}
use Rattle.std.specs.Prelude.{Some, Ok, Err, Result}
use Rattle.graph.specs.Rows.{at, total, Best}
use Rattle.graph.specs.Search.{rows_of}
use Rattle.graph.proofs.BoundLaws.{best-is-rows_of}
use Rattle.outcome.specs.declared.Refusal.{Refusal}
use Rattle.outcome.specs.Refusal.{Outcome, done, refused, then_do, refusal_in}
use Rattle.outcome.proofs.ToldLaws.{number-some, numbers-same}
use Rattle.table.specs.declared.types.Table.{Table}
use Rattle.table.specs.Table.{Contents, contents_of, read}
use Rattle.table.specs.Calls.{contents_in}
use Rattle.table.proofs.FairLaws.{read-fair}
use Rattle.orientation.specs.Orientable.{Orientable}
use Rattle.rows.specs.declared.types.RowsFound.{RowsFound}
use Rattle.rows.specs.Answers.{rows_numbers}
use Rattle.rows.specs.Placed.{held_rows, FairEdges, RowsPlaced, Placed, RowsHandedOut}
use Rattle.rows.proofs.StoreLaws.{handed-refused, handed-best}
use Rattle.layering.specs.declared.place.RankedEdges.{RankedEdges}
use Rattle.layering.specs.declared.types.TableRows.{TableRows}
use Rattle.layering.specs.declared.types.Unplaced.{Unplaced}
use Rattle.layering.specs.Calls.{table_rows_found, rows_of_table, oriented_in, turned_in, steps_in, edges_in, rows_call, TableBest, EdgesRanked, PlaceEnd, flags_by, place_by, place_call, contents_beside, unread, place_end}
use Rattle.layering.proofs.RankLaws.{oriented_fair, ranked-rows}

-- ---- tables that are read

pub read-orientable : (s : List ℕ) {t : Contents} → read s ≡ done t → Orientable (length t.steps) t.edges
read-orientable s r = let fair = read-fair s r in record { few_steps = fair.few_steps; few_edges = fair.few_edges; each = fair.each_edge }

-- the edges, as kept or turned, are fair
pub read-oriented : (s : List ℕ) {t : Contents} → read s ≡ done t → FairEdges (length t.steps) (oriented_in t)
read-oriented s {t} r = oriented_fair (length t.steps) t.edges (read-orientable s r)

pub read-ranked : (s : List ℕ) {t : Contents} → read s ≡ done t → rows_of_table s ≡ table_rows_found (length t.steps) t.edges
unfolding rows_of_table
read-ranked s r = rw r

pub table-refused : (s : List ℕ) {f : Refusal} → read s ≡ refused f → rows_of_table s ≡ refused f
unfolding rows_of_table
table-refused s e = rw e

-- rows of a table that are not refused are those of fair edges without a loop
module _ (s : List ℕ) where
  pub table-rows : {rows : List ℕ} → rows_of_table s ≡ done rows → FairEdges (steps_in s) (edges_in s) × (rows ≡ rows_of (steps_in s) (edges_in s))
  unfolding rows_of_table
  table-rows {rows} e = go (read s) refl e
    where
      go : (o : Outcome Contents) → read s ≡ o → then_do o (λ t. table_rows_found (length t.steps) t.edges) ≡ done rows
          → FairEdges (length (contents_of o).steps) (oriented_in (contents_of o)) × (rows ≡ rows_of (length (contents_of o).steps) (oriented_in (contents_of o)))
      go (done t) r e = (read-oriented s r, ranked-rows (length t.steps) t.edges e)
      go (refused r) q e = let z : ◌≡◌ {A = ℕ} 0 1 = cc in absurd (omega arith)

-- ---- what a layer above builds on

-- what was found for a table: it was read, its edges are turned as they are to be, and the rows are the best
pub record TableFound (s : List ℕ) (r : TableRows) : Type 0 where
  pub told : read s ≡ done (contents_in r.table)
  pub flags : r.turned.items ≡ turned_in (contents_in r.table)
  pub says : rows_of_table s ≡ done r.found.rows.items
  pub placed : RowsPlaced (oriented_in (contents_in r.table)) (length r.table.steps.items) r.found

module _ (s : List ℕ) where
  -- the table and its flags, as the call hands them on
  pub place-contents : (place_call s).contents ≡ contents_of (read s)
  unfolding place_call
  place-contents = refl

  pub place-flags : (place_call s).turned ≡ flags_by (rows_of_table s) (turned_in (contents_of (read s)))
  unfolding place_call
  place-flags = refl

  -- a table with rows was read
  read-done : {rows : List ℕ} → rows_of_table s ≡ done rows → read s ≡ done (contents_of (read s))
  unfolding rows_of_table
  read-done {rows} e = go (read s) e
    where
      go : (o : Outcome Contents) → then_do o (λ t. table_rows_found (length t.steps) t.edges) ≡ done rows → o ≡ done (contents_of o)
      go (done t) q = refl
      go (refused k) q = let z : ◌≡◌ {A = ℕ} 0 1 = cc in absurd (omega arith)

  -- the numbers, the lists and demand 3 tell all of it
  pub place-found : {r : TableRows} → place_end (Ok r) ≡ place_call s → TableBest s (place_end (Ok r)).numbers (place_end (Ok r)).rows → TableFound s r
  unfolding place_call
  place-found {r} e b = go (rows_of_table s) refl e
    where
      go : (o : Outcome (List ℕ)) → rows_of_table s ≡ o → place_end (Ok r) ≡ place_by (contents_of (read s)) o → TableFound s r
      go (refused k) q e = absurd (omega (arith, number-some k, ap (λ (x : PlaceEnd). refusal_in x.numbers) e))
      go (done rows) q e =
          let here : contents_in r.table ≡ contents_of (read s) = ap (λ (x : PlaceEnd). x.contents) e in
          let same : r.found.rows.items ≡ rows = ap (λ (x : PlaceEnd). x.rows) e in
          let fair = (table-rows s q).0 in
          let cut : take (steps_in s) r.found.rows.items ≡ rows =
          sym (best-is-rows_of (steps_in s) (edges_in s) (take (steps_in s) r.found.rows.items) (λ i h. ((fair.each i h).from_in, (fair.each i h).to_in)) (b refl))
          ∙ sym (table-rows s q).1 in
          record {
            told = rw here (read-done q);
            flags = ap (λ (x : PlaceEnd). x.turned) e ∙ ap turned_in (sym here);
            says = q ∙ ap done (sym same);
            placed =
                record {
                  best =
                      subst (λ (t : Contents). Best (length t.steps) (oriented_in t) r.found.rows.items) (sym here)
                      (subst (Best (steps_in s) (edges_in s)) (cut ∙ sym same) (b refl));
                  summed =
                      subst (λ (t : Contents). r.found.total ≡ total (oriented_in t) (at r.found.rows.items)) (sym here)
                      (ap (λ (x : PlaceEnd). x.sum) e ∙ ap (λ l. total (edges_in s) (at l)) (sym same));
                };
          }

  pub place-refused : (u : Unplaced) → place_end (Err u) ≡ place_call s → rows_of_table s ≡ refused u.refusal
  unfolding place_call
  place-refused u e = go (rows_of_table s) e
    where
      go : (o : Outcome (List ℕ)) → place_end (Err u) ≡ place_by (contents_of (read s)) o → o ≡ refused u.refusal
      go (refused k) e = ap refused (numbers-same k u.refusal (sym (ap (λ (x : PlaceEnd). x.numbers) e)))
      go (done rows) e = absurd (omega (arith, number-some u.refusal, ap (λ (x : PlaceEnd). refusal_in x.numbers) e))

  -- what the functions behind the call found is what it promises
  pub found-end : {r : TableRows} → TableFound s r → (place_end (Ok r) ≡ place_call s) × TableBest s (place_end (Ok r)).numbers (place_end (Ok r)).rows
  unfolding place_call
  found-end {r} p = (
    rw (p.told, p.says) (rw (p.flags, p.placed.summed) refl),
    λ zero. rw p.told (subst (Best (length r.table.steps.items) (oriented_in (contents_in r.table)))
        (sym (take_all (length r.table.steps.items) r.found.rows.items (omega (arith, p.placed.best.one_a_node)))) p.placed.best),
  )

  -- and of a table that has no rows: the reader's table, if there is one, beside the refusal
  pub refused-end : (u : Unplaced) → contents_of (read s) ≡ contents_beside u.table → rows_of_table s ≡ refused u.refusal
      → (place_end (Err u) ≡ place_call s) × TableBest s (place_end (Err u)).numbers (place_end (Err u)).rows
  unfolding place_call
  refused-end u t e = (rw (e, t) refl, λ zero. absurd (omega (arith, number-some u.refusal)))

  -- where the reader refuses
  pub unread-end : {f : Refusal} → read s ≡ refused f → (place_end (Err (unread f)) ≡ place_call s) × TableBest s (place_end (Err (unread f))).numbers (place_end (Err (unread f))).rows
  unread-end {f} e = refused-end (unread f) (ap contents_of e) (table-refused s e)

  -- ---- how a table's rows are found

  module _ {t : Table} (r : read s ≡ done (contents_in t)) where
    abbrev n : ℕ
    n = length t.steps.items

    pub ranked-refused : {f : Refusal} → EdgesRanked n t.edges.items (Err f) → rows_of_table s ≡ refused f
    ranked-refused k = read-ranked s r ∙ sym k.says

    pub ranked-found : {x : RankedEdges} → EdgesRanked n t.edges.items (Ok x) → TableFound s (record { table = t; turned = x.turned; found = x.found })
    ranked-found {x} k = record { told = r; flags = k.0; says = read-ranked s r ∙ sym k.1.says; placed = k.1.placed }

    -- a table whose rows are refused is there
    pub looped-end : {f : Refusal} → EdgesRanked n t.edges.items (Err f)
        → (place_end (Err (record { refusal = f; table = Some t })) ≡ place_call s)
        × TableBest s (place_end (Err (record { refusal = f; table = Some t }))).numbers (place_end (Err (record { refusal = f; table = Some t }))).rows
    looped-end {f} k = refused-end (record { refusal = f; table = Some t }) (ap contents_of r) (ranked-refused k)

  -- ---- the rows call

  found-placed : {r : TableRows} → TableFound s r → Placed (steps_in s) (edges_in s) (rows_of_table s) (Ok r.found)
  found-placed {r} p = record { says = sym p.says; placed = rw p.told p.placed }

  call : {f : Result RowsFound Refusal} {old new : List ℕ} {r : Result Unit Refusal} → Placed (steps_in s) (edges_in s) (rows_of_table s) f → RowsHandedOut (held_rows f) old new r
      → (rows_numbers r ≡ (rows_call s old).numbers) × ((new ≡ (rows_call s old).rows) × TableBest s (rows_numbers r) new)
  unfolding rows_call
  call {f} {old} {new} {r} p h =
      let k : RowsHandedOut (rows_of_table s) old new r = subst (λ o. RowsHandedOut o old new r) p.says h in
      (k.numbers, (k.rows, handed-best (steps_in s) (edges_in s) old new p k))

  pub table-call : {r : TableRows} {old new : List ℕ} {answer : Result Unit Refusal} → TableFound s r → RowsHandedOut (done r.found.rows.items) old new answer
      → (rows_numbers answer ≡ (rows_call s old).numbers) × ((new ≡ (rows_call s old).rows) × TableBest s (rows_numbers answer) new)
  table-call p h = call (found-placed p) h

  pub refused-call : {f : Refusal} (old : List ℕ) → rows_of_table s ≡ refused f
      → (rows_numbers (Err f) ≡ (rows_call s old).numbers) × ((old ≡ (rows_call s old).rows) × TableBest s (rows_numbers (Err f)) old)
  refused-call {f} old e = call {f = Err f} {r = Err f} (record { says = sym e; placed = tt }) (handed-refused old (Err f) refl)
