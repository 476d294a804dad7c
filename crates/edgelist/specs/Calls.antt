-- The calls of the record form: what each answers, and what the buffer lent for rows holds at its end.
use Rattle.std.specs.Prelude.{Bool, not, ◌&&◌, List, [], ◌∷◌, ℕ, leb, ltb, eqb, length}
use Rattle.graph.specs.declared.Edge.{Edge}
use Rattle.outcome.specs.declared.Refusal.TheVariants.{ManySteps, OutOfRange, ManyEdges, BadEnd}
use Rattle.table.specs.Limits.{max_steps, max_edges, min_gap, max_gap, max_weight}
use Rattle.outcome.specs.Refusal.{Outcome, done, then_do, demand}
use Rattle.rows.specs.Answers.{rows_found, RowsEnd, rows_end, RowsBest}

-- an edge joins two different steps, of n steps
abbrev pub ends_good : ℕ → Edge → Bool
ends_good n e = ltb e.from n && ltb e.to n && not (eqb e.from e.to)

-- and its gap and weight are in range
abbrev pub sizes_good : Edge → Bool
sizes_good e = leb min_gap e.gap && leb e.gap max_gap && leb e.weight max_weight

-- an edge is judged by its ends (9), then by its gap and weight (6)
unfoldable pub edge_judged : ℕ → Edge → Outcome (Unit {0})
edge_judged n e = demand (ends_good n e) BadEnd (demand (sizes_good e) OutOfRange (done tt))

-- each in turn
unfoldable pub records_judged : ℕ → List Edge → Outcome (Unit {0})
records_judged n [] = done tt
records_judged n (e ∷ edges) = then_do (edge_judged n e) λ _. records_judged n edges

-- the two counts (4, 8), the edges, then 11
unfoldable pub rows_of_records : ℕ → List Edge → Outcome (List ℕ)
rows_of_records n edges =
    demand (leb n max_steps) ManySteps (demand (leb (length edges) max_edges) ManyEdges
    (then_do (records_judged n edges) λ _. rows_found n edges))

unfoldable pub record_call : ℕ → List Edge → List ℕ → RowsEnd
record_call n edges old = rows_end (rows_of_records n edges) old

-- demand 3 of lent edges: where a call tells 0, the first entries of the buffer as it leaves it are their best rows
abbrev pub RecordsBest : ℕ → List Edge → List ℕ → List ℕ → Type 0
RecordsBest n edges numbers rows = RowsBest n edges numbers rows
