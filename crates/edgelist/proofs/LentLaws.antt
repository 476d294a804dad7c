-- The outcome of lent edges whose copy stands in flat lists, by cases.
use mathlib.Core.Path.{◌≡◌, sym, subst, ◌∙◌}
use mathlib.Core.List.{List}
use Prim.Native.Nat.{ℕ, ◌≤◌, ◌<◌}
use lib.ListN.{length}
use Rattle.std.specs.Prelude.{Result, Err}
use Rattle.graph.specs.declared.Edge.{Edge}
use Rattle.outcome.specs.declared.Refusal.{Refusal}
use Rattle.outcome.specs.declared.Refusal.TheVariants.{ManySteps, ManyEdges}
use Rattle.table.specs.Limits.{max_steps, max_edges}
use Rattle.outcome.specs.Refusal.{done, refused}
use Rattle.flatten.specs.Flat.{Flat}
use Rattle.flatten.specs.Flat.{flat_edges}
use Rattle.flatten.specs.Records.{copied}
use Rattle.flatten.proofs.FlattenLaws.{copied-few}
use Rattle.rows.specs.declared.types.RowsFound.{RowsFound}
use Rattle.rows.specs.Placed.{held_rows, FairEdges, EdgesPlaced, RowsHandedOut}
use Rattle.edgelist.specs.Calls.{records_judged, rows_of_records}
use Rattle.edgelist.specs.Lent.{RecordsPlaced, LentPlaced, LentAnswered}
use Rattle.edgelist.proofs.CallLaws.{records-many-steps, records-many-edges, records-fault, records-fair, records-placed, record-call}

module _ (n m : ℕ) (flat : Flat) where
  refuses : {r : Refusal} → ((edges : List Edge) → m ≡ length edges → flat_edges flat ≡ copied edges → rows_of_records n edges ≡ refused r) → LentPlaced n m flat (Err r)
  refuses w = record { placed = λ edges c h. record { says = sym (w edges c h); placed = tt } }

  pub lent-many-steps : max_steps < n → LentPlaced n m flat (Err ManySteps)
  lent-many-steps h = refuses (λ edges _ _. records-many-steps n edges h)

  module _ (few : n ≤ max_steps) where
    pub lent-many-edges : max_edges < m → LentPlaced n m flat (Err ManyEdges)
    lent-many-edges h = refuses (λ edges c _. records-many-edges n edges few (subst (λ (k : ℕ). max_edges < k) c h))

    module _ (fewer : m ≤ max_edges) where
      -- the edges that the lists were made of stand in them
      same : (edges : List Edge) → m ≡ length edges → flat_edges flat ≡ copied edges → flat_edges flat ≡ edges
      same edges c held = held ∙ copied-few edges (subst (λ (k : ℕ). k ≤ max_edges) c fewer)

      module _ (short : length (flat_edges flat) ≤ max_edges) where
        pub lent-fault : {r : Refusal} → refused r ≡ records_judged n (flat_edges flat) → LentPlaced n m flat (Err r)
        lent-fault {r} j =
            refuses (λ edges c held. subst (λ (l : List Edge). rows_of_records n l ≡ refused r) (same edges c held) (records-fault n (flat_edges flat) few short (sym j)))

        module _ (j : done tt ≡ records_judged n (flat_edges flat)) where
          pub lent-fair : FairEdges n (flat_edges flat)
          lent-fair = records-fair n (flat_edges flat) few short (sym j)

          pub lent_placed : (r : Result RowsFound Refusal) → EdgesPlaced n (flat_edges flat) r → LentPlaced n m flat r
          lent_placed r p =
              record { placed = λ edges c held. subst (λ (l : List Edge). RecordsPlaced n l r) (same edges c held) (records-placed n (flat_edges flat) few short (sym j) p) }

-- what was found, handed out
pub lent-answered : {n m : ℕ} {flat : Flat} {f : Result RowsFound Refusal} {old new : List ℕ} {r : Result Unit Refusal} → LentPlaced n m flat f
    → RowsHandedOut (held_rows f) old new r → LentAnswered n m flat old new r
lent-answered {n} {m} {flat} {f} {old} {new} {r} p h = record { answered = λ edges c held. record-call n edges f old new r (p.placed edges c held) h }
