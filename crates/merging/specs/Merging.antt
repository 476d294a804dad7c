-- What the functions that merge edges ask for and answer.
use Rattle.std.specs.Prelude.{◌≡◌, Bool, cond, Option, Some, None, List, ℕ, zero, suc, ◌+◌, ◌*◌, ◌≤◌, ◌<◌, max, eqb, length, get_or}
use Rattle.graph.specs.declared.TableEdge.{TableEdge}
use Rattle.graph.specs.Directed.{own_edge, no_table_edge}
use Rattle.table.specs.Limits.{max_steps, max_edges, max_weight}
use Rattle.table.specs.Fair.{FairEdge}
use Rattle.merging.specs.declared.MergedEdge.{MergedEdge}
use Rattle.merging.specs.Merged.{no_merged_edge, has_ends}

-- as many weights added as there can be
abbrev pub max_added : ℕ
max_added = max_edges * max_weight

-- edges join steps, and all are within the limits
pub record Mergeable (edges : List TableEdge) : Type 0 where
  pub few : length edges ≤ max_edges
  pub each : (i : ℕ) → i < length edges → FairEdge max_steps (own_edge (get_or edges i no_table_edge))

-- ---- one edge more

-- an edge is drawn as one with a merged edge
abbrev pub joins : TableEdge → MergedEdge → Bool
joins e old = has_ends old.from old.to old.soft e

-- edge i alone
abbrev pub merged_alone : ℕ → TableEdge → MergedEdge
merged_alone i e = record { from = e.from; to = e.to; gap = e.gap; soft = e.soft; first = i; weight = e.weight }

-- a merged edge with one edge more
abbrev pub joined : TableEdge → MergedEdge → MergedEdge
joined e old =
    record {
      from = old.from;
      to = old.to;
      gap = max old.gap e.gap;
      soft = old.soft;
      first = old.first;
      weight = old.weight + e.weight;
    }

-- ---- chains

-- a number for each two ends and firmness
unfoldable pub key_of : TableEdge → ℕ
key_of e = cond e.soft ((e.from * max_steps + e.to) * 2 + 1) ((e.from * max_steps + e.to) * 2)

-- A chain goes by slots: a slot is one more than a place, or 0 where there is none. Each entry leads back.
pub record Links (next : List ℕ) : Type 0 where
  pub back : (k : ℕ) → k < length next → get_or next k 0 ≤ k

-- place k is on the chain from a slot on
pub data Chain (next : List ℕ) (k : ℕ) : ℕ → Type 0 where
  here : {slot : ℕ} → slot ≡ suc k → Chain next k slot
  there : {slot : ℕ} (j : ℕ) → slot ≡ suc j → Chain next k (get_or next j 0) → Chain next k slot

-- a place with the key, or none on the chain has it
abbrev pub SlotFound : List ℕ → List ℕ → ℕ → ℕ → Option ℕ → Type 0
SlotFound keys next start key (Some k) = (k < length next) × (get_or keys k 0 ≡ key)
SlotFound keys next start key None = (k : ℕ) → Chain next k start → get_or keys k 0 ≡ key → ⊥

-- Merged edges with one sum of their ends are a chain: the sums of edges that leave one step, or that lead to one, are all different, so that
-- a chain is short.
abbrev pub sum_of : MergedEdge → ℕ
sum_of e = e.from + e.to

-- sums are smaller
abbrev pub sum_count : ℕ
sum_count = max_steps + max_steps

-- the slot of the last of the first k merged edges with a sum
unfoldable pub last_slot : ℕ → List MergedEdge → ℕ → ℕ
last_slot sum edges zero = 0
last_slot sum edges (suc k) = let before = last_slot sum edges k in cond (eqb (sum_of (get_or edges k no_merged_edge)) sum) (suc k) before

-- the key of a merged edge: that of an edge with its ends and firmness
abbrev pub as_table : MergedEdge → TableEdge
as_table e = record { from = e.from; to = e.to; gap = e.gap; weight = e.weight; soft = e.soft }

abbrev pub key_at : MergedEdge → ℕ
key_at e = key_of (as_table e)

-- lists in which they are chained
pub record Chained (edges : List MergedEdge) (keys next heads : List ℕ) : Type 0 where
  pub keys_long : length keys ≡ length edges
  pub next_long : length next ≡ length edges
  pub heads_long : length heads ≡ sum_count
  pub keyed : (k : ℕ) → k < length edges → get_or keys k 0 ≡ key_at (get_or edges k no_merged_edge)
  pub next_at : (k : ℕ) → k < length edges → get_or next k 0 ≡ last_slot (sum_of (get_or edges k no_merged_edge)) edges k
  pub head_at : (v : ℕ) → v < sum_count → get_or heads v 0 ≡ last_slot v edges (length edges)
