-- What a table can say: all that keeps the limits of document 01, and nothing else. Both are shown in proofs/TableLaws.antt.
use Rattle.std.specs.Prelude.{◌≡◌, List, [], ◌∷◌, ℕ, ◌≤◌, length}
use Rattle.graph.specs.declared.TableEdge.{TableEdge}
use Rattle.graph.specs.Directed.{own_edge}
use Rattle.outcome.specs.Refusal.{done}
use Rattle.table.specs.Limits.{max_steps, max_edges, min_name, max_name, min_name_byte, max_name_byte}
use Rattle.table.specs.Table.{Contents, read}
use Rattle.table.specs.Fair.{KindInRange, FairEdge}
use Rattle.encoding.specs.Said.{SaidStep, Said, said}

-- the bytes are a table, and this is what it says
pub record Says (bytes : List ℕ) (what : Said) : Type 0 where
  pub contents : Contents
  pub reads : read bytes ≡ done contents
  pub says : said bytes contents ≡ what

-- every item of a list
pub data All {A : Type 0} (P : A → Type 0) : List A → Type 0 where
  nothing : All P []
  also : {a : A} {l : List A} → P a → All P l → All P (a ∷ l)

-- a byte that a name may have
pub record FairByte (b : ℕ) : Type 0 where
  pub low : min_name_byte ≤ b
  pub high : b ≤ max_name_byte

pub record FairName (name : List ℕ) : Type 0 where
  pub some : min_name ≤ length name
  pub short : length name ≤ max_name
  pub bytes : All FairByte name

pub record SayableStep (s : SaidStep) : Type 0 where
  pub kind : KindInRange s.kind
  pub name : FairName s.name

-- an edge of a table of n steps, of either firmness
pub record SayableEdge (n : ℕ) (e : TableEdge) : Type 0 where
  pub own : FairEdge n (own_edge e)

pub record Sayable (s : Said) : Type 0 where
  pub few_steps : length s.steps ≤ max_steps
  pub few_edges : length s.edges ≤ max_edges
  pub steps : All SayableStep s.steps
  pub edges : All (SayableEdge (length s.steps)) s.edges
