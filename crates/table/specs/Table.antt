-- The table of document 01, with the firmness of document 02: an edition, the steps behind their count, the edges behind theirs, and no
-- byte more.
use Rattle.std.specs.Prelude.{Bool, not, ◌&&◌, cond, List, [], ℕ, leb, ltb, eqb, length}
use Rattle.graph.specs.declared.Edge.{Edge}
use Rattle.graph.specs.declared.TableEdge.{TableEdge}
use Rattle.table.specs.declared.rule.Rule.{Rule}
use Rattle.table.specs.declared.rule.Rule.TheVariants.{Shortest}
use Rattle.table.specs.declared.types.Kind.{Kind}
use Rattle.table.specs.declared.types.Kind.TheVariants.{Check, Adjust, Wait}
use Rattle.table.specs.declared.types.Step.{Step}
use Rattle.outcome.specs.declared.Refusal.TheVariants.{BadEdition, ManySteps, BadKind, OutOfRange, BadNameByte, ManyEdges, BadEnd, Spare, BadFirmness}
use Rattle.table.specs.Limits.{min_edition, max_edition, Size, max_size, max_kind, max_tolerance, min_minutes, max_minutes, min_name, max_name, min_name_byte, max_name_byte, min_gap, max_gap, max_weight, softness}
use Rattle.outcome.specs.Refusal.{Outcome, done, refused}
use Rattle.table.specs.Number.{Read, got, fault, and_then, judge, byte_at, number_at, number_in, many, counted}

-- what an adjustment adds to its kind
unfoldable pub adjust_at : Rule → List ℕ → ℕ → Read Kind
adjust_at rule s at = and_then (number_in rule 0 max_tolerance OutOfRange s at) λ t p. got (Adjust t) p

-- what a wait adds
unfoldable pub wait_at : Rule → List ℕ → ℕ → Read Kind
wait_at rule s at = and_then (number_in rule min_minutes max_minutes OutOfRange s at) λ m p. got (Wait m) p

-- a kind: 0 for a check, which adds nothing, 1 for an adjustment, 2 for a wait
unfoldable pub kind_at : Rule → List ℕ → ℕ → Read Kind
kind_at rule s at = and_then (number_in rule 0 max_kind BadKind s at) λ k p. cond (eqb k 0) (got Check p) (cond (eqb k 1) (adjust_at rule s p) (wait_at rule s p))

unfoldable pub name_byte_at : List ℕ → ℕ → Read ℕ
name_byte_at s at = and_then (byte_at s at) λ b p. judge (leb min_name_byte b && leb b max_name_byte) BadNameByte (got b p)

-- a name of so many bytes: its length, and the place behind it
unfoldable pub name_at : List ℕ → ℕ → ℕ → Read ℕ
name_at s len at = counted (many (name_byte_at s) len at)

-- the name that makes a step of a kind: its length, then its bytes
unfoldable pub named_at : Rule → List ℕ → Kind → ℕ → Read Step
named_at rule s kind at =
    and_then (number_in rule min_name max_name OutOfRange s at) λ l p.
    and_then (name_at s l p) λ len e. got (record { kind = kind; start = p; len = len }) e

-- a step: its kind with what the kind adds, and its name
unfoldable pub step_at : Rule → List ℕ → ℕ → Read Step
step_at rule s at = and_then (kind_at rule s at) λ kind p. named_at rule s kind p

-- one end of an edge: a step's number, of n steps, other than `but`
unfoldable pub end_at : Rule → List ℕ → ℕ → ℕ → ℕ → Read ℕ
end_at rule s n but at = and_then (number_at rule s at) λ v p. judge (ltb v n && not (eqb v but)) BadEnd (got v p)

-- the gap and the weight of an edge whose ends are known
unfoldable pub edge_between : Rule → List ℕ → ℕ → ℕ → ℕ → Read Edge
edge_between rule s from to at =
    and_then (number_in rule min_gap max_gap OutOfRange s at) λ gap p.
    and_then (number_in rule 0 max_weight OutOfRange s p) λ weight e.
    got (record { from = from; to = to; gap = gap; weight = weight }) e

-- an edge (document 01: an arrow) of a table of n steps. No step has the number n, so `from` may be any step; `to` is another one
unfoldable pub edge_at : Rule → List ℕ → ℕ → ℕ → Read Edge
edge_at rule s n at = and_then (end_at rule s n n at) λ from p. and_then (end_at rule s n from p) λ to q. edge_between rule s from to q

-- the firmness of an edge: the first edition has none, and there every edge is a must edge
unfoldable pub firmness_at : Rule → List ℕ → ℕ → ℕ → Read ℕ
firmness_at rule s edition at = cond (eqb edition min_edition) (got 0 at) (number_in rule 0 softness BadFirmness s at)

-- an edge and its firmness
abbrev pub table_edge : Edge → Bool → TableEdge
table_edge e soft = record { from = e.from; to = e.to; gap = e.gap; weight = e.weight; soft = soft }

-- an edge with its firmness, which comes last
unfoldable pub table_edge_at : Rule → List ℕ → ℕ → ℕ → ℕ → Read TableEdge
table_edge_at rule s edition n at =
    and_then (edge_at rule s n at) λ e p.
    and_then (firmness_at rule s edition p) λ firmness q. got (table_edge e (eqb firmness softness)) q

-- The count of steps, then the steps. How many steps and edges there may be is a size, which only the two counts ask for; every call
-- reads by `max_size`, as the last part says.
unfoldable pub steps_within : Size → Rule → List ℕ → ℕ → Read (List Step)
steps_within size rule s at = and_then (number_in rule 0 size.steps ManySteps s at) λ n p. many (step_at rule s) n p

-- the count of edges, then the edges
unfoldable pub edges_within : Size → Rule → List ℕ → ℕ → ℕ → ℕ → Read (List TableEdge)
edges_within size rule s edition n at = and_then (number_in rule 0 size.edges ManyEdges s at) λ m p. many (table_edge_at rule s edition n) m p

-- what a table says
pub record Contents : Type 0 where
  pub steps : List Step
  pub edges : List TableEdge

-- steps and edges, and nothing behind them
unfoldable pub lists_within : Size → Rule → List ℕ → ℕ → ℕ → Read Contents
lists_within size rule s edition at =
    and_then (steps_within size rule s at) λ steps p.
    and_then (edges_within size rule s edition (length steps) p) λ edges e.
    judge (eqb e (length s)) Spare (got (record { steps = steps; edges = edges }) e)

unfoldable pub table_within : Size → Rule → List ℕ → ℕ → Read Contents
table_within size rule s at = and_then (number_in rule min_edition max_edition BadEdition s at) λ edition p. lists_within size rule s edition p

abbrev pub outcome : {A : Type 0} → Read A → Outcome A
outcome (got a p) = done a
outcome (fault r) = refused r

-- what the bytes say by a rule, within a size, or the first fault
unfoldable pub read_within : Size → Rule → List ℕ → Outcome Contents
read_within size rule s = outcome (table_within size rule s 0)

-- ---- within the size that a table may have

abbrev pub steps_at : Rule → List ℕ → ℕ → Read (List Step)
steps_at rule s at = steps_within max_size rule s at

abbrev pub edges_at : Rule → List ℕ → ℕ → ℕ → ℕ → Read (List TableEdge)
edges_at rule s edition n at = edges_within max_size rule s edition n at

abbrev pub lists_at : Rule → List ℕ → ℕ → ℕ → Read Contents
lists_at rule s edition at = lists_within max_size rule s edition at

abbrev pub table_at : Rule → List ℕ → ℕ → Read Contents
table_at rule s at = table_within max_size rule s at

-- what the bytes say by a rule, or the first fault
abbrev pub read_by : Rule → List ℕ → Outcome Contents
read_by rule s = read_within max_size rule s

-- what the bytes say: every call reads so but the one that converts stored tables
abbrev pub read : List ℕ → Outcome Contents
read s = read_by Shortest s

-- the steps and edges of a table; none where it is refused
abbrev pub contents_of : Outcome Contents → Contents
contents_of (done t) = t
contents_of (refused r) = record { steps = []; edges = [] }
