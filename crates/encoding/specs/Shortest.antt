-- The shortest table that says a thing (document 02): every number in its fewest bytes, and edition 1 unless an edge is soft.
use Rattle.std.specs.Prelude.{Bool, cond, List, [], ◌∷◌, ◌++◌, ℕ, zero, suc, ◌+◌, ◌/◌, ◌%◌, ltb, eqb, length}
use Rattle.graph.specs.declared.TableEdge.{TableEdge}
use Rattle.table.specs.declared.types.Kind.{Kind}
use Rattle.table.specs.declared.types.Kind.TheVariants.{Check, Adjust, Wait}
use Rattle.table.specs.Limits.{min_edition, max_edition, softness}
use Rattle.acyclic.specs.Oriented.{any_soft}
use Rattle.encoding.specs.Said.{SaidStep, Said}

-- ---- numbers

-- a number in groups of seven bits, lowest first, with the high bit set on all but the last; at most k groups before the last
unfoldable pub groups : ℕ → ℕ → List ℕ
groups zero v = v ∷ []
groups (suc k) v =
    let more = (v % 0x80 + 0x80) ∷ groups k (v / 0x80) in
    cond (ltb v 0x80) (v ∷ []) more

-- a number has at most three bytes
unfoldable pub short_number : ℕ → List ℕ
short_number v = groups 2 v

-- ---- steps

-- a kind: 0, 1 or 2, and the number that it carries
abbrev pub short_kind : Kind → List ℕ
short_kind Check = short_number 0
short_kind (Adjust t) = short_number 1 ++ short_number t
short_kind (Wait m) = short_number 2 ++ short_number m

-- a name behind its length
unfoldable pub short_name : List ℕ → List ℕ
short_name name = short_number (length name) ++ name

unfoldable pub short_step : SaidStep → List ℕ
short_step s = short_kind s.kind ++ short_name s.name

-- ---- edges

-- the first edition that can tell the edges: the last where one of them is soft
abbrev pub edition_for : List TableEdge → ℕ
edition_for edges = cond (any_soft edges) max_edition min_edition

-- the firmness of an edge, of which the first edition says nothing
unfoldable pub short_firmness : ℕ → Bool → List ℕ
short_firmness edition soft = cond (eqb edition min_edition) [] (short_number (cond soft softness 0))

unfoldable pub short_edge : ℕ → TableEdge → List ℕ
short_edge edition e =
    short_number e.from ++ short_number e.to ++ (short_number e.gap ++ short_number e.weight) ++ short_firmness edition e.soft

-- ---- the table

-- items one behind the other
unfoldable pub each : {A : Type 0} → (A → List ℕ) → List A → List ℕ
each write [] = []
each write (a ∷ l) = write a ++ each write l

-- items behind their count
unfoldable pub short_list : {A : Type 0} → (A → List ℕ) → List A → List ℕ
short_list write l = short_number (length l) ++ each write l

-- the edition, the steps and the edges
unfoldable pub shortest : Said → List ℕ
shortest s = short_number (edition_for s.edges) ++ short_list short_step s.steps ++ short_list (short_edge (edition_for s.edges)) s.edges
