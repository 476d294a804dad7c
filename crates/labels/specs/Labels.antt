-- The text of a point: of a step its name and its kind, of a dummy the number of its edge.
use Rattle.std.specs.Prelude.{Bool, false, cond, List, ◌++◌, ℕ, ◌+◌, ◌-◌, ◌≤◌, ◌<◌, ltb, length, get_or, take, drop}
use Rattle.table.specs.declared.types.Kind.{Kind}
use Rattle.table.specs.declared.types.Kind.TheVariants.{Check, Adjust, Wait}
use Rattle.table.specs.declared.types.Step.{Step}
use Rattle.table.specs.Calls.{no_step}
use Rattle.points.specs.declared.dummy.Dummy.{Dummy}
use Rattle.labels.specs.Text.{text, decimal}

-- what a kind prints: its letter, and the number that it carries
abbrev pub kind_text : Kind → List ℕ
kind_text Check = text "C"
kind_text (Adjust t) = text "A" ++ decimal t
kind_text (Wait m) = text "W" ++ decimal m

-- a step: its name, which is a stretch of the table, and its kind
abbrev pub step_text : List ℕ → Step → List ℕ
step_text bytes s = take s.len (drop s.start bytes) ++ text "=" ++ kind_text s.kind

-- a dummy: the number of its edge, behind a sign that says whether the edge was turned
abbrev pub dummy_text : Bool → ℕ → List ℕ
dummy_text turned edge = cond turned (text "^") (text "|") ++ decimal edge

-- what stands behind the last dummy
abbrev pub no_dummy : Dummy
no_dummy = record { edge = 0; row = 0 }

-- a dummy as it is printed, with the flags of the edges
abbrev pub dummy_sign : List Bool → Dummy → List ℕ
dummy_sign turned d = dummy_text (get_or turned d.edge false) d.edge

-- the points by number: the steps, and behind them the dummies
abbrev pub label_text : List ℕ → List Step → List Dummy → List Bool → ℕ → List ℕ
label_text bytes steps ds turned p =
    cond (ltb p (length steps)) (step_text bytes (get_or steps p no_step)) (dummy_sign turned (get_or ds (p - length steps) no_dummy))

-- What printing points asks for: the name of each step lies in the table, and the edge of each dummy has a flag.
pub record Labelled (bytes : List ℕ) (steps : List Step) (ds : List Dummy) (turned : List Bool) : Type 0 where
  pub names : (i : ℕ) → i < length steps → (get_or steps i no_step).start + (get_or steps i no_step).len ≤ length bytes
  pub flags : (i : ℕ) → i < length ds → (get_or ds i no_dummy).edge < length turned
