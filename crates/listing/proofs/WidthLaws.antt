-- No listing is longer than `max_listing`: each number has few digits, each point a short text, and rows and points are few.
use mathlib.Core.Path.{◌≡◌, refl, sym, ap, subst}
use mathlib.Core.Bool.{Bool, true, false, cond}
use mathlib.Core.List.{List, [], ◌∷◌, ◌++◌, map, flatten}
use Prim.Native.Nat.{ℕ, zero, suc, ◌+◌, ◌*◌, ◌-◌, ◌≤◌, ◌<◌, zero-le}
use native.Mathlib.Nat.{mul-le-mul_right, add-mul}
use native.Mathlib.Omega.{arith}
use borrow.Author.Tests.{ltb-true, ltb-false, leb-true}
use lib.Dec.{ltb, leb}
use lib.ListN.{length, get_or, take, drop, length-append, length-take, get_or-eq_default}
use Rattle.graph.specs.declared.Edge.{Edge}
use Rattle.graph.specs.declared.TableEdge.{TableEdge}
use Rattle.graph.specs.Rows.{at, no_edge, total}
use Rattle.table.specs.declared.types.Kind.{Kind}
use Rattle.table.specs.declared.types.Kind.TheVariants.{Check, Adjust, Wait}
use Rattle.outcome.specs.declared.Refusal.TheVariants.{ManyPoints}
use Rattle.table.specs.declared.types.Step.{Step}
use Rattle.table.specs.Limits.{max_edges, max_weight}
use Rattle.points.specs.Limits.{max_points}
use Rattle.outcome.specs.Refusal.{Outcome, done, refused, then_do, demand}
use Rattle.table.specs.Table.{Contents, read}
use Rattle.table.specs.Calls.{no_step}
use Rattle.table.specs.Fair.{KindInRange, FairStep, Fair}
use Rattle.table.proofs.FairLaws.{read-fair}
use Rattle.layering.specs.Calls.{table_rows_found, oriented_in, turned_in}
use Rattle.layering.proofs.RankLaws.{ranked-rows}
use Rattle.layering.proofs.CallLaws.{read-oriented}
use Rattle.merging.specs.declared.MergedEdge.{MergedEdge}
use Rattle.merging.specs.Merged.{no_merged_edge, merged}
use Rattle.merging.proofs.FirstLaws.{merged-first}
use Rattle.rows.specs.Limits.{top_row}
use Rattle.rows.specs.Placed.{FairEdges}
use Rattle.rows.proofs.StepLaws.{never}
use Rattle.ordering.proofs.StepLaws.{chart-of-step}
use Rattle.points.specs.declared.dummy.Dummy.{Dummy}
use Rattle.points.specs.Points.{dummies, row_count}
use Rattle.fewest.specs.Fewest.{Drawing, drawing_of}
use Rattle.ordering.specs.Calls.{drawn_in, Placing, point_count, unless_many, chart_of_table}
use Rattle.fewest.proofs.CompleteLaws.{drawing-rows, drawing-count}
use Rattle.ordering.proofs.DrawnLaws.{drawn-among}
use Rattle.ordering.proofs.FigureLaws.{crossings-low, total_low}
use Rattle.labels.specs.Text.{text, decimal, blanked}
use Rattle.lines.specs.Lines.{line}
use Rattle.lines.specs.Printing.{numbered}
use Rattle.lines.proofs.RefusalLaws.{refusal-short}
use Rattle.lines.proofs.PrintLaws.{line-length}
use Rattle.labels.specs.Labels.{no_dummy, kind_text, step_text, dummy_text, dummy_sign, label_text}
use Rattle.listing.specs.Listing.{dummies_in, head_text, row_lines, chart_text, outcome_text, listing}
use Rattle.listing.specs.Widths.{head_bytes, row_bytes, point_bytes, max_listing}
use Rattle.labels.proofs.DecimalLaws.{tens, decimal-short}
use Rattle.rows.proofs.HeightLaws.{rows-top}
use Rattle.points.proofs.RowCountLaws.{count_low}

-- ---- lines

-- fields of at most w bytes, a blank in front of each included
fields-short : (w : ℕ) (show : ℕ → List ℕ) → ((p : ℕ) → length (show p) < w) → (row : List ℕ) → length (blanked (map show row)) ≤ length row * w
unfolding blanked
fields-short w show h [] = omega arith
fields-short w show h (p ∷ row) = rw (length-append (show p) (blanked (map show row))) (omega (arith, h p, fields-short w show h row))

-- rows whose numbers have at most three digits
rows_short : (w : ℕ) (show : ℕ → List ℕ) → ((p : ℕ) → length (show p) < w) → (r : ℕ) (rows : List (List ℕ)) → r + length rows ≤ tens 3
    → length (row_lines show r rows) ≤ length rows * row_bytes + length (flatten rows) * w
unfolding row_lines flatten
rows_short w show h r [] l = omega arith
rows_short w show h r (row ∷ rows) l =
    rw (length-append (line (decimal r) (map show row)) (row_lines show (suc r) rows), length-append row (flatten rows))
    (omega (
      arith,
      line-length (decimal r) (map show row),
      decimal-short 2 r (omega arith),
      fields-short w show h row,
      rows_short w show h (suc r) rows (omega arith),
      add-mul (length row) (length (flatten rows)) w,
    ))

-- ---- points

-- a letter, and a number of at most four digits
kind-short : (k : Kind) → KindInRange k → length (kind_text k) ≤ 5
kind-short Check h = omega arith
kind-short (Adjust t) h = omega (arith, decimal-short 3 t (omega arith))
kind-short (Wait m) h = omega (arith, decimal-short 3 m (omega arith))

step-short : (bytes : List ℕ) (s : Step) → FairStep bytes s → length (step_text bytes s) < point_bytes
step-short bytes s h =
    let name = take s.len (drop s.start bytes) in
    rw (length-append (name ++ text "=") (kind_text s.kind), length-append name (text "="))
    (omega (arith, length-take s.len (drop s.start bytes), h.short, kind-short s.kind h.kind_in))

-- dummies that bear numbers up to k
record LowNumbers (k : ℕ) (ds : List Dummy) : Type 0 where
  low : (j : ℕ) → (get_or ds j no_dummy).edge ≤ k

numbers-low : (k : ℕ) (list : List MergedEdge) → ((i : ℕ) → (get_or list i no_merged_edge).first ≤ k) → (ds : List Dummy) → LowNumbers k (numbered list ds)
unfolding numbered
numbers-low k list h [] = record { low = λ j. zero-le }
numbers-low k list h (d ∷ ds) = record { low = go (numbers-low k list h ds) }
  where
    go : LowNumbers k (numbered list ds) → (j : ℕ) → (get_or (numbered list (d ∷ ds)) j no_dummy).edge ≤ k
    go m zero = h d.edge
    go m (suc j) = m.low j

-- the first edge that a merged edge stands for is one of the table's
first-low : (edges : List TableEdge) (i : ℕ) → (get_or (merged edges) i no_merged_edge).first ≤ length edges
first-low edges i = go (ltb i (length (merged edges))) refl
  where
    go : (b : Bool) → ltb i (length (merged edges)) ≡ b → (get_or (merged edges) i no_merged_edge).first ≤ length edges
    go true e = omega (arith, (merged-first edges i (ltb-true i (length (merged edges)) e)).inside)
    go false e =
        omega (arith, ap (λ (x : MergedEdge). x.first) (get_or-eq_default (merged edges) no_merged_edge {n = i} (ltb-false i (length (merged edges)) e)))

-- a sign and a number
dummy-length : (turned : Bool) (edge : ℕ) → length (dummy_text turned edge) ≡ suc (length (decimal edge))
dummy-length true edge = refl
dummy-length false edge = refl

-- a point is a step or a dummy; the number that a dummy bears has at most three digits
point-short : (bytes : List ℕ) (steps : List Step) (ds : List Dummy) → ((i : ℕ) → i < length steps → FairStep bytes (get_or steps i no_step))
    → LowNumbers max_edges ds → (turned : List Bool) (p : ℕ) → length (label_text bytes steps ds turned p) < point_bytes
point-short bytes steps ds fair n turned p = go (ltb p (length steps)) refl
  where
    go : (b : Bool) → ltb p (length steps) ≡ b
        → length (cond b (step_text bytes (get_or steps p no_step)) (dummy_sign turned (get_or ds (p - length steps) no_dummy))) < point_bytes
    go true e = step-short bytes (get_or steps p no_step) (fair p (ltb-true p (length steps) e))
    go false e =
        let k = (get_or ds (p - length steps) no_dummy).edge in
        let low = n.low (p - length steps) in
        omega (arith, dummy-length (get_or turned k false) k, decimal-short 2 k (omega arith))

-- ---- the chart

head-short : (n m height sum crossings : ℕ) → n < tens 2 → m < tens 3 → height < tens 3 → sum < tens 8 → crossings < tens 6
    → length (head_text n m height sum crossings) ≤ head_bytes
unfolding blanked
head-short n m height sum crossings a b c d e =
    simp length-append
    (omega (arith, decimal-short 1 n a, decimal-short 2 m b, decimal-short 2 height c, decimal-short 7 sum d, decimal-short 5 crossings e))

-- a chart that is not refused: its table was read, its rows were found, and its points are few
record Drawable (bytes : List ℕ) (p : Placing) : Type 0 where
  fair : Fair bytes p.contents
  low : (v : ℕ) → at p.rows v ≤ top_row
  oriented_fair : FairEdges (length p.contents.steps) (oriented_in p.contents)
  few : point_count p.rows (drawn_in p.contents) ≤ max_points

module _ (bytes : List ℕ) (p : Placing) (h : Drawable bytes p) where
  abbrev steps_of : List Step
  steps_of = p.contents.steps

  abbrev edges-of : List Edge
  edges-of = oriented_in p.contents

  abbrev drawing : Drawing
  drawing = drawing_of p.rows (drawn_in p.contents)

  abbrev show : ℕ → List ℕ
  show = label_text bytes steps_of (dummies_in p) (turned_in p.contents)

  few_rows : row_count p.rows ≤ suc top_row
  few_rows = count_low top_row p.rows h.low

  sum_low : total edges-of (at p.rows) < tens 8
  sum_low =
      omega (
        arith,
        total_low edges-of (at p.rows) max_weight top_row (λ i b. ((h.oriented_fair.each i b).weight_low, h.low (get_or edges-of i no_edge).to)),
        mul-le-mul_right (max_weight * top_row) h.oriented_fair.few_edges,
      )

  few_crossings : drawing.crossings < tens 6
  few_crossings = omega (arith, crossings-low p.rows (drawn_in p.contents) (omega (arith, (drawn-among p.contents).few, h.oriented_fair.few_edges)) h.few)

  shown-short : (q : ℕ) → length (show q) < point_bytes
  shown-short =
      point-short bytes steps_of (dummies_in p) h.fair.each_step
      (numbers-low max_edges (merged p.contents.edges) (λ i. omega (arith, first-low p.contents.edges i, h.fair.few_edges)) (dummies p.rows 0 (drawn_in p.contents)))
      (turned_in p.contents)

  heading-short : length (head_text (length steps_of) (length p.contents.edges) (row_count p.rows) (total edges-of (at p.rows)) drawing.crossings) ≤ head_bytes
  heading-short =
      head-short (length steps_of) (length p.contents.edges) (row_count p.rows) (total edges-of (at p.rows)) drawing.crossings
      (omega (arith, h.fair.few_steps)) (omega (arith, h.fair.few_edges)) (omega (arith, few_rows)) sum_low few_crossings

  -- a line for each row, and each point in one of them
  lines-short : length (row_lines show 0 drawing.order) ≤ suc top_row * row_bytes + max_points * point_bytes
  lines-short =
      let rows = drawing-rows p.rows (drawn_in p.contents) in
      let points = drawing-count p.rows (drawn_in p.contents) in
      omega (arith, few_rows, h.few, rows_short point_bytes show shown-short 0 drawing.order (omega (arith, few_rows)))

  chart-short : length (chart_text bytes p) ≤ max_listing
  unfolding chart_text
  chart-short =
      let head = head_text (length steps_of) (length p.contents.edges) (row_count p.rows) (total edges-of (at p.rows)) drawing.crossings in
      rw (length-append head (row_lines show 0 drawing.order)) (omega (arith, heading-short, lines-short))

-- ---- the outcomes of a table

module _ (bytes : List ℕ) where
  drawable : {p : Placing} → chart_of_table bytes ≡ done p → Drawable bytes p
  unfolding chart_of_table
  drawable {p} e = go (read bytes) refl e
    where
      many : (t : Contents) (ys : List ℕ) (b : Bool) → read bytes ≡ done t → table_rows_found (length t.steps) t.edges ≡ done ys
          → leb (point_count ys (drawn_in t)) max_points ≡ b → demand b ManyPoints (done (record { contents = t; rows = ys })) ≡ done p → Drawable bytes p
      many t ys true r f l e =
          let fair = read-fair bytes r in
          let is : record { contents = t; rows = ys } ≡ p = cc in
          subst (Drawable bytes) is
          (record {
            fair = fair;
            low = λ v. subst (λ (l : List ℕ). at l v ≤ top_row) (sym (ranked-rows (length t.steps) t.edges f))
                (rows-top (length t.steps) (oriented_in t) fair.few_steps (λ i b. ((read-oriented bytes r).each i b).gap_low) v);
            oriented_fair = read-oriented bytes r;
            few = leb-true (point_count ys (drawn_in t)) max_points l;
          })
      many t ys false r f l e = never (sym e)

      found : (t : Contents) (o : Outcome (List ℕ)) → read bytes ≡ done t → table_rows_found (length t.steps) t.edges ≡ o
          → then_do o (λ ys. unless_many t ys) ≡ done p → Drawable bytes p
      found t (done ys) r f e = many t ys (leb (point_count ys (drawn_in t)) max_points) r f refl e
      found t (refused g) r f e = never (sym e)

      go : (o : Outcome Contents) → read bytes ≡ o
          → then_do o (λ t. then_do (table_rows_found (length t.steps) t.edges) (λ ys. unless_many t ys)) ≡ done p → Drawable bytes p
      go (done t) r e = found t (table_rows_found (length t.steps) t.edges) r refl e
      go (refused g) r e = never (sym e)

-- ---- the listing

pub listing-short : (bytes : List ℕ) → length (listing bytes) ≤ max_listing
unfolding listing
listing-short bytes = go (chart_of_table bytes) refl
  where
    go : (o : Outcome Placing) → chart_of_table bytes ≡ o → length (outcome_text bytes o) ≤ max_listing
    go (done p) e = chart-short bytes p (drawable bytes e)
    go (refused r) e = omega (arith, refusal-short r (omega (arith, chart-of-step bytes e)))

-- how long that is
pub longest-listing : max_listing ≡ 25109
longest-listing = refl
