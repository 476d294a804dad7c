-- From a table's chart to the call: what it gives the page, the line of a refusal, a buffer that is short, and one that is not.
use mathlib.Core.Path.{◌≡◌, refl, ap, ◌∙◌}
use mathlib.Core.Bool.{Bool, true, false, cond}
use mathlib.Core.List.{List, [], ◌∷◌, ◌++◌}
use Prim.Native.Nat.{ℕ, ◌≤◌, ◌<◌}
use native.Mathlib.Omega.{arith}
use borrow.Author.Tests.{le-leb, lt-leb, leb-true}
use lib.Dec.{leb}
use lib.ListN.{length, get_or, drop, length-append}
use Rattle.std.specs.Prelude.{Ok, Err}
use Rattle.outcome.specs.declared.Refusal.{Refusal}
use Rattle.outcome.specs.declared.Refusal.TheVariants.{ShortBuffer}
use Rattle.outcome.specs.Refusal.{refused, number_of, refusal_in}
use Rattle.table.specs.Calls.{contents_in}
use Rattle.table.proofs.FairLaws.{read-fair}
use Rattle.table.specs.declared.types.Step.{Step}
use Rattle.merging.specs.declared.MergedEdge.{MergedEdge}
use Rattle.merging.specs.Merged.{merged, drawn_edges}
use Rattle.points.specs.declared.dummy.Dummy.{Dummy}
use Rattle.points.specs.Limits.{max_points}
use Rattle.points.specs.Points.{dummies}
use Rattle.labels.specs.Labels.{Labelled, label_text}
use Rattle.labels.proofs.PageLaws.{Parts}
use Rattle.ordering.specs.declared.types.TableChart.{TableChart}
use Rattle.ordering.specs.Calls.{Placing, chart_of_table}
use Rattle.ordering.proofs.OpenedLaws.{Opened, directed-fair}
use Rattle.lines.specs.Lines.{refusal_text}
use Rattle.lines.specs.Printing.{lines_from, numbered, dummy_rows, Layable, Printable}
use Rattle.listing.specs.Listing.{head_text, dummies_in, outcome_text, listing}
use Rattle.listing.specs.Widths.{max_listing}
use Rattle.listing.specs.Calls.{ListingEnd, listing_call, listing_numbers}
use Rattle.listing.proofs.PageLaws.{Printed, page-layable, page-labelled, page-printable, page-parts}
use Rattle.listing.proofs.WidthLaws.{listing-short}

-- the front of a text is no longer than all of it
front-short : {whole front back : List ℕ} → Parts whole front back → length front ≤ length whole
front-short {whole} {front} {back} p = omega (arith, ap length p.is, length-append front back)

-- ---- a table that has a chart

-- the table and its rows
abbrev pub placed : TableChart → Placing
placed r = record { contents = contents_in r.table; rows = r.chart.rows.items }

module _ {bytes : List ℕ} {r : TableChart} (o : Opened bytes r) where
  pub chart-printed : Printed bytes (placed r)
  chart-printed = record { fair = read-fair bytes o.said; fair_edges = directed-fair o; best = o.best; few = omega (arith, o.points_are, o.few_points) }

  -- laying the dummies of its edges as they are drawn
  module _ {list : List MergedEdge} {flags : List Bool} {ys : List ℕ} (a : list ≡ merged r.table.edges.items) (b : flags ≡ r.turned.items) (c : ys ≡ r.chart.rows.items) where
    pub given-layable : Layable list flags ys max_points
    given-layable = rw (a, b, c, o.flags_are) (page-layable chart-printed)

    pub given-dummies : {ds : List Dummy} → ds ≡ numbered list (dummies ys 0 (drawn_edges flags list)) → ds ≡ dummies_in (placed r)
    given-dummies e = e ∙ rw (a, b, c, o.flags_are)

  -- and printing its rows
  module _ {steps : List Step} {ds : List Dummy} (a : steps ≡ r.table.steps.items) (b : ds ≡ dummies_in (placed r)) where
    pub given-labelled : {flags : List Bool} → flags ≡ r.turned.items → Labelled bytes steps ds flags
    given-labelled c = rw (a, b, c, o.flags_are) (page-labelled chart-printed)

    module _ {ys order : List ℕ} (d : ys ≡ r.chart.rows.items) (e : order ≡ r.chart.order.items) where
      pub given-printable : Printable (length steps) (length ds) ys order
      given-printable = rw (a, b, d, e, o.order_is) (page-printable chart-printed)

      -- line one and the lines of the rows are the listing
      pub given-parts : {flags : List Bool} {n m : ℕ} → flags ≡ r.turned.items → n ≡ length r.table.steps.items → m ≡ length r.table.edges.items
          → Parts (listing bytes) (head_text n m r.chart.height r.chart.total r.chart.crossings) (lines_from (label_text bytes steps ds flags) (ys ++ dummy_rows ds) 0 r.chart.height order)
      unfolding listing
      given-parts c f g =
          rw (a, b, c, d, e, f, g, o.flags_are, o.order_is, o.height_is, o.total_is, o.crossings_are)
          (record { is = ap (outcome_text bytes) o.is ∙ (page-parts chart-printed).is })

  -- line one alone is no longer than the listing may be
  pub given-head : {n m : ℕ} → n ≡ length r.table.steps.items → m ≡ length r.table.edges.items
      → length (head_text n m r.chart.height r.chart.total r.chart.crossings) ≤ max_listing
  given-head f g =
      let p = given-parts {steps = r.table.steps.items} {ds = dummies_in (placed r)} refl refl {ys = r.chart.rows.items} {order = r.chart.order.items} refl refl {flags = r.turned.items} refl f g in
      omega (arith, front-short p, listing-short bytes)

-- ---- a refusal

module _ (bytes : List ℕ) {f : Refusal} (e : chart_of_table bytes ≡ refused f) where
  pub refusal_is : listing bytes ≡ refusal_text f
  unfolding listing
  refusal_is = ap (outcome_text bytes) e

  pub refusal-fits : length (refusal_text f) ≤ max_listing
  refusal-fits = omega (arith, listing-short bytes, ap length refusal_is)

-- ---- the buffer

module _ (bytes old : List ℕ) {page : List ℕ} {len : ℕ} (is : page ≡ listing bytes) (n : len ≡ length page) where
  pub call-short : length old < len → (listing_numbers (Err (record { needed = len })) ≡ (listing_call bytes old).numbers) × (old ≡ (listing_call bytes old).out)
  unfolding listing_call
  call-short h =
      let b = lt-leb (length (listing bytes)) (length old) (omega (arith, ap length is)) in
      (rw (b, n, is), rw b)

  pub call-written : {new : List ℕ} → len ≤ length old → new ≡ page ++ drop len old
      → (listing_numbers (Ok len) ≡ (listing_call bytes old).numbers) × (new ≡ (listing_call bytes old).out)
  unfolding listing_call
  call-written h e =
      let b = le-leb (length (listing bytes)) (length old) (omega (arith, ap length is)) in
      (rw (b, n, is), rw b (e ∙ rw (n, is)))

-- ---- for a layer above

-- what is written lies in the buffer
pub call_fits : (bytes old : List ℕ) {len : ℕ} → listing_numbers (Ok len) ≡ (listing_call bytes old).numbers → len ≤ length old
unfolding listing_call
call_fits bytes old {len} e = go (leb (length (listing bytes)) (length old)) refl e
  where
    go : (b : Bool) → leb (length (listing bytes)) (length old) ≡ b
        → 0 ∷ len ∷ [] ≡ (cond {A = ListingEnd} b
        (record { numbers = 0 ∷ length (listing bytes) ∷ []; out = listing bytes ++ drop (length (listing bytes)) old })
        (record { numbers = number_of ShortBuffer ∷ length (listing bytes) ∷ []; out = old })).numbers → len ≤ length old
    go true t e = omega (arith, ap (λ l. get_or l 1 0) e, leb-true (length (listing bytes)) (length old) t)
    go false t e = absurd (omega (arith, ap refusal_in e))

-- and a buffer with room for any listing is never short
pub call-whole : (bytes old : List ℕ) → max_listing ≤ length old → (listing_call bytes old).numbers ≡ 0 ∷ length (listing bytes) ∷ []
unfolding listing_call
call-whole bytes old h = rw (le-leb (length (listing bytes)) (length old) (omega (arith, listing-short bytes)))
