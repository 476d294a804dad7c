-- The turns of the loop over pairs of passes: after each, two passes fewer are left, and when none is, or a pair moved nothing, the best
-- so far is the drawing.
use mathlib.Core.Path.{◌≡◌, refl, ◌∙◌}
use mathlib.Core.List.{List}
use Prim.Native.Nat.{ℕ, zero, suc, ◌+◌, ◌≤◌, ◌<◌}
use native.Mathlib.Omega.{arith}
use Rattle.passes.specs.Order.{downward}
use Rattle.passes.specs.Laid.{segments_in}
use Rattle.fewest.specs.Fewest.{pass_count}
use Rattle.fewest.specs.Drafts.{best_in, Scratch, Passable, Improving, Bettered, DrawingHeld}
use Rattle.fewest.proofs.FewestLaws.{rest_end}
use Rattle.fewest.proofs.DraftLaws.{best-held}

-- after k pairs as many passes are left as make up the whole
pub record Turning (row upper lower first : List ℕ) (k : ℕ) (order pos saved : List ℕ) (fewest : ℕ) : Type 0 where
  pub left : ℕ
  pub makes : left + (k + k) ≡ pass_count
  pub improving : Improving row upper lower first left downward order pos saved fewest

module _ {row upper lower first order pos saved : List ℕ} {fewest : ℕ} where
  pub turning-start : Improving row upper lower first pass_count downward order pos saved fewest → Turning row upper lower first 0 order pos saved fewest
  turning-start i = record { left = pass_count; makes = refl; improving = i }

  pub turning-passable : {k : ℕ} {totals moved : List ℕ} → Turning row upper lower first k order pos saved fewest → Scratch row totals moved
      → Passable row first order pos totals moved saved
  turning-passable t s = record { o = t.improving.o; laid = t.improving.laid; scratch = s; same = t.improving.same }

  pub turning-more : {k : ℕ} {order' pos' saved' : List ℕ} {fewest' : ℕ} → k < 4 → Turning row upper lower first k order pos saved fewest
      → Bettered row upper lower first order pos saved fewest order' pos' saved' fewest'
      → Turning row upper lower first (k + 1) order' pos' saved' fewest'
  turning-more {k} {order'} {pos'} {saved'} {fewest'} h t b = go t.left t.makes t.improving
    where
      go : (left : ℕ) → left + (k + k) ≡ pass_count → Improving row upper lower first left downward order pos saved fewest
          → Turning row upper lower first (k + 1) order' pos' saved' fewest'
      go zero e i = absurd (omega arith)
      go (suc zero) e i = absurd (omega arith)
      go (suc (suc left)) e i = record { left = left; makes = omega arith; improving = b.steps left i }

  -- no pass is left: the best so far is the drawing
  pub turning-end : {k : ℕ} → 4 ≤ k → Turning row upper lower first k order pos saved fewest → DrawingHeld (best_in row upper lower first) saved fewest
  turning-end {k} h t = go t.left (omega (arith, t.makes)) t.improving
    where
      go : (left : ℕ) → left ≤ 0 → Improving row upper lower first left downward order pos saved fewest → DrawingHeld (best_in row upper lower first) saved fewest
      go (suc left) e i = absurd (omega arith)
      go zero e i = best-held i (i.rest ∙ rest_end row (segments_in upper lower) i.best downward i.o)

  -- a pair of passes that moved nothing
  pub turning-still : {k : ℕ} {order' pos' saved' : List ℕ} {fewest' : ℕ} → k < 4 → Turning row upper lower first k order pos saved fewest
      → Bettered row upper lower first order pos saved fewest order' pos' saved' fewest' → order' ≡ order
      → DrawingHeld (best_in row upper lower first) saved' fewest'
  turning-still {k} {order'} {pos'} {saved'} {fewest'} h t b same = go t.left t.makes t.improving
    where
      go : (left : ℕ) → left + (k + k) ≡ pass_count → Improving row upper lower first left downward order pos saved fewest
          → DrawingHeld (best_in row upper lower first) saved' fewest'
      go zero e i = absurd (omega arith)
      go (suc zero) e i = absurd (omega arith)
      go (suc (suc left)) e i = b.still left i same
