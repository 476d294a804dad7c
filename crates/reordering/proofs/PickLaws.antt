-- The segments from a row, picked from all.
use mathlib.Core.Path.{◌≡◌, refl, sym, ap, ◌∙◌}
use mathlib.Core.Bool.{Bool, true, false, cond}
use mathlib.Core.List.{List, [], ◌∷◌, ◌++◌, map, map-append, append_assoc, append-nil, tail}
use Prim.Native.Nat.{ℕ, suc, ◌+◌, ◌≤◌, ◌<◌}
use native.Mathlib.Omega.{arith}
use lib.Dec.{eqb}
use lib.ListN.{length, drop, length-append}
use borrow.Author.Tests.{eq-eqb, ne_eqb}
use Rattle.graph.specs.Rows.{at}
use Rattle.buffers.proofs.WriteLaws.{drop-turn, drop-end}
use Rattle.points.specs.Points.{Segment}
use Rattle.crossings.specs.Crossings.{PlacedSegment, in_row}
use Rattle.crossings.specs.Between.{segment_to}
use Rattle.pairs.specs.declared.ends.Ends.{Ends}
use Rattle.pairs.specs.Segments.{placed_end, placed}
use Rattle.passes.specs.Laid.{segments_in}
use Rattle.reordering.specs.Picking.{placed_in, starting_in}

-- ---- one segment

row-turn : (r : ℕ) (s : PlacedSegment) (l : List PlacedSegment) → in_row r (s ∷ l) ≡ in_row r (s ∷ []) ++ in_row r l
unfolding in_row
row-turn r s l = go (eqb s.row r)
  where
    go : (b : Bool) → cond b (s ∷ in_row r l) (in_row r l) ≡ cond b (s ∷ []) [] ++ in_row r l
    go true = refl
    go false = refl

module _ (row pos : List ℕ) (r u l : ℕ) where
  abbrev segment : PlacedSegment
  segment = placed_in row pos (record { upper = u; lower = l })

  segment-in : at row u ≡ r → in_row r (segment ∷ []) ≡ placed_end r (record { upper = at pos u; lower = at pos l }) ∷ []
  unfolding in_row
  segment-in e = rw (eq-eqb (at row u) r e) (ap (λ (q : ℕ). segment_to q (at pos u) (at pos l) ∷ []) e)

  segment-out : (at row u ≡ r → ⊥) → in_row r (segment ∷ []) ≡ []
  unfolding in_row
  segment-out n = rw (ne_eqb (at row u) r n) refl

-- ---- the loop

-- the segment at k
abbrev segment_at : List ℕ → List ℕ → ℕ → Segment
segment_at upper lower k = record { upper = at upper k; lower = at lower k }

module _ (upper lower row pos : List ℕ) (r : ℕ) where
  -- those of the segments from k on
  abbrev pub picked : ℕ → List PlacedSegment
  picked k = starting_in (drop k upper) (drop k lower) row pos r

  picked-turn : (k : ℕ) → k < length upper → length lower ≡ length upper → picked k ≡ in_row r (placed_in row pos (segment_at upper lower k) ∷ []) ++ picked (k + 1)
  unfolding segments_in
  picked-turn k h e =
      ap (λ (us : List ℕ). starting_in us (drop k lower) row pos r) (drop-turn upper k h)
      ∙ ap (λ (ls : List ℕ). starting_in (at upper k ∷ drop (k + 1) upper) ls row pos r) (drop-turn lower k (omega arith))
      ∙ row-turn r (placed_in row pos (segment_at upper lower k)) (map (placed_in row pos) (segments_in (drop (k + 1) upper) (drop (k + 1) lower)))

  picked-end : (k : ℕ) → length upper ≤ k → picked k ≡ []
  unfolding in_row segments_in
  picked-end k h = ap (λ (us : List ℕ). starting_in us (drop k lower) row pos r) (drop-end upper k h)

pub segments-count : (upper lower : List ℕ) → length (segments_in upper lower) ≡ length upper
unfolding segments_in
segments-count [] lower = refl
segments-count (u ∷ upper) lower = ap suc (segments-count upper (tail lower))

-- What is picked and the segments of the row from k on make the whole.
pub record Picking (upper lower row pos : List ℕ) (r : ℕ) (ends : List Ends) (k : ℕ) : Type 0 where
  pub early : length ends ≤ k
  pub whole : starting_in upper lower row pos r ≡ placed r ends ++ picked upper lower row pos r k

pub picking-start : (upper lower row pos : List ℕ) (r : ℕ) → Picking upper lower row pos r [] 0
picking-start upper lower row pos r = record { early = omega arith; whole = refl }

module _ (upper lower row pos : List ℕ) (r : ℕ) (ends : List Ends) (k : ℕ) (p : Picking upper lower row pos r ends k) where
  abbrev pub end_at : Ends
  end_at = record { upper = at pos (at upper k); lower = at pos (at lower k) }

  pub picking_in : k < length upper → length lower ≡ length upper → at row (at upper k) ≡ r → Picking upper lower row pos r (ends ++ (end_at ∷ [])) (k + 1)
  picking_in h both e = record {
    early = omega (arith, p.early, length-append ends (end_at ∷ []));
    whole = p.whole
        ∙ ap (λ (l : List PlacedSegment). placed r ends ++ l)
        (picked-turn upper lower row pos r k h both ∙ ap (λ (l : List PlacedSegment). l ++ picked upper lower row pos r (k + 1)) (segment-in row pos r (at upper k) (at lower k) e))
        ∙ sym (append_assoc (placed r ends) (placed_end r end_at ∷ []) (picked upper lower row pos r (k + 1)))
        ∙ ap (λ (l : List PlacedSegment). l ++ picked upper lower row pos r (k + 1)) (sym (map-append (placed_end r) ends (end_at ∷ [])));
  }

  pub picking-out : k < length upper → length lower ≡ length upper → (at row (at upper k) ≡ r → ⊥) → Picking upper lower row pos r ends (k + 1)
  picking-out h both n = record {
    early = omega (arith, p.early);
    whole = p.whole
        ∙ ap (λ (l : List PlacedSegment). placed r ends ++ l)
        (picked-turn upper lower row pos r k h both ∙ ap (λ (l : List PlacedSegment). l ++ picked upper lower row pos r (k + 1)) (segment-out row pos r (at upper k) (at lower k) n));
  }

  pub picking-end : length upper ≤ k → placed r ends ≡ starting_in upper lower row pos r
  picking-end h = sym (p.whole ∙ ap (λ (l : List PlacedSegment). placed r ends ++ l) (picked-end upper lower row pos r k h) ∙ append-nil (placed r ends))
