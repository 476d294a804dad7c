-- Row r settled in the lists of an order.
use mathlib.Core.Path.{◌≡◌, sym, ap, ◌∙◌, subst}
use mathlib.Core.List.{List, []}
use Prim.Native.Nat.{ℕ, ◌+◌, ◌≤◌, ◌<◌}
use native.Mathlib.Omega.{arith}
use lib.ListN.{length, get_or, set}
use lib.Seq.{get_or-set_same}
use Rattle.graph.specs.Rows.{at}
use Rattle.barycentre.specs.Means.{reorder}
use Rattle.points.specs.Positions.{place, row_at}
use Rattle.passes.specs.Order.{settle_row}
use Rattle.barycentre.specs.Flat.{ends_in, arranged_by}
use Rattle.buffers.specs.Lists.{Below}
use Rattle.buffers.proofs.ListLaws.{below-higher}
use Rattle.barycentre.specs.Bounds.{EndsSummable, RowSummable, RowCounted}
use Rattle.barycentre.specs.Steps.{Totalled}
use Rattle.passes.specs.Laid.{stored, Ranked, Laid, SegmentEnds, Standing, Changed, ChangedBy}
use Rattle.barycentre.proofs.CountLaws.{counts-low, listed-ends}
use Rattle.barycentre.proofs.TotalLaws.{totalled-ends}
use Rattle.barycentre.proofs.ReorderLaws.{reorder-occurs, reorder-length}
use Rattle.barycentre.proofs.EndsLaws.{reorder-agree, arranged_is}
use Rattle.passes.proofs.PositionLaws.{position-low}
use Rattle.passes.proofs.LaidLaws.{with_row, points-end, points-below, row-part, row-rises, row_inside, row-short, put-ranked, put-laid}

-- the settled row
abbrev settled : List ℕ → List ℕ → List ℕ → List (List ℕ) → ℕ → List ℕ
settled near far ys o r = reorder (ends_in near far) (place ys o) (get_or o r [])

-- the points of row r are points
row_below : {ys order first pos : List ℕ} {o : List (List ℕ)} {count r n : ℕ} → Laid ys count o order first pos → r < count → length ys ≤ n
    → Below n (row_at first order r)
row_below {ys} {order} {first} {o = o} {count} {r} {n} h l k =
    subst (Below n) (sym (row-part ys count o order first h.ranked r l)) (points-below ys count o order first h.ranked r l n k)

-- Row r as the code puts it in order is the settled row: the positions in `pos` are the places of the points, and the ends are points.
-- It has the points of the old row, so that the lists are those of the settled order once its positions are stored.
module _ {near far head next counts first order pos totals : List ℕ} {count r : ℕ} (l : r < count) (ends : SegmentEnds (at first count) near far head next counts)
    (sums : Totalled (row_at first order r) head next far pos totals) where
  arranged-settled : (ys : List ℕ) (o : List (List ℕ)) → Laid ys count o order first pos → arranged_by totals counts (row_at first order r) ≡ settled near far ys o r
  arranged-settled ys o h =
      let n : at first count ≡ length ys = points-end ys count o order first h.ranked in
      arranged_is near far pos totals counts (row_at first order r)
      (totalled-ends ends.one_each ends.linked (row_below h l (omega (arith, ends.heads_long))) sums) ends.counted
      (row_below h l (omega (arith, ends.counts_long)))
      ∙ ap (reorder (ends_in near far) (at pos)) (row-part ys count o order first h.ranked r l)
      ∙ reorder-agree near far (at pos) (place ys o) (length ys) (get_or o r []) h.places (omega (arith, ends.one_each)) (below-higher ends.far_in (omega arith))

  pub settle-changed : {now order' pos' : List ℕ} → now ≡ arranged_by totals counts (row_at first order r) → order' ≡ with_row first order r now
      → pos' ≡ stored 0 now pos
      → Changed count (λ ys. settle_row (ends_in near far) ys r) first order pos order' pos'
  unfolding settle_row
  settle-changed {now} {order'} {pos'} en eo ep = record { laid = laid }
    where
      laid : (ys : List ℕ) (o : List (List ℕ)) → Laid ys count o order first pos → Laid ys count (settle_row (ends_in near far) ys r o) order' first pos'
      laid ys o h =
          let s : List ℕ = settled near far ys o r in
          let occ = reorder-occurs (ends_in near far) (place ys o) (get_or o r []) in
          let len = reorder-length (ends_in near far) (place ys o) (get_or o r []) in
          let eo' : order' ≡ with_row first order r s = eo ∙ ap (with_row first order r) (en ∙ arranged-settled ys o h) in
          subst (λ (x : List ℕ). Laid ys count (set o r s) x first pos') (sym eo')
          (subst (λ (x : List ℕ). Laid ys count (set o r s) (with_row first order r s) first x) (sym (ep ∙ ap (λ (t : List ℕ). stored 0 t pos) (en ∙ arranged-settled ys o h)))
          (put-laid ys count o order first pos h r l s occ len))

-- So it is whatever the near ends are, of which the lists were made.
pub settle-changes : {far head next counts first order pos totals now order' pos' : List ℕ} {count r : ℕ} → r < count
    → Totalled (row_at first order r) head next far pos totals → now ≡ arranged_by totals counts (row_at first order r)
    → order' ≡ with_row first order r now → pos' ≡ stored 0 now pos
    → ChangedBy far head next counts count (λ near ys. settle_row (ends_in near far) ys r) first order pos order' pos'
settle-changes l t en eo ep = record { by = λ near ends. settle-changed l ends t en eo ep }

-- What the functions over a row ask for.
module _ {far head next counts order first pos totals moved : List ℕ} {count : ℕ} (s : Standing far head next counts count order first pos totals moved) where
  end_is : at first count ≡ length s.ys
  end_is = points-end s.ys count s.o order first s.laid.ranked

  ends-summable : EndsSummable next far pos
  ends-summable =
      record {
        falls = s.ends.linked.falls;
        one_each = s.ends.linked.long ∙ s.ends.one_each;
        far_in = below-higher s.ends.far_in (omega (arith, end_is, s.laid.pos_long));
        low = λ k h. omega (arith, position-low s.laid (at far k) (omega (arith, s.ends.far_in.below k h, end_is)), s.ends.few_points, end_is);
      }

  module _ {r : ℕ} (l : r < count) where
    pub starts-rise : at first r ≤ at first (r + 1)
    starts-rise = row-rises s.ys count s.o order first s.laid.ranked r l

    pub ends-within : at first (r + 1) ≤ length order
    ends-within = omega (arith, row_inside s.ys count s.o order first s.laid.ranked r l, s.laid.ranked.order_long)

    pub first-within : r + 1 < length first
    first-within = omega (arith, s.laid.ranked.first_long)

    pub row-summable : RowSummable (row_at first order r) head next far pos totals
    row-summable =
        record {
          ends = ends-summable;
          heads_in = s.ends.linked.heads_in;
          few = λ p h. omega (arith, listed-ends s.ends.linked p h, s.ends.few_ends p);
          headed = row_below s.laid l (omega (arith, end_is, s.ends.heads_long));
          room = row_below s.laid l (omega (arith, end_is, s.totals_long));
        }

    pub row_counted : RowCounted (row_at first order r) counts moved
    row_counted =
        record {
          counted = row_below s.laid l (omega (arith, end_is, s.ends.counts_long));
          few = λ i h. counts-low s.near far counts s.ends.few_ends s.ends.counted (at (row_at first order r) i) ((row_below {n = length counts} s.laid l (omega (arith, end_is, s.ends.counts_long))).below i h);
          room = rw (row-part s.ys count s.o order first s.laid.ranked r l) (omega (arith, row-short s.ys count s.o order first s.laid.ranked r l, end_is, s.moved_long));
        }

    -- the order with the row put in order
    module _ {sums : List ℕ} (t : Totalled (row_at first order r) head next far pos sums) {now : List ℕ} (e : now ≡ arranged_by sums counts (row_at first order r)) where
      now-settled : now ≡ settled s.near far s.ys s.o r
      now-settled = e ∙ arranged-settled l s.ends t s.ys s.o s.laid

      now-ranked : Ranked s.ys count (set s.o r now) (with_row first order r now) first
      now-ranked =
          subst (λ (x : List ℕ). Ranked s.ys count (set s.o r x) (with_row first order r x) first) (sym now-settled)
          (put-ranked s.ys count s.o order first s.laid.ranked r l (settled s.near far s.ys s.o r)
          (reorder-occurs (ends_in s.near far) (place s.ys s.o) (get_or s.o r []))
          (reorder-length (ends_in s.near far) (place s.ys s.o) (get_or s.o r [])))

      pub now-points : Below (length pos) now
      now-points =
          subst (Below (length pos)) (get_or-set_same s.o r now [] (rw s.laid.ranked.rows l))
          (points-below s.ys count (set s.o r now) (with_row first order r now) first now-ranked r l (length pos) s.laid.pos_long)
