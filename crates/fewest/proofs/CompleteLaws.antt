-- The order of a drawing has an entry for each point, and each entry is a point. The start order has, and a row put in order keeps its
-- points; so every result of a pass has, and one of these is handed out.
use mathlib.Core.Path.{◌≡◌, refl, sym, ap, ◌∙◌}
use mathlib.Core.Bool.{Bool, true, false, cond}
use mathlib.Core.List.{List, [], ◌∷◌, ◌++◌, map, flatten}
use Prim.Native.Nat.{ℕ, zero, suc, ◌+◌, ◌-◌, ◌≤◌, ◌<◌, suc-le-suc}
use native.Mathlib.Nat.{not-suc-le-zero, le_of_suc-le-suc, zero-lt-suc}
use native.Mathlib.Omega.{arith}
use lib.Dec.{ltb, eqb}
use lib.ListN.{length, get_or}
use lib.Seq.{take_all, length-take-le}
use Rattle.graph.specs.declared.Edge.{Edge}
use Rattle.graph.specs.Rows.{at}
use Rattle.graph.specs.Search.{run}
use Rattle.points.specs.Points.{Segment, between, point_rows, segments, row_count}
use Rattle.barycentre.specs.Means.{reorder}
use Rattle.passes.specs.Order.{Direction, downward, upward, turned, start_order, settle_row, down_from, up_from, pass, results}
use Rattle.points.specs.Positions.{place}
use Rattle.barycentre.specs.PointEnds.{ends_above, ends_below}
use Rattle.fewest.specs.Fewest.{Drawing, drawn, fewest, pass_count, best_order, drawing_of}
use Rattle.buffers.specs.Lists.{Below, occurs}
use Rattle.passes.specs.Starts.{starts}
use Rattle.passes.specs.Laid.{Ranked}
use Rattle.points.proofs.EdgeLaws.{dummy_rows}
use Rattle.points.proofs.PointLaws.{rows_are}
use Rattle.buffers.proofs.OccursLaws.{row_below, flat-none}
use Rattle.barycentre.proofs.ReorderLaws.{reorder-occurs, reorder-length}
use Rattle.passes.proofs.StartLaws.{order-length, starts-length, starts-at}
use Rattle.passes.proofs.OnceLaws.{order-count}
use Rattle.passes.proofs.RankedLaws.{start-ranked}
use Rattle.passes.proofs.LaidLaws.{with_row, put-ranked}

-- ---- every point is in a row below the number of rows

node_row : (ys : List ℕ) (i : ℕ) → i < length ys → at ys i < row_count ys
unfolding row_count
node_row [] i h = absurd (not-suc-le-zero h)
node_row (y ∷ ys) zero h = omega arith
node_row (y ∷ ys) (suc i) h = omega (arith, node_row ys i (le_of_suc-le-suc h))

any-row : (ys : List ℕ) (i : ℕ) → at ys i ≤ row_count ys
unfolding row_count
any-row [] i = omega arith
any-row (y ∷ ys) zero = omega arith
any-row (y ∷ ys) (suc i) = omega (arith, any-row ys i)

below-cons : (n x : ℕ) (xs : List ℕ) → x < n → Below n xs → Below n (x ∷ xs)
below-cons n x xs h b = record { below = go }
  where
    go : (i : ℕ) → i < length (x ∷ xs) → at (x ∷ xs) i < n
    go zero l = h
    go (suc i) l = b.below i (le_of_suc-le-suc l)

below-append : (n : ℕ) (xs zs : List ℕ) → Below n xs → Below n zs → Below n (xs ++ zs)
below-append n [] zs a b = b
below-append n (x ∷ xs) zs a b =
    below-cons n x (xs ++ zs) (a.below zero (zero-lt-suc (length xs)))
    (below-append n xs zs (record { below = λ i l. a.below (suc i) (suc-le-suc l) }) b)

below-run : (n a k : ℕ) → a + k ≤ n → Below n (run a k)
unfolding run
below-run n a zero h = record { below = λ i l. absurd (not-suc-le-zero l) }
below-run n a (suc k) h = below-cons n a (run (suc a) k) (omega arith) (below-run n (suc a) k (omega arith))

-- the dummies of an edge are above its head
dummies-below : (ys : List ℕ) (edges : List Edge) → Below (row_count ys) (dummy_rows ys edges)
unfolding dummy_rows run
dummies-below ys [] = record { below = λ i l. absurd (not-suc-le-zero l) }
dummies-below ys (e ∷ edges) =
    below-append (row_count ys) (run (suc (at ys e.from)) (between ys e)) (dummy_rows ys edges) (go (between ys e) refl) (dummies-below ys edges)
  where
    go : (k : ℕ) → between ys e ≡ k → Below (row_count ys) (run (suc (at ys e.from)) k)
    go zero w = record { below = λ i l. absurd (not-suc-le-zero l) }
    go (suc k) w = below-run (row_count ys) (suc (at ys e.from)) (suc k) (omega (arith, w, any-row ys e.to))

pub points-below : (ys : List ℕ) (edges : List Edge) → Below (row_count ys) (point_rows ys edges)
points-below ys edges =
    rw (rows_are ys edges) (below-append (row_count ys) ys (dummy_rows ys edges) (record { below = node_row ys }) (dummies-below ys edges))

-- ---- orders with each point once, in its row

record Complete (ys : List ℕ) (count : ℕ) (first : List ℕ) (o : List (List ℕ)) : Type 0 where
  order : List ℕ
  ranked : Ranked ys count o order first

module _ (ys : List ℕ) (count : ℕ) (first : List ℕ) where
  settled : (ends : ℕ → List ℕ) (r : ℕ) (o : List (List ℕ)) → r < count → Complete ys count first o → Complete ys count first (settle_row ends ys r o)
  unfolding settle_row
  settled ends r o l c =
      let new : List ℕ = reorder ends (place ys o) (get_or o r []) in
      record {
        order = with_row first c.order r new;
        ranked =
            put-ranked ys count o c.order first c.ranked r l new (reorder-occurs ends (place ys o) (get_or o r []))
            (reorder-length ends (place ys o) (get_or o r []));
      }

  down : (ends : ℕ → List ℕ) (r k : ℕ) (o : List (List ℕ)) → ((j : ℕ) → j < k → r + j < count) → Complete ys count first o
      → Complete ys count first (down_from ends ys r k o)
  unfolding down_from
  down ends r zero o h c = c
  down ends r (suc k) o h c =
      down ends (suc r) k (settle_row ends ys r o) (λ j l. omega (arith, h (suc j) (suc-le-suc l)))
      (settled ends r o (omega (arith, h zero (zero-lt-suc k))) c)

  up : (ends : ℕ → List ℕ) (r : ℕ) (o : List (List ℕ)) → r ≤ count → Complete ys count first o → Complete ys count first (up_from ends ys r o)
  unfolding up_from
  up ends zero o h c = c
  up ends (suc r) o h c = up ends r (settle_row ends ys r o) (omega arith) (settled ends r o (omega arith) c)

  module _ (segs : List Segment) where
    passed : (d : Direction) (o : List (List ℕ)) → Complete ys count first o → Complete ys count first (pass segs ys d o)
    passed downward o c = down (ends_above segs) 1 (length o - 1) o (λ j l. omega (arith, c.ranked.rows)) c
    passed upward o c = up (ends_below segs) (length o - 1) o (omega (arith, c.ranked.rows)) c

    best_of : (k : ℕ) (d : Direction) (o : List (List ℕ)) (b : Drawing) → Complete ys count first o → Complete ys count first b.order
        → Complete ys count first (fewest b (map (drawn ys segs) (results segs ys k d o))).order
    unfolding fewest results drawn
    best_of zero d o b c e = e
    best_of (suc k) d o b c e =
        best_of k (turned d) (pass segs ys d o) (cond (ltb (drawn ys segs (pass segs ys d o)).crossings b.crossings) (drawn ys segs (pass segs ys d o)) b)
        (passed d o c) (pick (ltb (drawn ys segs (pass segs ys d o)).crossings b.crossings))
      where
        pick : (t : Bool) → Complete ys count first (cond t (drawn ys segs (pass segs ys d o)) b).order
        pick true = passed d o c
        pick false = e

start-complete : (count : ℕ) (ys : List ℕ) → Below count ys → Complete ys count (starts (start_order count ys)) (start_order count ys)
start-complete count ys b =
    let o = start_order count ys in
    let n = order-count count ys b in
    record {
      order = flatten o;
      ranked =
          start-ranked count ys (flatten o) (starts o) b (take_all (length ys) (flatten o) (omega arith)) (omega arith)
          (omega (arith, starts-length count ys)) (λ r h. starts-at o r (omega (arith, order-length count ys)));
    }

-- ---- the order that is handed out

-- It has a list for each row, and in that list each point of the row once and nothing else.
module _ (count : ℕ) (ys : List ℕ) (segs : List Segment) (b : Below count ys) where
  best-complete : Complete ys count (starts (start_order count ys)) (best_order count ys segs).order
  unfolding best_order drawn
  best-complete =
      let c = start-complete count ys b in
      best_of ys count (starts (start_order count ys)) segs pass_count downward (start_order count ys) (drawn ys segs (start_order count ys)) c c

  -- so it has as many entries as there are points
  pub best-count : length (flatten (best_order count ys segs).order) ≡ length ys
  best-count = let c = best-complete in sym (ap length c.ranked.flat) ∙ length-take-le (length ys) c.order c.ranked.order_long

  -- and each is a point
  pub best-points : (i : ℕ) → i < length ys → at (flatten (best_order count ys segs).order) i < length ys
  best-points i l =
      row_below (length ys) (flatten (best_order count ys segs).order)
      (λ p h. flat-none p (best_order count ys segs).order (λ r. best-complete.ranked.none p r h)) i (omega (arith, best-count))

-- the same of the drawing of a chart
module _ (ys : List ℕ) (edges : List Edge) where
  complete : Complete (point_rows ys edges) (row_count ys) (starts (start_order (row_count ys) (point_rows ys edges))) (drawing_of ys edges).order
  unfolding drawing_of
  complete = best-complete (row_count ys) (point_rows ys edges) (segments ys edges) (points-below ys edges)

  pub drawing-rows : length (drawing_of ys edges).order ≡ row_count ys
  drawing-rows = complete.ranked.rows

  pub drawing-once : (p r : ℕ) → p < length (point_rows ys edges) → occurs p (get_or (drawing_of ys edges).order r []) ≡ cond (eqb (at (point_rows ys edges) p) r) 1 0
  drawing-once p r h = complete.ranked.once p r h

  pub drawing-none : (p r : ℕ) → length (point_rows ys edges) ≤ p → occurs p (get_or (drawing_of ys edges).order r []) ≡ 0
  drawing-none p r h = complete.ranked.none p r h

  pub drawing-count : length (flatten (drawing_of ys edges).order) ≡ length (point_rows ys edges)
  unfolding drawing_of
  drawing-count = best-count (row_count ys) (point_rows ys edges) (segments ys edges) (points-below ys edges)

  pub drawing-points : (i : ℕ) → i < length (point_rows ys edges) → at (flatten (drawing_of ys edges).order) i < length (point_rows ys edges)
  unfolding drawing_of
  drawing-points = best-points (row_count ys) (point_rows ys edges) (segments ys edges) (points-below ys edges)
