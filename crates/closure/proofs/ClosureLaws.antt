-- Why one edge more is put into the matrix rightly.
use mathlib.Core.Path.{◌≡◌, refl, sym, ◌∙◌, subst}
use mathlib.Core.Logic.{◌⊎◌, inl, inr, ⊎_elim}
use mathlib.Core.Bool.{Bool, true, false, ◌||◌, true≢false}
use mathlib.Core.List.{List, [], ◌∷◌}
use Prim.Native.Nat.{ℕ, zero, suc, ◌+◌, ◌*◌, ◌<◌}
use native.Mathlib.Nat.{le_of_suc-le-suc}
use native.Mathlib.Decide.{ℕ_discrete}
use native.Mathlib.Omega.{arith}
use lib.ListN.{get_or, take, replicate}
use lib.Seq.{get_or-take}
use Rattle.graph.specs.declared.Edge.{Edge}
use Rattle.graph.specs.Rows.{Within}
use Rattle.buffers.proofs.ListLaws.{blank-at}
use Rattle.acyclic.specs.Loops.{Walk}
use Rattle.acyclic.specs.Loops as loops
use Rattle.acyclic.proofs.RunLaws.{Reach, walk-join, walk-replace, runs-cons, runs_same, walk-later, walk_split, walk-over}
use Rattle.closure.specs.Closure.{Marked, ClosureRow, Closure, Fresh, OnwardMarks, RowExtended, Extended, Added}
use Rattle.closure.proofs.CellLaws.{Apart, before, behind, cell_apart}
use Rattle.closure.proofs.MarkLaws.{Overlaid}

-- ---- one row

-- a row is a matter of its own marks
pub row_same : {n : ℕ} {stand : List Edge} {u : ℕ} {old new : List Bool} → ((v : ℕ) → v < n → get_or new (u * n + v) false ≡ get_or old (u * n + v) false)
    → ClosureRow n stand u old → ClosureRow n stand u new
row_same same r =
    record { sound = λ v h p. r.sound v h (sym (same v h) ∙ p); full = λ v h w. same v h ∙ r.full v h w }

-- of two marks
or-set : (a b : Bool) → (a ≡ true) ⊎ (b ≡ true) → a || b ≡ true
or-set true b p = refl
or-set false b p = ⊎_elim (λ q. absurd (true≢false (sym q))) (λ q. q) p

or-back : (a b : Bool) → a || b ≡ true → (a ≡ true) ⊎ (b ≡ true)
or-back true b p = inl refl
or-back false b p = inr p

-- b itself and row b are what is onward from b
pub fresh-onward : (n : ℕ) (stand : List Edge) (b : ℕ) (reach fresh : List Bool) → Fresh n b reach fresh → ClosureRow n stand b reach → OnwardMarks n stand b fresh
fresh-onward n stand b reach fresh f r =
    record { sound = λ v h p. there v h p (ℕ_discrete v b); full = λ v h w. back v h w (ℕ_discrete v b) }
  where
    there : (v : ℕ) → v < n → Marked fresh v → Dec (v ≡ b) → Reach stand b v
    there v h p (yes e) = inl (sym e)
    there v h p (no ne) = inr (r.sound v h (sym (f.other v h ne) ∙ p))

    back : (v : ℕ) → v < n → Reach stand b v → Dec (v ≡ b) → Marked fresh v
    back v h w (yes e) = subst (λ (k : ℕ). Marked fresh k) (sym e) f.own
    back v h (inl e) (no ne) = absurd (ne (sym e))
    back v h (inr w) (no ne) = f.other v h ne ∙ r.full v h w

-- so are the marks of its first n entries
onward-part : {n : ℕ} {stand : List Edge} {b : ℕ} {fresh : List Bool} → OnwardMarks n stand b fresh → OnwardMarks n stand b (take n fresh)
onward-part {n} {stand} {b} {fresh} o =
    record {
      sound = λ v h p. o.sound v h (sym (get_or-take n fresh v false h) ∙ p);
      full = λ v h w. get_or-take n fresh v false h ∙ o.full v h w;
    }

-- A walk with the new edge goes without it, or without it to the edge's tail and without it on from its head. So row u has nothing new where
-- it marks the edge's head already, for it then has all that is onward from there; nor where u is not the tail and does not lead to it. In
-- any other case it gets what is onward from the head, and a walk over the edge backs each of these marks.
module _ (n : ℕ) (stand : List Edge) (e : Edge) (u : ℕ) (old : List Bool) (r : ClosureRow n stand u old) where
  -- the row stays where it marks all that the edge opens a way to
  row_kept : ((v : ℕ) → v < n → Reach stand u e.from → Reach stand e.to v → Marked old (u * n + v)) → ClosureRow n (e ∷ stand) u old
  row_kept k =
      record {
        sound = λ v h p. walk-later e stand (r.sound v h p);
        full = λ v h w. ⊎_elim (r.full v h) (λ p. k v h p.0 p.1) (walk_split e stand w);
      }

  -- the row marks the head
  pub row_has : e.to < n → Marked old (u * n + e.to) → ClosureRow n (e ∷ stand) u old
  row_has inside p = row_kept (λ v h _ q. onto v h q)
    where
      onto : (v : ℕ) → v < n → Reach stand e.to v → Marked old (u * n + v)
      onto v h (inl same) = subst (λ (k : ℕ). Marked old (u * n + k)) same p
      onto v h (inr w) = r.full v h (walk-join (r.sound e.to inside p) w)

  -- u is not the tail and does not lead to it
  pub row-away : e.from < n → (u ≡ e.from → ⊥) → get_or old (u * n + e.from) false ≡ false → ClosureRow n (e ∷ stand) u old
  row-away inside ne z = row_kept (λ v h q _. absurd (never q))
    where
      never : Reach stand u e.from → ⊥
      never (inl same) = ne same
      never (inr w) = true≢false (sym (r.full e.from inside w) ∙ z)

  -- u is the tail or leads to it
  pub row-marked : (fresh new : List Bool) → Reach stand u e.from → OnwardMarks n stand e.to fresh → Overlaid (u * n) n fresh old new
      → ClosureRow n (e ∷ stand) u new
  row-marked fresh new comes on m =
      record {
        sound = λ v h p. backed v h (or-back (get_or old (u * n + v) false) (get_or fresh v false) (sym (m.inside v h) ∙ p));
        full = λ v h w. m.inside v h ∙ or-set (get_or old (u * n + v) false) (get_or fresh v false) (got v h (walk_split e stand w));
      }
    where
      backed : (v : ℕ) → v < n → Marked old (u * n + v) ⊎ Marked fresh v → Walk (e ∷ stand) u v
      backed v h (inl p) = walk-later e stand (r.sound v h p)
      backed v h (inr p) = walk-over e stand comes (on.sound v h p)

      got : (v : ℕ) → v < n → Walk stand u v ⊎ (Reach stand u e.from × Reach stand e.to v) → Marked old (u * n + v) ⊎ Marked fresh v
      got v h (inl w) = inl (r.full v h w)
      got v h (inr p) = inr (on.full v h p.1)

-- ---- one row of the code

-- what is enough where the row stays as it is
extended-still : (n a b u : ℕ) (fresh old : List Bool)
    → ((stand : List Edge) (e : Edge) → e.from ≡ a → e.to ≡ b → ClosureRow n stand u old → ClosureRow n (e ∷ stand) u old)
    → RowExtended n a b u fresh old old
extended-still n a b u fresh old k =
    record { long = refl; others = λ w v h l ne. refl; row = λ stand e f t on r. k stand e f t r }

module _ (n a b u : ℕ) (fresh old : List Bool) (in-a : a < n) (in_b : b < n) where
  pub extended-has : Marked old (u * n + b) → RowExtended n a b u fresh old old
  extended-has p =
      extended-still n a b u fresh old
      (λ stand e f t r. row_has n stand e u old r (omega arith) (subst (λ (k : ℕ). Marked old (u * n + k)) (sym t) p))

  pub extended-away : (u ≡ a → ⊥) → get_or old (u * n + a) false ≡ false → RowExtended n a b u fresh old old
  extended-away ne z =
      extended-still n a b u fresh old
      (λ stand e f t r. row-away n stand e u old r (omega arith) (λ s. ne (s ∙ f)) (subst (λ (k : ℕ). get_or old (u * n + k) false ≡ false) (sym f) z))

  pub extended-marked : (new : List Bool) → (u ≡ a) ⊎ (Marked old (u * n + a)) → Overlaid (u * n) n fresh old new → RowExtended n a b u fresh old new
  extended-marked new comes m =
      record {
        long = m.long;
        others = λ w v h l ne. other w v (cell_apart n u w v l ne);
        row = λ stand e f t on r.
            row-marked n stand e u old r fresh new (way stand e f r comes) (subst (λ (k : ℕ). OnwardMarks n stand k fresh) (sym t) on) m;
      }
    where
      other : (w v : ℕ) → Apart n u (w * n + v) → get_or new (w * n + v) false ≡ get_or old (w * n + v) false
      other w v (before l) = m.before (w * n + v) l
      other w v (behind l) = m.behind (w * n + v) l

      way : (stand : List Edge) (e : Edge) → e.from ≡ a → ClosureRow n stand u old → (u ≡ a) ⊎ (Marked old (u * n + a)) → Reach stand u e.from
      way stand e f r (inl s) = inl (s ∙ sym f)
      way stand e f r (inr p) = inr (subst (Walk stand u) (sym f) (r.sound a in-a p))

-- ---- all rows

-- a turn of the loop extends one row more
pub rows_more : {n a b k : ℕ} {fresh old now new : List Bool} → k < n → Extended n a b k fresh old now → RowExtended n a b k fresh now new
    → Extended n a b (k + 1) fresh old new
rows_more {n} {a} {b} {k} {fresh} {old} {now} {new} inside x y =
    record {
      long = y.long ∙ x.long;
      rest = λ w v l h i. y.others w v h i (λ e. omega arith) ∙ x.rest w v (omega arith) h i;
      rows = λ stand e f t on u l h r. each stand e f t on u l h r (ℕ_discrete u k);
    }
  where
    each : (stand : List Edge) (e : Edge) → e.from ≡ a → e.to ≡ b → OnwardMarks n stand b fresh
        → (u : ℕ) → u < k + 1 → u < n → ClosureRow n stand u old → Dec (u ≡ k) → ClosureRow n (e ∷ stand) u new
    each stand e f t on u l h r (yes s) =
        subst (λ (j : ℕ). ClosureRow n (e ∷ stand) j new) (sym s)
        (y.row stand e f t on (row_same (λ v i. x.rest k v (omega arith) inside i) (subst (λ (j : ℕ). ClosureRow n stand j old) s r)))
    each stand e f t on u l h r (no ne) = row_same (λ v i. y.others u v h i ne) (x.rows stand e f t on u (omega arith) h r)

-- ---- the matrix

within_more : {n : ℕ} (e : Edge) (stand : List Edge) → e.from < n → e.to < n → Within n stand → Within n (e ∷ stand)
within_more e stand f t w zero h = (f, t)
within_more e stand f t w (suc i) h = w i (le_of_suc-le-suc h)

-- no edges, no walks
pub closure-none : (n k : ℕ) → Closure n [] (replicate k false)
closure-none n k =
    record {
      row = λ u h. record { sound = λ v l p. absurd (true≢false (sym p ∙ blank-at k (u * n + v) false)); full = λ v l w. absurd (nowhere w) };
      within = λ i h. absurd (omega arith);
    }
  where
    nowhere : {u v : ℕ} → Walk [] u v → ⊥
    nowhere (loops.one i h e) = omega arith
    nowhere (loops.more i h w) = omega arith

module _ (n a b : ℕ) (old : List Bool) (in-a : a < n) (in_b : b < n) where
  -- where a walk leads from a to b, each walk over the new edge can go along that one
  pub added-known : Marked old (a * n + b) → Added n a b old old
  added-known p =
      record {
        long = refl;
        closure = λ stand e f t c.
            record { row = λ u h. row stand e f t c u h; within = within_more e stand (omega arith) (omega arith) c.within };
      }
    where
      row : (stand : List Edge) (e : Edge) → e.from ≡ a → e.to ≡ b → Closure n stand old → (u : ℕ) → u < n → ClosureRow n (e ∷ stand) u old
      row stand e f t c u h =
          record {
            sound = λ v l q. walk-later e stand ((c.row u h).sound v l q);
            full = λ v l w. (c.row u h).full v l (walk-replace (runs-cons along (runs_same stand)) w);
          }
        where
          along : Walk stand e.from e.to
          along = subst (Walk stand e.from) (sym t) (subst (λ (k : ℕ). Walk stand k b) (sym f) ((c.row a in-a).sound b in_b p))

  -- else every row is extended
  pub added_new : {fresh new : List Bool} → Fresh n b old fresh → Extended n a b n (take n fresh) old new → Added n a b old new
  added_new {fresh} {new} f x =
      record {
        long = x.long;
        closure = λ stand e s t c.
            record {
              row = λ u h. x.rows stand e s t (onward-part (fresh-onward n stand b old fresh f (c.row b in_b))) u h h (c.row u h);
              within = within_more e stand (omega arith) (omega arith) c.within;
            };
      }
