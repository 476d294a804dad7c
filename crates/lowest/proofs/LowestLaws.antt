-- Rows that are held up are heights of walks; so they are the lowest.
use mathlib.Core.Path.{◌≡◌, refl, sym, ap, ◌∙◌, subst}
use mathlib.Core.Bool.{Bool, true, false, cond}
use mathlib.Core.List.{List, []}
use Prim.Native.Nat.{ℕ, zero, suc, ◌+◌, ◌≤◌, ◌<◌, max}
use native.Mathlib.Omega.{arith}
use lib.ListN.{length, set, replicate, length-set, length-replicate}
use Rattle.graph.specs.Rows.{at}
use Rattle.relaxation.specs.Certificate.{Height, ground, over, Relaxed}
use Rattle.relaxation.specs.Network.{Shaped}
use Rattle.relaxation.specs.Relax.{EdgesKept}
use Rattle.buffers.proofs.ListLaws.{set_cases, zero-at}
use Rattle.relaxation.proofs.RelaxLaws.{heights-any}
use Rattle.lowest.specs.Lowest.{Props, Prop, Propped, RowsLowest}
use Rattle.relaxation.proofs.LowLaws.{held-zero}

pub propped-none : (from to gap : List ℕ) (n : ℕ) (y old mark : List ℕ) → length old ≡ n → mark ≡ replicate (length old) 0
    → Propped from to gap n y mark
propped-none from to gap n y old mark l e =
    record {
      long = ap length e ∙ length-replicate {A = ℕ} (length old) 0 ∙ l;
      each = λ v h. absurd (omega (arith, ap (λ (l : List ℕ). at l v) e, zero-at (length old) v));
    }

-- A mark that is new comes from the edge.
pub propped-turn : (from to gap : List ℕ) (n : ℕ) (y old mark : List ℕ) (a : ℕ) → a < length from → Shaped from to gap n
    → Propped from to gap n y old → Props from to gap y a old mark → Propped from to gap n y mark
propped-turn from to gap n y old mark a h shape p q = rw q.now_mark (record { long = length-set old t _ ∙ p.long; each = go })
  where
    t : ℕ
    t = at to a

    mark_at : ℕ
    mark_at = max (at old t) (cond q.told 1 0)

    both : 0 < mark_at → Prop from to gap y t
    both u = choose q.told refl
      where
        choose : (b : Bool) → q.told ≡ b → Prop from to gap y t
        choose true e = record { edge = a; inside = h; head = refl; prop = q.prop.holds e }
        choose false e = p.each t (omega (arith, u, ap {B = ℕ} (λ (b : Bool). cond b 1 0) e))

    go : (v : ℕ) → 0 < at (set old t mark_at) v → Prop from to gap y v
    go v = set_cases (λ (x : ℕ). 0 < x → Prop from to gap y v) old t mark_at v (omega (arith, p.long, shape.to_in a h))
        (λ e u. subst (Prop from to gap y) e (both u)) (λ ne u. p.each v u)

module _ (from to gap : List ℕ) (n : ℕ) (y mark : List ℕ) (shape : Shaped from to gap n) (p : Propped from to gap n y mark)
    (firm : (v : ℕ) → v < n → 0 < at y v → 0 < at mark v) where
  -- By the row: a node in row 0 stands on the ground, any other on an edge whose tail is in a lower row.
  height-at : (k v : ℕ) → v < n → at y v ≤ k → Height from to gap [] v (at y v)
  height-at zero v h le = subst (λ (x : ℕ). Height from to gap [] v x) (omega arith) ground
  height-at (suc k) v h le = go (at y v) refl (height-at k)
    where
      go : (x : ℕ) → at y v ≡ x → ((u : ℕ) → u < n → at y u ≤ k → Height from to gap [] u (at y u)) → Height from to gap [] v (at y v)
      go zero e ih = subst (λ (x : ℕ). Height from to gap [] v x) (sym e) ground
      go (suc x) e ih =
          let q = p.each v (firm v h (omega arith)) in
          let a = q.edge in
          let tail : Height from to gap [] (at from a) (at y (at from a)) = ih (at from a) (shape.from_in a q.inside) (omega (arith, q.prop)) in
          let top : Height from to gap [] (at to a) (at y (at from a) + at gap a) = over a q.inside tail in
          subst (λ (j : ℕ). Height from to gap [] v j) (sym q.prop.1)
          (subst (λ (w : ℕ). Height from to gap [] w (at y (at from a) + at gap a)) q.head top)

  pub rows-lowest : EdgesKept from to gap y → RowsLowest from to gap n y
  rows-lowest k = record { kept = k; heights = record { each = λ v h. height-at (at y v) v h (omega arith) } }

-- The lowest rows are what relaxation would give.
pub lowest-relaxed : (from to gap flow : List ℕ) (n : ℕ) (y : List ℕ) → flow ≡ replicate (length from) 0 → RowsLowest from to gap n y
    → Relaxed from to gap flow n y y
lowest-relaxed from to gap flow n y e r =
    record {
      long = refl;
      held = held-zero from to gap flow y e r.kept;
      heights = (heights-any from to gap flow n y r.heights).each;
      rest = refl;
    }
