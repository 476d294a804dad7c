-- Edges judged one after the other: what passes is within the limits, and the first fault decides.
use mathlib.Core.Path.{◌≡◌, refl, sym, ap, ◌∙◌}
use mathlib.Core.Bool.{Bool, true, false, not, ◌&&◌}
use mathlib.Core.List.{List, [], ◌∷◌}
use Prim.Native.Nat.{ℕ, zero, suc, ◌+◌, ◌≤◌, ◌<◌}
use native.Mathlib.Nat.{not-suc-le-zero, le_of_suc-le-suc}
use native.Mathlib.Numerals.{add-one}
use native.Mathlib.Omega.{arith}
use borrow.Author.Tests.{ltb-true, leb-true, eqb-false}
use lib.Dec.{leb, ltb, eqb}
use lib.ListN.{length, get_or, drop}
use lib.Seq.{drop-cons}
use Rattle.std.specs.List.{zip}
use Rattle.std.proofs.lemmas.List.{get_or_read}
use Rattle.std.proofs.lemmas.Slice.Zip.{length-zip, get_or-zip}
use Rattle.relaxation.proofs.EdgesLaws.{length-edges_of, edge_at}
use Rattle.flatten.specs.Flat.{Flat}
use Rattle.flatten.specs.Flat.{flat_edges}
use Rattle.graph.specs.declared.Edge.{Edge}
use Rattle.graph.specs.Rows.{no_edge}
use Rattle.outcome.specs.declared.Refusal.{Refusal}
use Rattle.table.specs.Limits.{min_gap, max_gap, max_weight}
use Rattle.outcome.specs.Refusal.{Outcome, done, refused, then_do}
use Rattle.table.specs.Fair.{FairEdge}
use Rattle.edgelist.specs.Calls.{ends_good, sizes_good, edge_judged, records_judged}

never : {X : Type 0} {A : Type 0} {r : Refusal} {a : A} → refused r ≡ done a → X
never e = let z : ◌≡◌ {A = ℕ} 0 1 = cc in absurd (omega arith)

both : (a b : Bool) → (a && b) ≡ true → (a ≡ true) × (b ≡ true)
both true b e = (refl, e)
both false b e = let z : ◌≡◌ {A = ℕ} 0 1 = cc in absurd (omega arith)

apart : (x y : ℕ) (t : Bool) → eqb x y ≡ t → not t ≡ true → y ≡ x → ⊥
apart x y true e f h = let z : ◌≡◌ {A = ℕ} 0 1 = cc in omega arith
apart x y false e f h = eqb-false x y e (sym h)

-- an edge that passes is within the limits
judged-fair-one : (n : ℕ) (e : Edge) {u : Unit {0}} → edge_judged n e ≡ done u → FairEdge n e
unfolding edge_judged
judged-fair-one n e p =
    let good = go (ends_good n e) (sizes_good e) refl refl in
    let x = both (ltb e.from n && ltb e.to n) (not (eqb e.from e.to)) good.0 in
    let y = both (ltb e.from n) (ltb e.to n) x.0 in
    let g = both (leb min_gap e.gap && leb e.gap max_gap) (leb e.weight max_weight) good.1 in
    let k = both (leb min_gap e.gap) (leb e.gap max_gap) g.0 in
    record {
      from_in = ltb-true e.from n y.0;
      to_in = ltb-true e.to n y.1;
      apart = apart e.from e.to (eqb e.from e.to) refl x.1;
      gap_some = leb-true min_gap e.gap k.0;
      gap_low = leb-true e.gap max_gap k.1;
      weight_low = leb-true e.weight max_weight g.1;
    }
  where
    go : (a b : Bool) → ends_good n e ≡ a → sizes_good e ≡ b → (ends_good n e ≡ true) × (sizes_good e ≡ true)
    go true true x y = (x, y)
    go true false x y = never (simp (x, y) at p)
    go false true x y = never (simp (x, y) at p)
    go false false x y = never (simp (x, y) at p)

-- what is left once an edge has passed
passed_first : (o p : Outcome (Unit {0})) {u : Unit {0}} → then_do o (λ _. p) ≡ done u → (o ≡ done tt) × (p ≡ done u)
passed_first (done x) p e = (refl, e)
passed_first (refused r) p e = never e

pub judged-fair : (n : ℕ) (edges : List Edge) {u : Unit {0}} → records_judged n edges ≡ done u → (i : ℕ) → i < length edges → FairEdge n (get_or edges i no_edge)
unfolding records_judged
judged-fair n [] p i h = absurd (not-suc-le-zero h)
judged-fair n (e ∷ edges) p zero h = judged-fair-one n e (passed_first (edge_judged n e) (records_judged n edges) p).0
judged-fair n (e ∷ edges) p (suc i) h = judged-fair n edges (passed_first (edge_judged n e) (records_judged n edges) p).1 i (le_of_suc-le-suc h)

-- ---- a loop that judges edges: the whole is what is left from here on

pub record Judging (n : ℕ) (edges : List Edge) (i : ℕ) : Type 0 where
  pub left : records_judged n edges ≡ records_judged n (drop i edges)

module _ {n : ℕ} {edges : List Edge} where
  pub judging-none : Judging n edges 0
  judging-none = record { left = refl }

  module _ {i : ℕ} (j : Judging n edges i) where
    module _ (h : i < length edges) (o : Outcome (Unit {0})) (p : o ≡ edge_judged n (get_or edges i no_edge)) where
      first : records_judged n edges ≡ then_do o (λ _. records_judged n (drop (suc i) edges))
      unfolding records_judged
      first = j.left ∙ ap (records_judged n) (drop-cons edges i no_edge h) ∙ ap (λ x. then_do x (λ _. records_judged n (drop (suc i) edges))) (sym p)

    pub judging-fault : {f : Refusal} → i < length edges → refused f ≡ edge_judged n (get_or edges i no_edge) → refused f ≡ records_judged n edges
    judging-fault {f} h p = sym (first h (refused f) p)

    pub judging-more : i < length edges → done tt ≡ edge_judged n (get_or edges i no_edge) → Judging n edges (i + 1)
    judging-more h p = record { left = rw (add-one i) (first h (done tt) p) }

    pub judging-all : length edges ≤ i → done tt ≡ records_judged n edges
    unfolding records_judged
    judging-all h = sym (j.left ∙ ap (records_judged n) (drop_all edges i h))
      where
        drop_all : (l : List Edge) (k : ℕ) → length l ≤ k → drop k l ≡ []
        drop_all [] zero h = refl
        drop_all [] (suc k) h = refl
        drop_all (x ∷ l) zero h = absurd (not-suc-le-zero h)
        drop_all (x ∷ l) (suc k) h = drop_all l k (le_of_suc-le-suc h)

-- ---- four lists read side by side

module _ (f : Flat) where
  abbrev sides : List ((ℕ × ℕ) × (ℕ × ℕ))
  sides = zip (zip f.from.items f.to.items) (zip f.gap.items f.weight.items)

  ends_long : length (zip f.from.items f.to.items) ≡ length f.from.items
  ends_long = omega (arith, length-zip f.from.items f.to.items, f.even.to_long)

  sizes_long : length (zip f.gap.items f.weight.items) ≡ length f.from.items
  sizes_long = omega (arith, length-zip f.gap.items f.weight.items, f.even.gap_long, f.even.weight_long)

  pub flat-sides : length sides ≡ length (flat_edges f)
  flat-sides =
      omega (
        arith,
        length-zip (zip f.from.items f.to.items) (zip f.gap.items f.weight.items),
        ends_long,
        sizes_long,
        length-edges_of f.from.items f.to.items f.gap.items f.weight.items,
      )

  -- what a turn over them reads is the edge there
  pub side-edge : (i a b g w : ℕ) → (i < length sides) × (◌≡◌ {A = (ℕ × ℕ) × (ℕ × ℕ)} ((a, b), (g, w)) (get_or sides i ((a, b), (g, w))))
      → (i < length (flat_edges f)) × (record { from = a; to = b; gap = g; weight = w } ≡ get_or (flat_edges f) i no_edge)
  side-edge i a b g w p = (
    omega (arith, p.0, flat-sides),
    rw (edge_at f.from.items f.to.items f.gap.items f.weight.items i h)
        (rw (
          get_or_read f.from.items i a h (ap (λ q. q.0.0) each) 0,
          get_or_read f.to.items i b (omega (arith, h, f.even.to_long)) (ap (λ q. q.0.1) each) 0,
          get_or_read f.gap.items i g (omega (arith, h, f.even.gap_long)) (ap (λ q. q.1.0) each) 0,
          get_or_read f.weight.items i w (omega (arith, h, f.even.weight_long)) (ap (λ q. q.1.1) each) 0,
        ) refl),
  )
    where
      h : i < length f.from.items
      h = omega (arith, p.0, flat-sides, length-edges_of f.from.items f.to.items f.gap.items f.weight.items)

      each : ◌≡◌ {A = (ℕ × ℕ) × (ℕ × ℕ)} ((a, b), (g, w)) ((get_or f.from.items i a, get_or f.to.items i b), (get_or f.gap.items i g, get_or f.weight.items i w))
      each =
          p.1 ∙ get_or-zip (zip f.from.items f.to.items) (zip f.gap.items f.weight.items) i ((a, b), (g, w)) (omega (arith, h, ends_long)) (omega (arith, h, sizes_long))
          ∙ ap (λ q. (q, get_or (zip f.gap.items f.weight.items) i (g, w))) (get_or-zip f.from.items f.to.items i (a, b) h (omega (arith, h, f.even.to_long)))
          ∙ ap (λ q. ((get_or f.from.items i a, get_or f.to.items i b), q))
          (get_or-zip f.gap.items f.weight.items i (g, w) (omega (arith, h, f.even.gap_long)) (omega (arith, h, f.even.weight_long)))
