-- Edges: what is written is read back, and what was read takes no fewer bytes than it has when written in any edition that can tell it.
use mathlib.Core.Path.{◌≡◌, refl, sym, ap, subst, ◌∙◌}
use mathlib.Core.Bool.{Bool, true, false, not, ◌&&◌, ◌||◌, cond}
use mathlib.Core.List.{List, [], ◌∷◌, ◌++◌}
use Prim.Native.Nat.{ℕ, ◌+◌, ◌≤◌, ◌<◌}
use native.Mathlib.Omega.{arith}
use borrow.Author.Tests.{lt-ltb, ne_eqb}
use lib.Dec.{ltb, eqb}
use lib.ListN.{length, length-append}
use Rattle.graph.specs.declared.Edge.{Edge}
use Rattle.graph.specs.declared.TableEdge.{TableEdge}
use Rattle.graph.specs.Directed.{own_edge}
use Rattle.outcome.specs.declared.Refusal.TheVariants.{OutOfRange, BadEnd, BadFirmness}
use Rattle.table.specs.declared.rule.Rule.{Rule}
use Rattle.table.specs.declared.rule.Rule.TheVariants.{Shortest}
use Rattle.table.specs.Limits.{min_edition, max_edition, max_steps, min_gap, max_gap, max_weight, softness}
use Rattle.table.specs.Number.{got, number_at, number_in}
use Rattle.table.specs.Table.{end_at, edge_between, edge_at, firmness_at, table_edge, table_edge_at}
use Rattle.table.specs.Fair.{FairEdge}
use Rattle.table.proofs.InverseLaws.{came, passed, got-value, got-place}
use Rattle.table.proofs.PlaceLaws.{limits-place}
use Rattle.table.proofs.FairLaws.{end-fair, edge-fair}
use Rattle.acyclic.specs.Oriented.{any_soft}
use Rattle.encoding.specs.Shortest.{short_number, edition_for, short_firmness, short_edge, each}
use Rattle.encoding.proofs.ShortLaws.{soft-byte}
use Rattle.encoding.proofs.PutLaws.{short_ends, short_sizes}
use Rattle.writing.specs.Sayable.{All, nothing, also, SayableEdge}
use Rattle.writing.proofs.StandsLaws.{Stands, stands-first, stands-then}
use Rattle.writing.proofs.BackLaws.{number-back, limits-back, number_short, limits-short}
use Rattle.writing.proofs.EachLaws.{Back}

-- an edge that an edition can tell: the first one tells must edges only
pub record TellableEdge (edition n : ℕ) (e : TableEdge) : Type 0 where
  pub own : FairEdge n (own_edge e)
  pub firm : eqb edition min_edition ≡ true → e.soft ≡ false

-- ---- the ends and the sizes

-- two pairs one behind the other
four-long : (a b c d : List ℕ) → length (a ++ b ++ (c ++ d)) ≡ length a + length b + length c + length d
four-long a b c d = omega (arith, length-append (a ++ b) (c ++ d), length-append a b, length-append c d)

module _ (s : List ℕ) (n : ℕ) (few : n ≤ max_steps) where
  end_back : (but at v : ℕ) → v < n → (v ≡ but → ⊥) → Stands s at (short_number v) → end_at Shortest s n but at ≡ got v (at + length (short_number v))
  unfolding end_at
  end_back but at v l d h = rw (number-back s at v (omega arith) h, lt-ltb v n l, ne_eqb v but d)

  -- four numbers stand one behind the other, and each is within its limits
  own_back : (at : ℕ) (e : TableEdge) → FairEdge n (own_edge e) → Stands s at (short_ends e ++ short_sizes e)
      → edge_at Shortest s n at ≡ got (own_edge e) (at + length (short_ends e ++ short_sizes e))
  unfolding edge_at edge_between
  own_back at e g h =
      let a = short_number e.from in
      let b = short_number e.to in
      let c = short_number e.gap in
      let d = short_number e.weight in
      let ends = stands-first (a ++ b) (c ++ d) h in
      let place : at + length (a ++ b) ≡ at + length a + length b = omega (arith, length-append a b) in
      let sizes : Stands s (at + length a + length b) (c ++ d) = subst (λ p. Stands s p (c ++ d)) place (stands-then (a ++ b) (c ++ d) h) in
      let from = end_back n at e.from g.from_in (λ z. omega (arith, g.from_in)) (stands-first a b ends) in
      let to = end_back e.from (at + length a) e.to g.to_in g.apart (stands-then a b ends) in
      let gap = limits-back min_gap max_gap OutOfRange s (at + length a + length b) e.gap g.gap_some g.gap_low (omega arith) (stands-first c d sizes) in
      let weight = limits-back 0 max_weight OutOfRange s (at + length a + length b + length c) e.weight (omega arith) g.weight_low (omega arith) (stands-then c d sizes) in
      let end : at + length a + length b + length c + length d ≡ at + length (a ++ b ++ (c ++ d)) = omega (arith, four-long a b c d) in
      rw (from, to, gap, weight, end)

module _ (rule : Rule) (s : List ℕ) (n : ℕ) (few : n ≤ max_steps) where
  end_short : (but at : ℕ) {v p : ℕ} → end_at rule s n but at ≡ got v p → at + length (short_number v) ≤ p
  unfolding end_at
  end_short but at {v} {p} e =
      let low = (end-fair rule s n but at e).0 in
      let c = came (number_at rule s at) _ e in
      let t = passed (ltb c.value n && not (eqb c.value but)) BadEnd _ c.next in
      number_short rule s at (omega arith) (c.first ∙ t.1)

  between-short : (from to at : ℕ) {e : Edge} {p : ℕ} → edge_between rule s from to at ≡ got e p
      → (e.from ≡ from) × (e.to ≡ to) × (at + length (short_number e.gap) + length (short_number e.weight) ≤ p)
  unfolding edge_between
  between-short from to at {e} {p} r =
      let g = came (number_in rule min_gap max_gap OutOfRange s at) _ r in
      let w = came (number_in rule 0 max_weight OutOfRange s g.place) _ g.next in
      let gap = limits-short rule min_gap max_gap OutOfRange s at (omega arith) g.first in
      let weight = limits-short rule 0 max_weight OutOfRange s g.place (omega arith) w.first in
      subst (λ (e : Edge). (e.from ≡ from) × (e.to ≡ to) × (at + length (short_number e.gap) + length (short_number e.weight) ≤ p)) (got-value w.next)
      (refl, refl, omega (arith, gap, weight, got-place w.next))

  own-short : (at : ℕ) (e : Edge) (p : ℕ) → edge_at rule s n at ≡ got e p
      → at + length (short_number e.from) + length (short_number e.to) + length (short_number e.gap) + length (short_number e.weight) ≤ p
  unfolding edge_at
  own-short at e p r =
      let a = came (end_at rule s n n at) _ r in
      let b = came (end_at rule s n a.value a.place) _ a.next in
      let from = end_short n at a.first in
      let to = end_short a.value a.place b.first in
      let sizes = between-short a.value b.value b.place b.next in
      let f = ap (λ v. length (short_number v)) sizes.0 in
      let t = ap (λ v. length (short_number v)) sizes.1 in
      omega (arith, from, to, f, t, sizes.2)

-- ---- the firmness

-- what the number of a firmness tells
soft-told : (soft : Bool) → eqb (cond soft softness 0) softness ≡ soft
soft-told true = refl
soft-told false = refl

module _ (s : List ℕ) (edition at : ℕ) where
  firmness-back : (soft : Bool) → (eqb edition min_edition ≡ true → soft ≡ false) → Stands s at (short_firmness edition soft)
      → firmness_at Shortest s edition at ≡ got (cond soft softness 0) (at + length (short_firmness edition soft))
  unfolding firmness_at short_firmness
  firmness-back soft firm h = go (eqb edition min_edition) soft firm h
    where
      go : (t soft : Bool) → (t ≡ true → soft ≡ false) → Stands s at (cond t [] (short_number (cond soft softness 0)))
          → cond t (got 0 at) (number_in Shortest 0 softness BadFirmness s at) ≡ got (cond soft softness 0) (at + length (cond t [] (short_number (cond soft softness 0))))
      go true true firm h = let f = firm refl in let z : ◌≡◌ {A = ℕ} 0 1 = cc in absurd (omega arith)
      go true false firm h = let e : at ≡ at + 0 = omega arith in ap (got 0) e
      go false true firm h = limits-back 0 softness BadFirmness s at 1 (omega arith) (omega arith) (omega arith) h
      go false false firm h = limits-back 0 softness BadFirmness s at 0 (omega arith) (omega arith) (omega arith) h

module _ (rule : Rule) (s : List ℕ) (edition at : ℕ) where
  firmness-short : {v p : ℕ} → firmness_at rule s edition at ≡ got v p
      → (eqb edition min_edition ≡ true → eqb v softness ≡ false) × (at + length (short_firmness edition (eqb v softness)) ≤ p)
  unfolding firmness_at short_firmness
  firmness-short {v} {p} e = go (eqb edition min_edition) e
    where
      go : (t : Bool) → cond t (got 0 at) (number_in rule 0 softness BadFirmness s at) ≡ got v p
          → (t ≡ true → eqb v softness ≡ false) × (at + length (cond t [] (short_number (cond (eqb v softness) softness 0))) ≤ p)
      go true e = (λ z. ap (λ x. eqb x softness) (sym (got-value e)), omega (arith, got-place e))
      go false e = (
        λ z. let y : ◌≡◌ {A = ℕ} 0 1 = cc in absurd (omega arith),
        omega (arith, (limits-place rule 0 softness BadFirmness s at e).0, soft-byte (eqb v softness)),
      )

-- ---- the edge

module _ (s : List ℕ) (edition n : ℕ) (few : n ≤ max_steps) where
  -- an edge is read back
  pub edge-back : (at : ℕ) (e : TableEdge) → TellableEdge edition n e → Stands s at (short_edge edition e)
      → Back (λ (x : TableEdge). x) (table_edge_at Shortest s edition n at) e (at + length (short_edge edition e))
  unfolding table_edge_at short_edge
  edge-back at e g h =
      let a = short_ends e ++ short_sizes e in
      let b = short_firmness edition e.soft in
      let own = own_back s n few at e g.own (stands-first a b h) in
      let firm = firmness-back s edition (at + length a) e.soft g.firm (stands-then a b h) in
      let end : at + length a + length b ≡ at + length (a ++ b) = omega (arith, length-append a b) in
      record {
        value = table_edge (own_edge e) (eqb (cond e.soft softness 0) softness);
        reads = rw (own, firm, end);
        says = ap (table_edge (own_edge e)) (soft-told e.soft);
      }

module _ (rule : Rule) (s : List ℕ) (edition n : ℕ) (few : n ≤ max_steps) where
  -- an edge that was read can be told in that edition, and takes no fewer bytes than it has when written in it
  pub edge-short : (at : ℕ) (e : TableEdge) (p : ℕ) → table_edge_at rule s edition n at ≡ got e p → TellableEdge edition n e × (at + length (short_edge edition e) ≤ p)
  unfolding table_edge_at short_edge
  edge-short at e p r =
      let a = came (edge_at rule s n at) _ r in
      let f = came (firmness_at rule s edition a.place) _ a.next in
      let own = a.value in
      let soft = eqb f.value softness in
      let firm = firmness-short rule s edition a.place f.first in
      let width = own-short rule s n few at own a.place a.first in
      let four = four-long (short_number own.from) (short_number own.to) (short_number own.gap) (short_number own.weight) in
      let whole = length-append (short_ends (table_edge own soft) ++ short_sizes (table_edge own soft)) (short_firmness edition soft) in
      subst (λ (e : TableEdge). TellableEdge edition n e × (at + length (short_ends e ++ short_sizes e ++ short_firmness edition e.soft) ≤ p)) (got-value f.next)
      (record { own = (edge-fair rule s n at a.first).0; firm = firm.0 }, omega (arith, width, four, whole, firm.1, got-place f.next))

-- ---- the edition that tells a list of edges

edition-of : (t : Bool) → eqb (cond t max_edition min_edition) min_edition ≡ not t
edition-of true = refl
edition-of false = refl

pub edition-some : (l : List TableEdge) → min_edition ≤ edition_for l
edition-some l = go (any_soft l)
  where
    go : (t : Bool) → min_edition ≤ cond t max_edition min_edition
    go true = omega arith
    go false = omega arith

-- edges that can be said can be told in the last edition, and in the first where none is soft
all-tellable : (edition n : ℕ) (l : List TableEdge) → (eqb edition min_edition ≡ true → any_soft l ≡ false) → All (SayableEdge n) l → All (TellableEdge edition n) l
unfolding any_soft
all-tellable edition n [] h nothing = nothing
all-tellable edition n (e ∷ l) h (also g gs) =
    also (record { own = g.own; firm = λ t. (both-firm e.soft (any_soft l) (h t)).0 }) (all-tellable edition n l (λ t. (both-firm e.soft (any_soft l) (h t)).1) gs)
  where
    both-firm : (a b : Bool) → a || b ≡ false → (a ≡ false) × (b ≡ false)
    both-firm true b e = let z : ◌≡◌ {A = ℕ} 0 1 = cc in absurd (omega arith)
    both-firm false b e = (refl, e)

pub tellable : (n : ℕ) (l : List TableEdge) → All (SayableEdge n) l → All (TellableEdge (edition_for l) n) l
tellable n l g = all-tellable (edition_for l) n l (λ t. go (any_soft l) (sym (edition-of (any_soft l)) ∙ t)) g
  where
    go : (b : Bool) → not b ≡ true → b ≡ false
    go true e = sym e
    go false e = refl

-- what an edition told can be said
pub sayable : (edition n : ℕ) {l : List TableEdge} → All (TellableEdge edition n) l → All (SayableEdge n) l
sayable edition n nothing = nothing
sayable edition n (also g gs) = also (record { own = g.own }) (sayable edition n gs)

-- what the first edition told has no soft edge
told-firm : (edition n : ℕ) (l : List TableEdge) → All (TellableEdge edition n) l → eqb edition min_edition ≡ true → any_soft l ≡ false
unfolding any_soft
told-firm edition n [] nothing t = refl
told-firm edition n (e ∷ l) (also g gs) t = rw (g.firm t) (told-firm edition n l gs t)

-- a firmness has no fewer bytes in an edition than in one that comes first where that does
firmness-narrower : (edition lower : ℕ) → (eqb edition min_edition ≡ true → eqb lower min_edition ≡ true) → (soft : Bool)
    → length (short_firmness lower soft) ≤ length (short_firmness edition soft)
unfolding short_firmness
firmness-narrower edition lower h soft = go (eqb edition min_edition) (eqb lower min_edition) h
  where
    go : (t u : Bool) → (t ≡ true → u ≡ true)
        → length (cond u [] (short_number (cond soft softness 0))) ≤ length (cond t [] (short_number (cond soft softness 0)))
    go true u h = rw (h refl) (omega arith)
    go false true h = omega arith
    go false false h = omega arith

-- A list of edges has no fewer bytes in an edition that told it than in the first that can: the two differ where the last edition told
-- edges of which none is soft, and there the first leaves a byte out for each.
module _ (edition n : ℕ) where
  narrower : (lower : ℕ) → (eqb edition min_edition ≡ true → eqb lower min_edition ≡ true) → (l : List TableEdge)
      → length (each (short_edge lower) l) ≤ length (each (short_edge edition) l)
  unfolding each short_edge
  narrower lower h [] = omega arith
  narrower lower h (e ∷ l) =
      let a = short_ends e ++ short_sizes e in
      let b = short_firmness lower e.soft in
      let c = short_firmness edition e.soft in
      omega (arith, firmness-narrower edition lower h e.soft, narrower lower h l, length-append (a ++ b) (each (short_edge lower) l), length-append a b, length-append (a ++ c) (each (short_edge edition) l), length-append a c)

  pub told-short : (l : List TableEdge) → All (TellableEdge edition n) l → length (each (short_edge (edition_for l)) l) ≤ length (each (short_edge edition) l)
  told-short l g = narrower (edition_for l) (λ t. edition-of (any_soft l) ∙ ap not (told-firm edition n l g t)) l
