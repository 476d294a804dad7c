-- Edges are drawn as one where their ends and their firmness are equal, and nowhere else.
use mathlib.Core.Path.{◌≡◌, refl, sym, ◌∙◌}
use mathlib.Core.Bool.{Bool, true, false, ◌&&◌, not, cond, true≢false}
use Prim.Native.Nat.{ℕ}
use borrow.Author.Tests.{eqb-true, eq-eqb}
use lib.Dec.{eqb}
use Rattle.graph.specs.declared.TableEdge.{TableEdge}
use Rattle.merging.specs.Merged.{has_ends, alike}

-- an edge with these ends and this firmness
pub record Ended (from to : ℕ) (soft : Bool) (e : TableEdge) : Type 0 where
  pub tail : from ≡ e.from
  pub head : to ≡ e.to
  pub firm : soft ≡ e.soft

and_left : (a b : Bool) → a && b ≡ true → a ≡ true
and_left true b h = refl
and_left false b h = h

and_right : (a b : Bool) → a && b ≡ true → b ≡ true
and_right true b h = h
and_right false b h = absurd (true≢false (sym h))

firm-same : (a b : Bool) → cond a b (not b) ≡ true → a ≡ b
firm-same true b h = sym h
firm-same false true h = h
firm-same false false h = refl

firm-here : (b : Bool) → cond b b (not b) ≡ true
firm-here true = refl
firm-here false = refl

module _ (from to : ℕ) (soft : Bool) (e : TableEdge) where
  pub has-ends : has_ends from to soft e ≡ true → Ended from to soft e
  unfolding has_ends
  has-ends h =
      let both = and_left (eqb from e.from && eqb to e.to) (cond soft e.soft (not e.soft)) h in
      record {
        tail = eqb-true from e.from (and_left (eqb from e.from) (eqb to e.to) both);
        head = eqb-true to e.to (and_right (eqb from e.from) (eqb to e.to) both);
        firm = firm-same soft e.soft (and_right (eqb from e.from && eqb to e.to) (cond soft e.soft (not e.soft)) h);
      }

  pub ends-has : Ended from to soft e → has_ends from to soft e ≡ true
  unfolding has_ends
  ends-has s = rw (s.tail, s.head, s.firm, eq-eqb e.from e.from refl, eq-eqb e.to e.to refl) (firm-here e.soft)

-- an edge is like itself
pub alike_self : (e : TableEdge) → alike e e ≡ true
alike_self e = ends-has e.from e.to e.soft e (record { tail = refl; head = refl; firm = refl })

module _ (d e : TableEdge) (h : alike d e ≡ true) where
  ended : Ended d.from d.to d.soft e
  ended = has-ends d.from d.to d.soft e h

  -- what one is like the other is, and what is like one is like the other
  pub alike_both : (x : TableEdge) → alike d x ≡ alike e x
  alike_both x = rw (ended.tail, ended.head, ended.firm)

  pub alike_of : (from to : ℕ) (soft : Bool) → has_ends from to soft d ≡ has_ends from to soft e
  unfolding has_ends
  alike_of from to soft = rw (ended.tail, ended.head, ended.firm)

  pub alike-back : alike e d ≡ true
  alike-back = ends-has e.from e.to e.soft d (record { tail = sym ended.tail; head = sym ended.head; firm = sym ended.firm })

pub alike-swap : (d e : TableEdge) → alike d e ≡ alike e d
alike-swap d e = go (alike d e) refl (alike e d) refl
  where
    go : (a : Bool) → alike d e ≡ a → (b : Bool) → alike e d ≡ b → a ≡ b
    go true p b q = sym (alike-back d e p) ∙ q
    go false p true q = sym p ∙ alike-back e d q
    go false p false q = refl
