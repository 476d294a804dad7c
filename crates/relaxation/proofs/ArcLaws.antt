-- The lists of edges by node, as a loop over the edges makes them.
use mathlib.Core.Path.{◌≡◌, sym, ap, ◌∙◌}
use mathlib.Core.List.{List}
use Prim.Native.Nat.{ℕ, ◌+◌, ◌≤◌, ◌<◌}
use native.Mathlib.Numerals.{add-one}
use lib.ListN.{length, drop, drop_of_length-le}
use lib.Seq.{drop-cons}
use Rattle.graph.specs.Rows.{at}
use Rattle.relaxation.specs.Arcs.{ArcLists, lists_of, link_one, link_from}

-- The whole is what is left from here

linking-first : (ends : List ℕ) (a : ℕ) (l : ArcLists) → a < length ends
    → link_from a (drop a ends) l ≡ link_from (a + 1) (drop (a + 1) ends) (link_one (at ends a) a l)
unfolding link_from
linking-first ends a l h = rw (drop-cons ends a 0 h, add-one a)

linking-none : (ends : List ℕ) (a : ℕ) (l : ArcLists) → length ends ≤ a → link_from a (drop a ends) l ≡ l
unfolding link_from
linking-none ends a l h = rw (drop_of_length-le ends {i = a} h)

module _ (ends : List ℕ) (start : ArcLists) (a : ℕ) (now : ArcLists) (whole : link_from 0 ends start ≡ link_from a (drop a ends) now) where
  pub linking-more : (after : ArcLists) → a < length ends → after ≡ link_one (at ends a) a now
      → link_from 0 ends start ≡ link_from (a + 1) (drop (a + 1) ends) after
  linking-more after h e = whole ∙ linking-first ends a now h ∙ ap (link_from (a + 1) (drop (a + 1) ends)) (sym e)

  pub linking-ends : length ends ≤ a → now ≡ link_from 0 ends start
  linking-ends h = sym (whole ∙ linking-none ends a now h)

-- where the first links were set to others before
pub linking-cleared : (ends next : List ℕ) {head blank : List ℕ} {after : ArcLists} → head ≡ blank → after ≡ link_from 0 ends (lists_of head next)
    → after ≡ link_from 0 ends (lists_of blank next)
linking-cleared ends next e k = k ∙ ap (λ (t : List ℕ). link_from 0 ends (lists_of t next)) e
