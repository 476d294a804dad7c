-- The edges of each node in a linked list: a link k above 0 is edge k - 1, and 0 ends a list.
use Rattle.std.specs.Prelude.{◌&&◌, cond, List, [], ◌∷◌, ℕ, suc, ◌+◌, ltb, length, set, replicate}
use Rattle.graph.specs.Rows.{at}

-- the first link of each node, and the link after each edge
pub record ArcLists : Type 0 where
  pub head : List ℕ
  pub next : List ℕ

-- the two as one
abbrev pub lists_of : List ℕ → List ℕ → ArcLists
lists_of head next = record { head = head; next = next }

-- edge a put in front of the list of node v; nothing changes where either has no entry
unfoldable pub link_one : ℕ → ℕ → ArcLists → ArcLists
link_one v a l =
    cond (ltb v (length l.head) && ltb a (length l.next)) (lists_of (set l.head v (a + 1)) (set l.next a (at l.head v))) l

-- the edges from a on put in front, one after the other, each in the list of its node
unfoldable pub link_from : ℕ → List ℕ → ArcLists → ArcLists
link_from a [] l = l
link_from a (v ∷ ends) l = link_from (suc a) ends (link_one v a l)

-- all edges put in front, from empty lists on: of the old first links only their number counts
abbrev pub link_all : List ℕ → List ℕ → List ℕ → ArcLists
link_all ends head next = link_from 0 ends (lists_of (replicate (length head) 0) next)

-- the link to read on at in the list of node v: the first one where link is 0
unfoldable pub link_at : List ℕ → ℕ → ℕ → ℕ
link_at head v link = cond (ltb 0 link) link (at head v)
