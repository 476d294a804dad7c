-- Merged edges with one sum of their ends as a chain: it starts with none, one edge more is put in front, and what an edge joins is on the
-- chain of its sum.
use mathlib.Core.Path.{◌≡◌, refl, sym, ap, ◌∙◌, subst}
use mathlib.Core.Bool.{Bool, true, false, cond}
use mathlib.Core.List.{List, [], ◌∷◌, ◌++◌, map}
use Prim.Native.Nat.{ℕ, zero, suc, ◌+◌, ◌*◌, ◌≤◌, ◌<◌}
use native.Mathlib.Nat.{not-suc-le-zero, le_of_suc-le-suc}
use native.Mathlib.Numerals.{add-one}
use native.Mathlib.Omega.{arith}
use borrow.Author.Tests.{eqb-true, eqb-false, ltb-true, ltb-false}
use lib.Dec.{eqb, ltb}
use lib.ListN.{length, get_or, set, replicate, length-append, length-set, length-replicate, length-map, get_or-append}
use Rattle.std.specs.Prelude.{Some, None}
use lib.Seq.{get_or-append_seam}
use Rattle.graph.specs.declared.TableEdge.{TableEdge}
use Rattle.graph.specs.Directed.{own_edge}
use Rattle.table.specs.Limits.{max_steps, max_edges}
use Rattle.table.specs.Fair.{FairEdge}
use Rattle.buffers.proofs.ListLaws.{hit, miss, zero-at}
use Rattle.merging.specs.declared.MergedEdge.{MergedEdge}
use Rattle.merging.specs.Merged.{no_merged_edge, alike}
use Rattle.merging.specs.Merging.{joins, joined, merged_alone, key_of, Links, Chain, here, there, SlotFound, sum_of, sum_count, last_slot, as_table, key_at, Chained}
use Rattle.merging.proofs.AlikeLaws.{Ended, has-ends, ends-has}
use Rattle.merging.proofs.MergedLaws.{widened}
use Rattle.merging.proofs.JoinLaws.{joinings, Joining, joined-place}

-- ---- keys

-- edges that are not alike have not one key
key_apart : (d e : TableEdge) → d.to < max_steps → e.to < max_steps → key_of d ≡ key_of e → alike d e ≡ true
unfolding key_of
key_apart d e f g h = ends-has d.from d.to d.soft e (go d.soft e.soft h)
  where
    go : (a b : Bool) → cond a ((d.from * max_steps + d.to) * 2 + 1) ((d.from * max_steps + d.to) * 2) ≡ cond b ((e.from * max_steps + e.to) * 2 + 1) ((e.from * max_steps + e.to) * 2)
        → Ended d.from d.to a (record { from = e.from; to = e.to; gap = e.gap; weight = e.weight; soft = b })
    go true true h = let p : d.from ≡ e.from = omega arith in record { tail = p; head = omega (arith, p); firm = refl }
    go true false h = absurd (omega arith)
    go false true h = absurd (omega arith)
    go false false h = let p : d.from ≡ e.from = omega arith in record { tail = p; head = omega (arith, p); firm = refl }

key-same : (d e : TableEdge) → alike d e ≡ true → key_of d ≡ key_of e
unfolding key_of
key-same d e h = let s = has-ends d.from d.to d.soft e h in rw (s.tail, s.head, s.firm)

-- ---- the last with a sum

pub last-back : (sum : ℕ) (edges : List MergedEdge) (k : ℕ) → last_slot sum edges k ≤ k
unfolding last_slot
last-back sum edges zero = omega arith
last-back sum edges (suc k) = go (eqb (sum_of (get_or edges k no_merged_edge)) sum) (last-back sum edges k)
  where
    go : (b : Bool) → last_slot sum edges k ≤ k → cond b (suc k) (last_slot sum edges k) ≤ suc k
    go true h = omega arith
    go false h = omega arith

last_step : (sum : ℕ) (edges : List MergedEdge) (k : ℕ) → last_slot sum edges (suc k) ≡ cond (eqb (sum_of (get_or edges k no_merged_edge)) sum) (suc k) (last_slot sum edges k)
unfolding last_slot
last_step sum edges k = refl

-- it goes by the sums of the first k
last-same : (sum : ℕ) (edges others : List MergedEdge) (k : ℕ) → ((j : ℕ) → j < k → sum_of (get_or edges j no_merged_edge) ≡ sum_of (get_or others j no_merged_edge))
    → last_slot sum edges k ≡ last_slot sum others k
unfolding last_slot
last-same sum edges others zero h = refl
last-same sum edges others (suc k) h = rw (h k (omega arith), last-same sum edges others k (λ j l. h j (omega arith)))

-- all of the first k with the sum are on the chain from it
last-chain : (sum : ℕ) (edges : List MergedEdge) (next : List ℕ) (b : ℕ) → ((k : ℕ) → k < b → get_or next k 0 ≡ last_slot (sum_of (get_or edges k no_merged_edge)) edges k)
    → (k : ℕ) → k < b → sum_of (get_or edges k no_merged_edge) ≡ sum → Chain next k (last_slot sum edges b)
unfolding last_slot
last-chain sum edges next zero h k l e = absurd (not-suc-le-zero l)
last-chain sum edges next (suc b) h k l e =
    go (last-chain sum edges next b (λ j p. h j (omega arith)) k) (eqb (sum_of (get_or edges b no_merged_edge)) sum) refl (ltb k b) refl
  where
    go : (k < b → sum_of (get_or edges k no_merged_edge) ≡ sum → Chain next k (last_slot sum edges b))
        → (x : Bool) → eqb (sum_of (get_or edges b no_merged_edge)) sum ≡ x → (y : Bool) → ltb k b ≡ y → Chain next k (cond x (suc b) (last_slot sum edges b))
    go rest true p true q =
        there b refl
        (subst (Chain next k) (sym (h b (omega arith) ∙ ap (λ (t : ℕ). last_slot t edges b) (eqb-true (sum_of (get_or edges b no_merged_edge)) sum p))) (rest (ltb-true k b q) e))
    go rest true p false q = here {slot = suc b} (omega (arith, ltb-false k b q))
    go rest false p true q = rest (ltb-true k b q) e
    go rest false p false q =
        let same : b ≡ k = omega (arith, ltb-false k b q) in
        absurd (eqb-false (sum_of (get_or edges b no_merged_edge)) sum p (ap (λ (i : ℕ). sum_of (get_or edges i no_merged_edge)) same ∙ e))

-- ---- chains in lists

pub chained-none : Chained [] [] [] (replicate sum_count 0)
unfolding last_slot
chained-none =
    record {
      keys_long = refl;
      next_long = refl;
      heads_long = length-replicate {A = ℕ} sum_count 0;
      keyed = λ k h. absurd (not-suc-le-zero h);
      next_at = λ k h. absurd (not-suc-le-zero h);
      head_at = λ v h. zero-at sum_count v;
    }

-- widening leaves sums and keys
widened-at : (d : TableEdge) (edges : List MergedEdge) (k : ℕ) → k < length edges → get_or (map (widened d) edges) k no_merged_edge ≡ widened d (get_or edges k no_merged_edge)
widened-at d [] k h = absurd (not-suc-le-zero h)
widened-at d (old ∷ edges) zero h = refl
widened-at d (old ∷ edges) (suc k) h = widened-at d edges k (le_of_suc-le-suc h)

widened-sum : (d : TableEdge) (old : MergedEdge) → sum_of (widened d old) ≡ sum_of old
widened-sum d old = go (joins d old)
  where
    go : (b : Bool) → sum_of (cond b (joined d old) old) ≡ sum_of old
    go true = refl
    go false = refl

widened-key : (d : TableEdge) (old : MergedEdge) → key_at (widened d old) ≡ key_at old
unfolding key_of
widened-key d old = go (joins d old)
  where
    go : (b : Bool) → key_at (cond b (joined d old) old) ≡ key_at old
    go true = refl
    go false = refl

module _ (edges : List MergedEdge) (keys next heads : List ℕ) (c : Chained edges keys next heads) where
  pub chained-join : (d : TableEdge) → Chained (map (widened d) edges) keys next heads
  chained-join d =
      record {
        keys_long = c.keys_long ∙ sym (length-map edges (widened d));
        next_long = c.next_long ∙ sym (length-map edges (widened d));
        heads_long = c.heads_long;
        keyed = λ k h. c.keyed k (inside k h) ∙ sym (ap key_at (widened-at d edges k (inside k h)) ∙ widened-key d (get_or edges k no_merged_edge));
        next_at = λ k h. c.next_at k (inside k h) ∙ last-same (sum_of (get_or edges k no_merged_edge)) edges (map (widened d) edges) k (λ j l. sym (sums j (omega (arith, inside k h))))
            ∙ ap (λ (t : ℕ). last_slot t (map (widened d) edges) k) (sym (sums k (inside k h)));
        head_at = λ v h. c.head_at v h ∙ last-same v edges (map (widened d) edges) (length edges) (λ j l. sym (sums j l))
            ∙ ap (last_slot v (map (widened d) edges)) (sym (length-map edges (widened d)));
      }
    where
      inside : (k : ℕ) → k < length (map (widened d) edges) → k < length edges
      inside k h = omega (arith, length-map edges (widened d))

      sums : (k : ℕ) → k < length edges → sum_of (get_or (map (widened d) edges) k no_merged_edge) ≡ sum_of (get_or edges k no_merged_edge)
      sums k h = ap sum_of (widened-at d edges k h) ∙ widened-sum d (get_or edges k no_merged_edge)

  -- one edge more stands in front of its chain
  module _ (e : TableEdge) (i : ℕ) (f : FairEdge max_steps (own_edge e)) (room : length edges < max_edges) where
    abbrev new : MergedEdge
    new = merged_alone i e

    abbrev more : List MergedEdge
    more = edges ++ new ∷ []

    longer : length more ≡ length edges + 1
    longer = length-append edges (new ∷ [])

    old-at : (k : ℕ) → k < length edges → get_or more k no_merged_edge ≡ get_or edges k no_merged_edge
    old-at k h = get_or-append edges (new ∷ []) no_merged_edge k h

    new-at : (k : ℕ) → k ≡ length edges → get_or more k no_merged_edge ≡ new
    new-at k h = ap (λ (j : ℕ). get_or more j no_merged_edge) h ∙ get_or-append_seam edges new [] no_merged_edge

    last-old : (sum k : ℕ) → k ≤ length edges → last_slot sum more k ≡ last_slot sum edges k
    last-old sum k h = last-same sum more edges k (λ j l. ap sum_of (old-at j (omega arith)))

    key-new : key_at new ≡ key_of e
    key-new = refl

    -- what is put behind the keys or the links of the others
    last-of : (xs : List ℕ) (x : ℕ) → length xs ≡ length edges → (k : ℕ) → k ≡ length edges → get_or (xs ++ x ∷ []) k 0 ≡ x
    last-of xs x long k h = ap (λ (j : ℕ). get_or (xs ++ x ∷ []) j 0) (h ∙ sym long) ∙ get_or-append_seam xs x [] 0

    pub chained-start : Chained more (keys ++ key_of e ∷ []) (next ++ get_or heads (e.from + e.to) 0 ∷ []) (set heads (e.from + e.to) (length edges + 1))
    chained-start =
        record {
          keys_long = omega (arith, length-append keys (key_of e ∷ []), longer, c.keys_long);
          next_long = omega (arith, length-append next (get_or heads (e.from + e.to) 0 ∷ []), longer, c.next_long);
          heads_long = length-set heads (e.from + e.to) (length edges + 1) ∙ c.heads_long;
          keyed = λ k h. key k h (ltb k (length edges)) refl;
          next_at = λ k h. next-is k h (ltb k (length edges)) refl;
          head_at = λ v h. head v h (eqb (e.from + e.to) v) refl;
        }
      where
        key : (k : ℕ) → k < length more → (b : Bool) → ltb k (length edges) ≡ b → get_or (keys ++ key_of e ∷ []) k 0 ≡ key_at (get_or more k no_merged_edge)
        key k h true q =
            let l = ltb-true k (length edges) q in
            get_or-append keys (key_of e ∷ []) 0 k (omega (arith, l, c.keys_long)) ∙ c.keyed k l ∙ sym (ap key_at (old-at k l))
        key k h false q =
            let s : k ≡ length edges = omega (arith, longer, ltb-false k (length edges) q) in
            last-of keys (key_of e) c.keys_long k s ∙ sym (ap key_at (new-at k s) ∙ key-new)

        next-is : (k : ℕ) → k < length more → (b : Bool) → ltb k (length edges) ≡ b
            → get_or (next ++ get_or heads (e.from + e.to) 0 ∷ []) k 0 ≡ last_slot (sum_of (get_or more k no_merged_edge)) more k
        next-is k h true q =
            let l = ltb-true k (length edges) q in
            get_or-append next (get_or heads (e.from + e.to) 0 ∷ []) 0 k (omega (arith, l, c.next_long)) ∙ c.next_at k l
            ∙ sym (ap (λ (x : MergedEdge). last_slot (sum_of x) more k) (old-at k l) ∙ last-old (sum_of (get_or edges k no_merged_edge)) k (omega (arith, l)))
        next-is k h false q =
            let s : k ≡ length edges = omega (arith, longer, ltb-false k (length edges) q) in
            last-of next (get_or heads (e.from + e.to) 0) c.next_long k s ∙ c.head_at (e.from + e.to) (omega (arith, f.from_in, f.to_in))
            ∙ sym (ap (λ (x : MergedEdge). last_slot (sum_of x) more k) (new-at k s) ∙ ap (last_slot (e.from + e.to) more) s ∙ last-old (e.from + e.to) (length edges) (omega arith))

        head : (v : ℕ) → v < sum_count → (b : Bool) → eqb (e.from + e.to) v ≡ b → get_or (set heads (e.from + e.to) (length edges + 1)) v 0 ≡ last_slot v more (length more)
        head v h b q = before b q ∙ sym (ap (last_slot v more) (longer ∙ add-one (length edges)) ∙ step ∙ ap (λ (x : Bool). cond x (suc (length edges)) (last_slot v more (length edges))) q)
          where
            step : last_slot v more (suc (length edges)) ≡ cond (eqb (e.from + e.to) v) (suc (length edges)) (last_slot v more (length edges))
            step = last_step v more (length edges) ∙ ap (λ (x : MergedEdge). cond (eqb (sum_of x) v) (suc (length edges)) (last_slot v more (length edges))) (new-at (length edges) refl)

            before : (b : Bool) → eqb (e.from + e.to) v ≡ b → get_or (set heads (e.from + e.to) (length edges + 1)) v 0 ≡ cond b (suc (length edges)) (last_slot v more (length edges))
            before true q = hit heads (e.from + e.to) (length edges + 1) v (omega (arith, c.heads_long, f.from_in, f.to_in)) (sym (eqb-true (e.from + e.to) v q)) ∙ add-one (length edges)
            before false q =
                miss heads (e.from + e.to) (length edges + 1) v (λ s. eqb-false (e.from + e.to) v q (sym s)) ∙ c.head_at v h ∙ sym (last-old v (length edges) (omega arith))

  -- ---- what is found

  pub links : Links next
  links = record { back = λ k h. omega (arith, c.next_at k (omega (arith, c.next_long)), last-back (sum_of (get_or edges k no_merged_edge)) edges k) }

  pub head-low : (v : ℕ) → v < sum_count → get_or heads v 0 ≤ length edges
  head-low v h = omega (arith, c.head_at v h, last-back v edges (length edges))

  module _ (e : TableEdge) (f : FairEdge max_steps (own_edge e)) where
    pub slot-joins : (low : (k : ℕ) → k < length edges → (get_or edges k no_merged_edge).to < max_steps) (k : ℕ)
        → SlotFound keys next (get_or heads (e.from + e.to) 0) (key_of e) (Some k) → joins e (get_or edges k no_merged_edge) ≡ true
    slot-joins low k found =
        let inside : k < length edges = omega (arith, found.0, c.next_long) in
        key_apart (as_table (get_or edges k no_merged_edge)) e (low k inside) f.to_in (sym (c.keyed k inside) ∙ found.1)

    pub slot-nowhere : SlotFound keys next (get_or heads (e.from + e.to) 0) (key_of e) None → joinings e edges ≡ 0
    slot-nowhere found = go (ltb 0 (joinings e edges)) refl
      where
        never : Joining e edges → ⊥
        never j =
            let ends = has-ends (get_or edges j.place no_merged_edge).from (get_or edges j.place no_merged_edge).to (get_or edges j.place no_merged_edge).soft e j.joining in
            found j.place
            (subst (Chain next j.place) (sym (c.head_at (e.from + e.to) (omega (arith, f.from_in, f.to_in))))
            (last-chain (e.from + e.to) edges next (length edges) c.next_at j.place j.inside (omega (arith, ends.tail, ends.head))))
            (c.keyed j.place j.inside ∙ key-same (as_table (get_or edges j.place no_merged_edge)) e j.joining)

        go : (b : Bool) → ltb 0 (joinings e edges) ≡ b → joinings e edges ≡ 0
        go true q = absurd (never (joined-place e edges (ltb-true 0 (joinings e edges) q)))
        go false q = omega (arith, ltb-false 0 (joinings e edges) q)

-- ---- a walk along a chain

-- what has the key and was on the chain is on what is left of it
pub record Searching (keys next : List ℕ) (start key slot : ℕ) : Type 0 where
  pub left : (k : ℕ) → Chain next k start → get_or keys k 0 ≡ key → Chain next k slot

pub searching-all : (keys next : List ℕ) (start key : ℕ) → Searching keys next start key start
searching-all keys next start key = record { left = λ k c h. c }

module _ (keys next : List ℕ) (start key slot : ℕ) (w : Searching keys next start key slot) where
  pub searching-on : (place : ℕ) → slot ≡ suc place → (get_or keys place 0 ≡ key → ⊥) → Searching keys next start key (get_or next place 0)
  searching-on place s other = record { left = λ k c h. go k h (w.left k c h) }
    where
      go : (k : ℕ) → get_or keys k 0 ≡ key → Chain next k slot → Chain next k (get_or next place 0)
      go k h (here e) = let same : k ≡ place = omega arith in absurd (other (sym (ap (λ (j : ℕ). get_or keys j 0) same) ∙ h))
      go k h (there j e rest) = let same : j ≡ place = omega arith in subst (λ (i : ℕ). Chain next k (get_or next i 0)) same rest

  pub searched-none : slot ≤ 0 → SlotFound keys next start key None
  searched-none z = λ k c h. go k (w.left k c h)
    where
      go : (k : ℕ) → Chain next k slot → ⊥
      go k (here e) = omega arith
      go k (there j e rest) = omega arith
