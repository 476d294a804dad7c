use mathlib.Core.Path.{sym, ap, ◌∙◌}
use native.Mathlib.Omega.{arith}
use lib.ListN.{length, set, length-set}
use Rattle.arrayvec.proofs.ArrayVecLemmas.{items-with_items}
use Rattle.merging.proofs.MergingLaws.{merging-none, few-so-far, joined-light, so-far-links, so-far-start, found-low, merging-join, merging_start}
use Rattle.merging.proofs.merge_edges.Goals as goal
use Rattle.merging.proofs.merge_edges.Goals.{in-Some, in-None}

pub loop-i-init : goal.loop-i-init
loop-i-init c = rw (c.new-list.ensures, c.new-keys.ensures, c.new-next.ensures) (merging-none _)

pub find_slot-requires-clause-links : goal.find_slot-requires-clause-links
find_slot-requires-clause-links c =
    let held = c.loop-i.invariant in
    rw (c.deref.ensures.0, c.deref-in-loop-i.ensures.0) (so-far-links _ c.requires _ c.loop-i-test.true _ _ _ _ held, omega (arith, held.chained.keys_long, held.chained.next_long))

pub find_slot-requires-clause-start_in_bounds : goal.find_slot-requires-clause-start_in_bounds
find_slot-requires-clause-start_in_bounds c =
    rw c.deref-in-loop-i.ensures.0 (so-far-start _ c.requires _ c.loop-i-test.true _ _ _ _ c.loop-i.invariant)

pub joined-requires : goal.joined-requires
joined-requires c =
    let inside = c.loop-i-test.true in
    let held = c.loop-i.invariant in
    let low = found-low _ c.requires _ inside _ _ _ _ held _ _ _ c.deref.ensures.0 c.deref-in-loop-i.ensures.0 c.key_of-key.ensures _ c.in-Some.ensures in
    rw c.deref-in-Some.ensures.0 (joined-light _ c.requires _ inside _ _ _ _ held _ low)

pub push-requires : goal.push-requires
push-requires c = (omega arith, few-so-far _ c.requires _ c.loop-i-test.true _ _ _ _ c.loop-i.invariant)

pub push-requires-in-None : goal.push-requires-in-None
push-requires-in-None c =
    let held = c.loop-i.invariant in
    (omega arith, omega (arith, few-so-far _ c.requires _ c.loop-i-test.true _ _ _ _ held, held.chained.keys_long))

pub push-requires-in-None-2 : goal.push-requires-in-None-2
push-requires-in-None-2 c =
    let held = c.loop-i.invariant in
    (omega arith, omega (arith, few-so-far _ c.requires _ c.loop-i-test.true _ _ _ _ held, held.chained.next_long))

pub loop-i-preserved : goal.loop-i-preserved
loop-i-preserved c =
    let inside = c.loop-i-test.true in
    let held = c.loop-i.invariant in
    let again = merging-join _ c.requires _ inside _ _ _ _ held _ _ _ c.deref.ensures.0 c.deref-in-loop-i.ensures.0 c.key_of-key.ensures in
    let first = merging_start _ c.requires _ inside _ _ _ _ held _ _ _ c.deref.ensures.0 c.deref-in-loop-i.ensures.0 c.key_of-key.ensures in
    elim c.match-find_slot.branch [
      | in-Some w ↦ again _ w.in-Some.ensures _ _ _ _ _ _ w.deref-in-Some.ensures.0 w.joined.ensures
          (ap (λ x. x.items) w.list-is ∙ items-with_items c.loop-i.list _ (length-set _ _ _ ∙ ap length w.deref_mut.ensures.value) ∙ ap (λ l. set l w.in-Some.place w.joined.result) w.deref_mut.ensures.value) (ap (λ x. x.items) w.keys-is) (ap (λ x. x.items) w.next-is) w.heads-is
      | in-None w ↦ first w.in-None.ensures _ _ _ _ _ _ w.alone.ensures
          (w.len.ensures.value ∙ ap (λ x. length x.items) (sym w.next-is)) (ap (λ x. x.items) w.list-is ∙ w.push.ensures.items)
          (ap (λ x. x.items) w.keys-is ∙ w.push-in-None.ensures.items) (ap (λ x. x.items) w.next-is ∙ w.push-in-None-2.ensures.items) w.heads-is
    ]
