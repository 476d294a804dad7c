-- The name calls: what they tell of a table that was read, from their numbers back to the outcome, and the bounds of a name.
use mathlib.Core.Path.{◌≡◌, refl, ap, subst}
use mathlib.Core.Bool.{Bool, true, false}
use mathlib.Core.List.{List, [], ◌∷◌}
use mathlib.Core.Logic.{◌⊎◌, inl, inr, ⊎_elim}
use Prim.Native.Nat.{ℕ, ◌+◌, ◌-◌, ◌≤◌, ◌<◌}
use native.Mathlib.Omega.{arith}
use borrow.Author.Tests.{lt-ltb, le-ltb, ltb-true}
use lib.Dec.{ltb}
use lib.ListN.{length, get_or, take, drop}
use Rattle.outcome.specs.declared.Refusal.{Refusal}
use Rattle.outcome.specs.declared.Refusal.TheVariants.{NoStep}
use Rattle.std.proofs.lemmas.List.{get_or_default}
use Rattle.std.specs.Prelude.{Ok, Err, slice_index_or}
use Rattle.table.specs.declared.types.Step.{Step}
use Rattle.table.specs.declared.types.Table.{Table}
use Rattle.queries.specs.declared.types.Name.{Name}
use Rattle.outcome.specs.Refusal.{Outcome, done, refused, then_do, demand, number_of, step_of}
use Rattle.table.specs.declared.rule.Rule.TheVariants.{Shortest}
use Rattle.table.specs.Limits.{max_name, max_table}
use Rattle.table.specs.Table.{Contents, read}
use Rattle.table.specs.Calls.{no_step, read_end, read_call}
use Rattle.queries.specs.Calls.{Stretch, name_of, name_found, stretch_numbers, name_call, name_numbers, stretch_of}
use Rattle.outcome.proofs.ToldLaws.{alone, told-refused, Values, told-done}
use Rattle.table.proofs.AnswerLaws.{read-refused, read-accepted}
use Rattle.table.proofs.FairLaws.{read-fair, read_short}
use Rattle.table.proofs.RangeLaws.{OfReader, read-range, reader-alone}

-- ---- from a table that was read

module _ (s : List ℕ) where
  pub missing : (t : Table) → read_end (Ok t) ≡ read_call s → (i : ℕ) → length t.steps.items ≤ i → name_numbers (Err NoStep) ≡ name_call s i
  unfolding name_call name_found
  missing t e i l = simp (read-accepted s e, le-ltb i (length t.steps.items) l)

  pub found : (t : Table) → read_end (Ok t) ≡ read_call s → (i : ℕ) → i < length t.steps.items → (none : Step)
      → name_numbers (Ok (record { start = (slice_index_or t.steps.items i none).start; len = (slice_index_or t.steps.items i none).len })) ≡ name_call s i
  unfolding name_call name_found
  found t e i l none = simp (read-accepted s e, lt-ltb i (length t.steps.items) l, get_or_default t.steps.items i none no_step l)

  pub name_refused : (f : Refusal) → read_end (Err f) ≡ read_call s → (i : ℕ) → name_numbers (Err f) ≡ name_call s i
  unfolding name_call name_found
  name_refused f e i = rw (read-refused s e)

-- ---- from the answer back to the outcome

module _ (s : List ℕ) (i : ℕ) where
  pub answer-found : {n : Name} → name_numbers (Ok n) ≡ name_call s i → name_found s i ≡ done (record { start = n.start; len = n.len })
  unfolding name_call
  answer-found {n} e = go (told-done stretch_numbers (name_found s i) e)
    where
      go : Values stretch_numbers (name_found s i) (n.start ∷ n.len ∷ []) → name_found s i ≡ done (record { start = n.start; len = n.len })
      go h =
          let w = h.says in
          let b : n.start ≡ h.value.start = cc in
          let c : n.len ≡ h.value.len = cc in
          rw (b, c) h.outcome

  pub answer-refused : {f : Refusal} → name_numbers (Err f) ≡ name_call s i → name_found s i ≡ refused f
  unfolding name_call
  answer-refused e = told-refused stretch_numbers (name_found s i) e

-- ---- a name that is found

-- it lies within the table and is short, and the table is no longer than an accepted one may be
record Bounds (s : List ℕ) (x : Stretch) : Type 0 where
  inside : x.start + x.len ≤ length s
  short : x.len ≤ max_name
  long : length s ≤ max_table Shortest

bounds : (s : List ℕ) (i : ℕ) {x : Stretch} → name_found s i ≡ done x → Bounds s x
unfolding name_found
bounds s i {x} e = go (read s) refl e
  where
    step : (t : Contents) (b : Bool) → read s ≡ done t → ltb i (length t.steps) ≡ b
        → demand b NoStep (done (name_of (get_or t.steps i no_step))) ≡ done x → Bounds s x
    step t true r l e =
        let fair = read-fair s r in
        let name = fair.each_step i (ltb-true i (length t.steps) l) in
        subst (Bounds s) (ap stretch_of e) (record { inside = name.inside; short = name.short; long = read_short s r })
    step t false r l e = let z : ◌≡◌ {A = ℕ} 0 1 = cc in absurd (omega arith)

    go : (o : Outcome Contents) → read s ≡ o
        → then_do o (λ t. demand (ltb i (length t.steps)) NoStep (done (name_of (get_or t.steps i no_step)))) ≡ done x → Bounds s x
    go (done t) r e = step t (ltb i (length t.steps)) r refl e
    go (refused f) r e = let z : ◌≡◌ {A = ℕ} 0 1 = cc in absurd (omega arith)

module _ (s : List ℕ) (i : ℕ) {start len : ℕ} (e : name_found s i ≡ done (record { start = start; len = len })) where
  pub name-inside : start + len ≤ length s
  name-inside = (bounds s i e).inside

  pub name-low : (len ≤ max_name) × (start ≤ max_table Shortest)
  name-low = let b = bounds s i e in (b.short, omega (arith, b.inside, b.long))

-- from a start to the end of a stretch are the bytes of that stretch
pub part_bytes : (start len : ℕ) (s : List ℕ) → take (start + len - start) (drop start s) ≡ take len (drop start s)
part_bytes start len s = let e : start + len - start ≡ len = omega arith in ap (λ k. take k (drop start s)) e

-- ---- a name that is refused

-- as the table is, or by 14
pub name-range : (s : List ℕ) (i : ℕ) {f : Refusal} → name_found s i ≡ refused f → OfReader f ⊎ (number_of f ≡ 14)
unfolding name_found
name-range s i {f} e = go (read s) refl e
  where
    test : (b : Bool) (x : Stretch) → demand b NoStep (done x) ≡ refused f → OfReader f ⊎ (number_of f ≡ 14)
    test true x e = let z : ◌≡◌ {A = ℕ} 0 1 = cc in absurd (omega arith)
    test false x e = let k : NoStep ≡ f = cc in inr (subst (λ x. number_of x ≡ 14) k refl)

    go : (o : Outcome Contents) → read s ≡ o
        → then_do o (λ t. demand (ltb i (length t.steps)) NoStep (done (name_of (get_or t.steps i no_step)))) ≡ refused f → OfReader f ⊎ (number_of f ≡ 14)
    go (done t) r e = test (ltb i (length t.steps)) _ e
    go (refused g) r e = let k : g ≡ f = cc in inl (subst OfReader k (read-range s r))

-- so that no step comes with it
pub name-alone : (s : List ℕ) (i : ℕ) (f : Refusal) → name_found s i ≡ refused f → step_of f ≡ 0
name-alone s i f e = ⊎_elim (λ l. reader-alone f l) (λ l. alone f (λ k. omega arith)) (name-range s i e)
