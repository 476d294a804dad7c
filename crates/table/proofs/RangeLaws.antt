-- Which refusals the reader gives: those numbered 1 to 10, and 15.
use mathlib.Core.Path.{◌≡◌, refl, subst}
use mathlib.Core.Logic.{◌⊎◌, inl, inr, ⊎_elim}
use mathlib.Core.Bool.{Bool, true, false, not, ◌&&◌, cond}
use mathlib.Core.List.{List}
use Prim.Native.Nat.{ℕ, zero, suc, ◌≤◌}
use native.Mathlib.Omega.{arith}
use lib.Dec.{leb, ltb, eqb}
use lib.ListN.{length}
use Rattle.outcome.specs.declared.Refusal.{Refusal}
use Rattle.outcome.specs.declared.Refusal.TheVariants.{BadEdition, ManySteps, BadKind, OutOfRange, BadNameByte, ManyEdges, BadEnd, Spare, Overlong, BadFirmness}
use Rattle.table.specs.declared.rule.Rule.{Rule}
use Rattle.table.specs.declared.rule.Rule.TheVariants.{Shortest}
use Rattle.table.specs.Limits.{min_edition, min_name_byte, max_name_byte}
use Rattle.outcome.specs.Refusal.{refused, number_of, step_of}
use Rattle.outcome.proofs.ToldLaws.{alone}
use Rattle.table.specs.Number.{Read, got, fault, and_then, judge, byte_at, takes, number_at, number_in, many, counted}
use Rattle.table.specs.Table.{Contents, adjust_at, wait_at, kind_at, name_byte_at, name_at, named_at, step_at, end_at, edge_between, edge_at, firmness_at, table_edge_at, steps_at, edges_at, table_at, outcome, read_by, read, steps_within, edges_within, lists_within, table_within, read_within}

-- a refusal of the reader's own
abbrev pub OfReader : Refusal → Type 0
OfReader r = (number_of r ≤ 10) ⊎ (number_of r ≡ 15)

abbrev Own : {A : Type 0} → Read A → Type 0
Own (got a p) = Unit {0}
Own (fault r) = OfReader r

own-then : {A B : Type 0} (x : Read A) (f : A → ℕ → Read B) → Own x → ((a : A) (p : ℕ) → Own (f a p)) → Own (and_then x f)
own-then (got a p) f h k = k a p
own-then (fault r) f h k = h

own-judge : {A : Type 0} (t : Bool) (r : Refusal) (x : Read A) → OfReader r → Own x → Own (judge t r x)
own-judge true r x h k = k
own-judge false r x h k = h

own-cond : {A : Type 0} (t : Bool) (x y : Read A) → Own x → Own y → Own (cond t x y)
own-cond true x y h k = h
own-cond false x y h k = k

own-byte : (s : List ℕ) (at : ℕ) → Own (byte_at s at)
unfolding byte_at
own-byte s at = own-cond (ltb at (length s)) _ _ tt (inl (omega arith))

own-number : (rule : Rule) (s : List ℕ) (at : ℕ) → Own (number_at rule s at)
unfolding number_at
own-number rule s at =
    own-then (byte_at s at) _ (own-byte s at) (λ a p. own-cond (ltb a 0x80) _ _ tt
    (own-then (byte_at s p) _ (own-byte s p) (λ b q. own-cond (ltb b 0x80) _ _ (own-judge (takes rule b) Overlong _ (inl (omega arith)) tt)
    (own-then (byte_at s q) _ (own-byte s q) (λ c e. own-judge (ltb c 0x80 && takes rule c) Overlong _ (inl (omega arith)) tt)))))

own-limits : (rule : Rule) (low high : ℕ) (r : Refusal) (s : List ℕ) (at : ℕ) → OfReader r → Own (number_in rule low high r s at)
unfolding number_in
own-limits rule low high r s at h = own-then (number_at rule s at) _ (own-number rule s at) (λ v p. own-judge (leb low v && leb v high) r _ h tt)

own-many : {A : Type 0} (item : ℕ → Read A) → ((at : ℕ) → Own (item at)) → (k at : ℕ) → Own (many item k at)
unfolding many
own-many item h zero at = tt
own-many item h (suc k) at = own-then (item at) _ (h at) (λ a p. own-then (many item k p) _ (own-many item h k p) (λ l e. tt))

own-step : (rule : Rule) (s : List ℕ) (at : ℕ) → Own (step_at rule s at)
unfolding step_at kind_at adjust_at wait_at named_at name_at name_byte_at
own-step rule s at = own-then (kind_at rule s at) _ kind (λ k p. own-then (number_in rule _ _ OutOfRange s p) _ (own-limits rule _ _ OutOfRange s p (inl (omega arith))) (λ l q. own-then (name_at s l q) _ (name l q) (λ len e. tt)))
  where
    kind : Own (kind_at rule s at)
    kind =
        own-then (number_in rule _ _ BadKind s at) _ (own-limits rule _ _ BadKind s at (inl (omega arith))) (λ k p. own-cond (eqb k 0) _ _ tt
        (own-cond (eqb k 1) _ _
        (own-then (number_in rule _ _ OutOfRange s p) _ (own-limits rule _ _ OutOfRange s p (inl (omega arith))) (λ t q. tt))
        (own-then (number_in rule _ _ OutOfRange s p) _ (own-limits rule _ _ OutOfRange s p (inl (omega arith))) (λ t q. tt))))

    counts : (x : Read (List ℕ)) → Own x → Own (counted x)
    counts (got l e) h = tt
    counts (fault r) h = h

    name : (l q : ℕ) → Own (name_at s l q)
    name l q = counts (many (name_byte_at s) l q) (own-many (name_byte_at s) (λ at. own-then (byte_at s at) _ (own-byte s at) (λ b p. own-judge (leb min_name_byte b && leb b max_name_byte) BadNameByte _ (inl (omega arith)) tt)) l q)

own-edge : (rule : Rule) (s : List ℕ) (n at : ℕ) → Own (edge_at rule s n at)
unfolding edge_at end_at edge_between
own-edge rule s n at =
    own-then (end_at rule s n n at) _ (end n at) (λ f p. own-then (end_at rule s n f p) _ (end f p) (λ t q.
    own-then (number_in rule _ _ OutOfRange s q) _ (own-limits rule _ _ OutOfRange s q (inl (omega arith))) (λ g e.
    own-then (number_in rule _ _ OutOfRange s e) _ (own-limits rule _ _ OutOfRange s e (inl (omega arith))) (λ w o. tt))))
  where
    end : (but at : ℕ) → Own (end_at rule s n but at)
    end but at = own-then (number_at rule s at) _ (own-number rule s at) (λ v p. own-judge (ltb v n && not (eqb v but)) BadEnd _ (inl (omega arith)) tt)

own-firmness : (rule : Rule) (s : List ℕ) (edition at : ℕ) → Own (firmness_at rule s edition at)
unfolding firmness_at
own-firmness rule s edition at = own-cond (eqb edition min_edition) _ _ tt (own-limits rule _ _ BadFirmness s at (inr refl))

own-table-edge : (rule : Rule) (s : List ℕ) (edition n at : ℕ) → Own (table_edge_at rule s edition n at)
unfolding table_edge_at
own-table-edge rule s edition n at =
    own-then (edge_at rule s n at) _ (own-edge rule s n at) (λ e p. own-then (firmness_at rule s edition p) _ (own-firmness rule s edition p) (λ f q. tt))

own-table : (rule : Rule) (s : List ℕ) → Own (table_at rule s 0)
unfolding table_within lists_within steps_within edges_within
own-table rule s =
    own-then (number_in rule _ _ BadEdition s 0) _ (own-limits rule _ _ BadEdition s 0 (inl (omega arith))) (λ edition p.
    own-then (steps_at rule s p) _ (own-then (number_in rule _ _ ManySteps s p) _ (own-limits rule _ _ ManySteps s p (inl (omega arith))) (λ n q. own-many (step_at rule s) (own-step rule s) n q)) (λ steps q.
    own-then (edges_at rule s edition (length steps) q) _ (own-then (number_in rule _ _ ManyEdges s q) _ (own-limits rule _ _ ManyEdges s q (inl (omega arith))) (λ m e. own-many (table_edge_at rule s edition (length steps)) (own-table-edge rule s edition (length steps)) m e)) (λ edges e.
    own-judge (eqb e (length s)) Spare _ (inl (omega arith)) tt)))

-- the reader refuses by 1 to 10 and 15 only
pub read-range-by : (rule : Rule) (s : List ℕ) {f : Refusal} → read_by rule s ≡ refused f → OfReader f
unfolding read_within
read-range-by rule s {f} e = go (table_at rule s 0) (own-table rule s) e
  where
    go : (x : Read Contents) → Own x → outcome x ≡ refused f → OfReader f
    go (got c p) h e = let z : ◌≡◌ {A = ℕ} 0 1 = cc in absurd (omega arith)
    go (fault r) h e = let k : r ≡ f = cc in subst OfReader k h

pub read-range : (s : List ℕ) {f : Refusal} → read s ≡ refused f → OfReader f
read-range s e = read-range-by Shortest s e

-- so no step comes with a refusal of the reader's
pub reader-alone : (f : Refusal) → OfReader f → step_of f ≡ 0
reader-alone f o = alone f (λ k. ⊎_elim (λ (h : number_of f ≤ 10). omega arith) (λ (h : number_of f ≡ 15). omega arith) o)

pub read-alone-by : (rule : Rule) (s : List ℕ) {f : Refusal} → read_by rule s ≡ refused f → step_of f ≡ 0
read-alone-by rule s {f} e = reader-alone f (read-range-by rule s e)

pub read-alone : (s : List ℕ) {f : Refusal} → read s ≡ refused f → step_of f ≡ 0
read-alone s e = read-alone-by Shortest s e
