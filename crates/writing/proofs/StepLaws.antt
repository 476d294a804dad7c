-- Steps: what is written is read back, and what was read takes no fewer bytes than it has when written.
use mathlib.Core.Path.{◌≡◌, refl, sym, ap, subst, ◌∙◌}
use mathlib.Core.Bool.{Bool, true, false, ◌&&◌, cond}
use mathlib.Core.List.{List, [], ◌∷◌, ◌++◌}
use Prim.Native.Nat.{ℕ, zero, suc, ◌+◌, ◌≤◌, ◌<◌}
use native.Mathlib.Numerals.{add-one}
use native.Mathlib.Omega.{arith}
use borrow.Author.Tests.{leb-true, ltb-true}
use lib.Dec.{leb, ltb, eqb}
use lib.ListN.{length, get_or, take, drop, length-append}
use lib.Seq.{drop-cons}
use Rattle.table.specs.declared.rule.Rule.{Rule}
use Rattle.table.specs.declared.rule.Rule.TheVariants.{Shortest}
use Rattle.table.specs.declared.types.Kind.{Kind}
use Rattle.table.specs.declared.types.Kind.TheVariants.{Check, Adjust, Wait}
use Rattle.outcome.specs.declared.Refusal.TheVariants.{Cut, BadKind, OutOfRange, BadNameByte}
use Rattle.table.specs.declared.types.Step.{Step}
use Rattle.table.specs.Limits.{max_kind, max_tolerance, min_minutes, max_minutes, min_name, max_name, min_name_byte, max_name_byte}
use Rattle.table.specs.Number.{Read, got, fault, and_then, byte_at, number_in, many, counted}
use Rattle.table.specs.Table.{adjust_at, wait_at, kind_at, name_byte_at, name_at, named_at, step_at}
use Rattle.table.proofs.NumberLaws.{in-limits}
use Rattle.table.proofs.NameLaws.{byte-good}
use Rattle.table.proofs.InverseLaws.{never, came, passed, both, got-value, got-place}
use Rattle.table.proofs.PlaceLaws.{limits-place}
use Rattle.encoding.specs.Said.{SaidStep, said_step}
use Rattle.encoding.specs.Shortest.{short_number, short_kind, short_name, short_step}
use Rattle.table.specs.Fair.{KindInRange}
use Rattle.writing.specs.Sayable.{All, nothing, also, FairByte, FairName, SayableStep}
use Rattle.writing.proofs.StandsLaws.{Stands, stands-first, stands-then, stands-take, stands-in, stands-byte, stands-next}
use Rattle.writing.proofs.BackLaws.{limits-back, limits-short}
use Rattle.encoding.proofs.ShortLaws.{bytes_one}
use Rattle.writing.proofs.EachLaws.{Back}

-- ---- read back

module _ (s : List ℕ) where
  kind-back : (at : ℕ) (k : Kind) → KindInRange k → Stands s at (short_kind k) → kind_at Shortest s at ≡ got k (at + length (short_kind k))
  unfolding kind_at adjust_at wait_at
  kind-back at Check g h = rw (limits-back 0 max_kind BadKind s at 0 (omega arith) (omega arith) (omega arith) h)
  kind-back at (Adjust t) g h =
      let a = limits-back 0 max_kind BadKind s at 1 (omega arith) (omega arith) (omega arith) (stands-first (short_number 1) (short_number t) h) in
      let b = limits-back 0 max_tolerance OutOfRange s (at + length (short_number 1)) t (omega arith) g (omega arith) (stands-then (short_number 1) (short_number t) h) in
      let e : at + length (short_number 1) + length (short_number t) ≡ at + length (short_number 1 ++ short_number t) = omega (arith, length-append (short_number 1) (short_number t)) in
      rw (a, b) (ap (got (Adjust t)) e)
  kind-back at (Wait m) g h =
      let a = limits-back 0 max_kind BadKind s at 2 (omega arith) (omega arith) (omega arith) (stands-first (short_number 2) (short_number m) h) in
      let b = limits-back min_minutes max_minutes OutOfRange s (at + length (short_number 2)) m g.0 g.1 (omega arith) (stands-then (short_number 2) (short_number m) h) in
      let e : at + length (short_number 2) + length (short_number m) ≡ at + length (short_number 2 ++ short_number m) = omega (arith, length-append (short_number 2) (short_number m)) in
      rw (a, b) (ap (got (Wait m)) e)

  bytes_back : (at : ℕ) (name : List ℕ) → All FairByte name → Stands s at name → many (name_byte_at s) (length name) at ≡ got name (at + length name)
  unfolding many
  bytes_back at [] nothing h = let e : at ≡ at + 0 = omega arith in ap (got []) e
  bytes_back at (b ∷ name) (also g gs) h =
      let v = stands-byte h in
      let one = byte-good s at (stands-in h) (omega (arith, g.low)) (omega (arith, g.high)) in
      let rest = bytes_back (at + 1) name gs (stands-next h) in
      let e : at + 1 + length name ≡ at + suc (length name) = omega arith in
      rw (one, rest, v, e)

  named_back : (k : Kind) (at : ℕ) (name : List ℕ) → FairName name → Stands s at (short_name name)
      → named_at Shortest s k at ≡ got (record { kind = k; start = at + length (short_number (length name)); len = length name }) (at + length (short_name name))
  unfolding named_at name_at short_name
  named_back k at name g h =
      let a = limits-back min_name max_name OutOfRange s at (length name) g.some g.short (omega arith) (stands-first (short_number (length name)) name h) in
      let b = bytes_back (at + length (short_number (length name))) name g.bytes (stands-then (short_number (length name)) name h) in
      let e : at + length (short_number (length name)) + length name ≡ at + length (short_number (length name) ++ name) = omega (arith, length-append (short_number (length name)) name) in
      rw (a, b) (ap (got (record { kind = k; start = at + length (short_number (length name)); len = length name })) e)

  -- A step is read back with its name where the writer put it: the kind, the length and the name stand one behind the other.
  pub step_back : (at : ℕ) (st : SaidStep) → SayableStep st → Stands s at (short_step st) → Back (said_step s) (step_at Shortest s at) st (at + length (short_step st))
  unfolding step_at short_step short_name
  step_back at st g h =
      let kind = short_kind st.kind in
      let name = short_name st.name in
      let p = at + length kind in
      let behind = stands-then kind name h in
      let a = kind-back at st.kind g.kind (stands-first kind name h) in
      let b = named_back st.kind p st.name g.name behind in
      let e : p + length name ≡ at + length (kind ++ name) = omega (arith, length-append kind name) in
      record {
        value = record { kind = st.kind; start = p + length (short_number (length st.name)); len = length st.name };
        reads = rw (a, b, e);
        says = ap (λ n. record { kind = st.kind; name = n }) (stands-take (stands-then (short_number (length st.name)) st.name behind));
      }

-- ---- no fewer bytes

module _ (rule : Rule) (s : List ℕ) where
  kind-short : (at : ℕ) {k : Kind} {p : ℕ} → kind_at rule s at ≡ got k p → KindInRange k × (at + length (short_kind k) ≤ p)
  unfolding kind_at adjust_at wait_at
  kind-short at {k} {p} e =
      let c = came (number_in rule 0 max_kind BadKind s at) _ e in
      go (eqb c.value 0) (eqb c.value 1) c.place (limits-place rule 0 max_kind BadKind s at c.first).0 c.next
    where
      go : (t u : Bool) (q : ℕ) → at < q
          → cond t (got Check q) (cond u (and_then (number_in rule 0 max_tolerance OutOfRange s q) λ t p. got (Adjust t) p) (and_then (number_in rule min_minutes max_minutes OutOfRange s q) λ m p. got (Wait m) p)) ≡ got k p
          → KindInRange k × (at + length (short_kind k) ≤ p)
      go true u q h e =
          subst (λ k. KindInRange k × (at + length (short_kind k) ≤ p)) (got-value e)
          (tt, omega (arith, got-place e, bytes_one 0 (omega arith)))
      go false true q h e =
          let c = came (number_in rule 0 max_tolerance OutOfRange s q) _ e in
          subst (λ k. KindInRange k × (at + length (short_kind k) ≤ p)) (got-value c.next) (
            (in-limits rule 0 max_tolerance OutOfRange s q c.first).1,
            omega (arith, got-place c.next, bytes_one 1 (omega arith), length-append (short_number 1) (short_number c.value), limits-short rule 0 max_tolerance OutOfRange s q (omega arith) c.first),
          )
      go false false q h e =
          let c = came (number_in rule min_minutes max_minutes OutOfRange s q) _ e in
          subst (λ k. KindInRange k × (at + length (short_kind k) ≤ p)) (got-value c.next) (
            in-limits rule min_minutes max_minutes OutOfRange s q c.first,
            omega (arith, got-place c.next, bytes_one 2 (omega arith), length-append (short_number 2) (short_number c.value), limits-short rule min_minutes max_minutes OutOfRange s q (omega arith) c.first),
          )

  -- a byte of a name is the byte at its place, and in range
  byte-said : (at : ℕ) {b p : ℕ} → name_byte_at s at ≡ got b p → (drop at s ≡ b ∷ drop (at + 1) s) × FairByte b × (p ≡ at + 1)
  unfolding name_byte_at byte_at
  byte-said at {b} {p} e =
      let c = came (cond (ltb at (length s)) (got (get_or s at 0) (at + 1)) (fault Cut)) _ e in
      let good = passed (leb min_name_byte c.value && leb c.value max_name_byte) BadNameByte _ c.next in
      let range = both (leb min_name_byte c.value) (leb c.value max_name_byte) good.0 in
      go c.value c.place (ltb at (length s)) refl c.first (got-value good.1) (got-place good.1)
      (record { low = leb-true min_name_byte c.value range.0; high = leb-true c.value max_name_byte range.1 })
    where
      go : (v q : ℕ) (t : Bool) → ltb at (length s) ≡ t → cond t (got (get_or s at 0) (at + 1)) (fault Cut) ≡ got v q → v ≡ b → q ≡ p → FairByte v
          → (drop at s ≡ b ∷ drop (at + 1) s) × FairByte b × (p ≡ at + 1)
      go v q true l f d h g =
          let k : get_or s at 0 ≡ b = got-value f ∙ d in (
            rw (add-one at) (drop-cons s at 0 (ltb-true at (length s) l) ∙ ap (λ x. x ∷ drop (suc at) s) k),
            subst FairByte d g,
            omega (arith, got-place f),
          )
      go v q false l f d h g = never f

  bytes-said : (k at : ℕ) {l : List ℕ} {e : ℕ} → many (name_byte_at s) k at ≡ got l e → (take k (drop at s) ≡ l) × All FairByte l × (e ≡ at + k) × (length l ≡ k)
  unfolding many
  bytes-said zero at {l} {e} f = subst (λ l. (take 0 (drop at s) ≡ l) × All FairByte l × (e ≡ at + 0) × (length l ≡ 0)) (got-value f) (refl, nothing, omega (arith, got-place f), refl)
  bytes-said (suc k) at {l} {e} f =
      let one = came (name_byte_at s at) (λ a p. and_then (many (name_byte_at s) k p) (λ l e. got (a ∷ l) e)) f in
      let rest = came (many (name_byte_at s) k one.place) (λ l e. got (one.value ∷ l) e) one.next in
      let a = byte-said at one.first in
      let b = bytes-said k one.place rest.first in
      subst (λ l. (take (suc k) (drop at s) ≡ l) × All FairByte l × (e ≡ at + suc k) × (length l ≡ suc k)) (got-value rest.next) (
        rw (a.0, ← a.2) (ap (λ m. one.value ∷ m) b.0),
        also a.1 b.1,
        omega (arith, a.2, b.2, got-place rest.next),
        ap suc b.3,
      )

  named-short : (k : Kind) (at : ℕ) {st : Step} {p : ℕ} → named_at rule s k at ≡ got st p
      → (st.kind ≡ k) × FairName (said_step s st).name × (at + length (short_name (said_step s st).name) ≤ p)
  unfolding named_at name_at short_name
  named-short k at {st} {p} e =
      let l = came (number_in rule min_name max_name OutOfRange s at) _ e in
      let n = came (counted (many (name_byte_at s) l.value l.place)) _ l.next in
      let lim = in-limits rule min_name max_name OutOfRange s at l.first in
      let width = limits-short rule min_name max_name OutOfRange s at (omega arith) l.first in
      go l.value l.place n.value n.place lim.0 lim.1 width (many (name_byte_at s) l.value l.place) refl n.first n.next
    where
      go : (v q len e : ℕ) → min_name ≤ v → v ≤ max_name → at + length (short_number v) ≤ q
          → (x : Read (List ℕ)) → many (name_byte_at s) v q ≡ x → counted x ≡ got len e
          → ◌≡◌ {A = Read Step} (got (record { kind = k; start = q; len = len }) e) (got st p)
          → (st.kind ≡ k) × FairName (said_step s st).name × (at + length (short_name (said_step s st).name) ≤ p)
      go v q len e low high width (fault r) f c g = never c
      go v q len e low high width (got l o) f c g =
          let b = bytes-said v q f in
          let same : len ≡ v = sym (got-value c) ∙ b.3 in
          let name : take len (drop q s) ≡ l = ap (λ n. take n (drop q s)) same ∙ b.0 in
          subst (λ st. (st.kind ≡ k) × FairName (said_step s st).name × (at + length (short_name (said_step s st).name) ≤ p)) (got-value g) (
            refl,
            rw name (record { some = omega (arith, b.3); short = omega (arith, b.3); bytes = b.1 }),
            rw (name, b.3) (omega (arith, b.3, b.2, length-append (short_number v) l, got-place c, got-place g)),
          )

  -- A step that was read keeps the limits, and takes no fewer bytes than it has when written: a part of it never has fewer than its
  -- shortest form, and a name is as long here as there.
  pub step-short : (at : ℕ) (st : Step) (p : ℕ) → step_at rule s at ≡ got st p → SayableStep (said_step s st) × (at + length (short_step (said_step s st)) ≤ p)
  unfolding step_at short_step
  step-short at st p e =
      let c = came (kind_at rule s at) _ e in
      let a = kind-short at c.first in
      let b = named-short c.value c.place c.next in (
        record { kind = subst KindInRange (sym b.0) a.0; name = b.1 },
        rw b.0 (omega (arith, a.1, b.2, length-append (short_kind c.value) (short_name (said_step s st).name))),
      )
