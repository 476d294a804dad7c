use Rattle.std.proofs.Common.{◌∷◌, ◌≡◌, ◌+◌, ◌≤◌, ◌<◌, [], List, ℕ, ap, map, drop, length, slice_index, add-one, arith, rules}
use Rattle.std.proofs.Math.Seq.{drop-cons}
use Rattle.std.proofs.lemmas.List.{drop_all}
use Rattle.labels.specs.Text.{blank, decimal, blanked}
use Rattle.labels.proofs.PageLaws.{Parts, putting-room, putting-part, putting-end}
use Rattle.labels.proofs.text.put_fields.Goals as goal

-- the next number and those behind it
next-field : (values : List ℕ) (i : ℕ) → i < length values
    → Parts (blanked (map decimal (drop i values))) (blank ∷ decimal (slice_index values i)) (blanked (map decimal (drop (i + 1) values)))
unfolding blanked
next-field values i h = record { is = rw (add-one, drop-cons values i 0) }

last-field : (values : List ℕ) (i : ℕ) → length values ≤ i → blanked (map decimal (drop i values)) ≡ []
unfolding blanked
last-field values i h = ap (λ l. blanked (map decimal l)) (drop_all i values h)

pub put_marked-requires : goal.put_marked-requires
put_marked-requires g c =
    let room = putting-room c.loop-value.invariant (next-field c.args.values.now c.loop-value.value-index c.loop-value-test.true) in
    (search rules, omega arith)

pub loop-value-preserved : goal.loop-value-preserved
loop-value-preserved g c =
    putting-part c.loop-value.invariant (next-field c.args.values.now c.loop-value.value-index c.loop-value-test.true) c.put_marked.ensures

pub returns : goal.returns
returns g c = putting-end c.loop-value.invariant (last-field c.args.values.now c.loop-value.value-index c.loop-value-test.false)
