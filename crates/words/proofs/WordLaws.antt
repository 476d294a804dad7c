-- Words are taken apart into the numbers that were packed into them.
use mathlib.Core.Path.{◌≡◌, refl, sym, ap, ◌∙◌}
use mathlib.Core.List.{List, [], ◌∷◌}
use Prim.Native.Nat.{ℕ, ◌+◌, ◌*◌, ◌/◌, ◌%◌, ◌<◌}
use native.Mathlib.Omega.{arith}
use lib.ListN.{get_or}
use Rattle.outcome.specs.declared.Refusal.{Refusal}
use Rattle.outcome.specs.declared.Refusal.TheVariants.{Cut, Overlong, BadEdition, ManySteps, BadKind, OutOfRange, BadNameByte, ManyEdges, BadEnd, Spare, Loop, ManyPoints, ShortBuffer, NoStep, BadFirmness, LargeChart, BadRow, ManyTries}
use Rattle.outcome.specs.Refusal.{numbers_of, step_of, refusal_in}
use Rattle.words.specs.Words.{word_refusal, word_steps, word_edges, word_name_start, word_name_length, word_points, word_total, word_crossings, word_written, word_case, word_floor, word_read, done_read, written_read, points_read, stroke_read, counts_read, name_read, chart_read, order_read, second, points_room, total_room, done_word, counts_word, name_word, chart_word, order_word}

-- ---- refusals

-- a refusal is read out of its word, whatever values another word of the call has
pub refusal-read : (values : ℕ → List ℕ) (f : Refusal) → step_of f < second → word_read values (done_word (numbers_of f)) ≡ numbers_of f
refusal-read values Cut h = refl
refusal-read values Overlong h = refl
refusal-read values BadEdition h = refl
refusal-read values ManySteps h = refl
refusal-read values BadKind h = refl
refusal-read values OutOfRange h = refl
refusal-read values BadNameByte h = refl
refusal-read values ManyEdges h = refl
refusal-read values BadEnd h = refl
refusal-read values Spare h = refl
refusal-read values (Loop s) h = rw (low, eleven, step)
  where
    low : (11 + s * 0x100) % 0x100 ≡ 11
    low = omega arith

    eleven : (11 + s * 0x100) / 0x100 ≡ s
    eleven = omega arith

    step : s % 0x100 ≡ s
    step = omega arith
refusal-read values ManyPoints h = refl
refusal-read values ShortBuffer h = refl
refusal-read values NoStep h = refl
refusal-read values BadFirmness h = refl
refusal-read values LargeChart h = refl
refusal-read values BadRow h = refl
refusal-read values ManyTries h = refl

-- no more than two numbers come with a refusal, and one alone but with a loop, so its word is the same in every call
pub refusal-short : (f : Refusal) → (get_or (numbers_of f) 2 0 ≡ 0) × (get_or (numbers_of f) 3 0 ≡ 0)
refusal-short Cut = (refl, refl)
refusal-short Overlong = (refl, refl)
refusal-short BadEdition = (refl, refl)
refusal-short ManySteps = (refl, refl)
refusal-short BadKind = (refl, refl)
refusal-short OutOfRange = (refl, refl)
refusal-short BadNameByte = (refl, refl)
refusal-short ManyEdges = (refl, refl)
refusal-short BadEnd = (refl, refl)
refusal-short Spare = (refl, refl)
refusal-short (Loop s) = (refl, refl)
refusal-short ManyPoints = (refl, refl)
refusal-short ShortBuffer = (refl, refl)
refusal-short NoStep = (refl, refl)
refusal-short BadFirmness = (refl, refl)
refusal-short LargeChart = (refl, refl)
refusal-short BadRow = (refl, refl)
refusal-short ManyTries = (refl, refl)

-- so much is said of a word by its call: the numbers read out of it, and which word it is
module _ (f : Refusal) (low : step_of f < second) {w : ℕ} (is : w ≡ done_word (numbers_of f)) {numbers : List ℕ} (e : numbers_of f ≡ numbers) where
  read_back : (values : ℕ → List ℕ) → word_read values w ≡ numbers
  read_back values = ap (word_read values) is ∙ refusal-read values f low ∙ e

  pub done_refused : (done_read w ≡ numbers) × (w ≡ done_word numbers)
  unfolding done_read
  done_refused = (read_back (λ w. []), is ∙ ap done_word e)

  pub written-refused : (written_read w ≡ numbers) × (w ≡ done_word numbers)
  unfolding written_read
  written-refused = (read_back (λ w. word_written w ∷ []), is ∙ ap done_word e)

  pub points-refused : (points_read w ≡ numbers) × (w ≡ done_word numbers)
  unfolding points_read
  points-refused = (read_back (λ w. word_points w ∷ []), is ∙ ap done_word e)

  pub stroke-refused : stroke_read w ≡ numbers
  unfolding stroke_read
  stroke-refused = read_back (λ w. word_case w ∷ [])

  pub counts-refused : (counts_read w ≡ numbers) × (w ≡ counts_word numbers)
  unfolding counts_read
  counts-refused = (read_back (λ w. word_steps w ∷ word_edges w ∷ []), omega (arith, is, refusal-short f) ∙ ap counts_word e)

  pub chart-refused : (chart_read w ≡ numbers) × (w ≡ chart_word numbers)
  unfolding chart_read
  chart-refused = (read_back (λ w. word_points w ∷ word_total w ∷ word_crossings w ∷ []), omega (arith, is, refusal-short f) ∙ ap chart_word e)

  pub order-refused : (order_read w ≡ numbers) × (w ≡ order_word numbers)
  unfolding order_read
  order-refused = (read_back (λ w. word_points w ∷ word_crossings w ∷ word_floor w ∷ []), omega (arith, is, refusal-short f) ∙ ap order_word e)

  -- the name call never tells a loop
  pub name-refused : step_of f ≡ 0 → (name_read w ≡ numbers) × (w ≡ name_word numbers)
  unfolding name_read
  name-refused alone = (read_back (λ w. word_name_start w ∷ word_name_length w ∷ []), omega (arith, is, refusal-short f, alone) ∙ ap name_word e)

-- ---- values

-- Each word unpacks to the numbers packed into it: one law for each, over what the functions of the header do.

pub done-unpacks : {w : ℕ} → w ≡ done_word (0 ∷ []) → done_read w ≡ 0 ∷ []
unfolding done_read
done-unpacks is = ap done_read is

module _ (len : ℕ) {w : ℕ} (is : w ≡ done_word (0 ∷ len ∷ [])) where
  written-zero : word_refusal w ≡ 0
  written-zero = omega (arith, is)

  written-rest : word_written w ≡ len
  written-rest = omega (arith, is)

  pub written-unpacks : written_read w ≡ 0 ∷ len ∷ []
  unfolding written_read
  written-unpacks = rw (written-zero, written-rest)

  -- few enough are also read as points
  written-points : len < points_room → word_points w ≡ len
  written-points h = omega (arith, is)

  pub points-unpacks : len < points_room → points_read w ≡ 0 ∷ len ∷ []
  unfolding points_read
  points-unpacks h = rw (written-zero, written-points h)

  -- and the case of a stroke
  written-case : len < second → word_case w ≡ len
  written-case h = omega (arith, is)

  pub stroke-unpacks : len < second → stroke_read w ≡ 0 ∷ len ∷ []
  unfolding stroke_read
  stroke-unpacks h = rw (written-zero, written-case h)

module _ (steps edges : ℕ) (h : steps < second) {w : ℕ} (is : w ≡ counts_word (0 ∷ steps ∷ edges ∷ [])) where
  counts-low : word_refusal w ≡ 0
  counts-low = omega (arith, is)

  counts-first : word_steps w ≡ steps
  counts-first = omega (arith, is)

  counts-rest : word_edges w ≡ edges
  counts-rest = omega (arith, is)

  pub counts-unpacks : counts_read w ≡ 0 ∷ steps ∷ edges ∷ []
  unfolding counts_read
  counts-unpacks = rw (counts-low, counts-first, counts-rest)

module _ (start len : ℕ) (h : len < second) {w : ℕ} (is : w ≡ name_word (0 ∷ start ∷ len ∷ [])) where
  name-low : word_refusal w ≡ 0
  name-low = omega (arith, is)

  name-first : word_name_length w ≡ len
  name-first = omega (arith, is)

  name-rest : word_name_start w ≡ start
  name-rest = omega (arith, is)

  pub name-unpacks : name_read w ≡ 0 ∷ start ∷ len ∷ []
  unfolding name_read
  name-unpacks = rw (name-low, name-first, name-rest)

module _ (points total crossings : ℕ) (few : points < points_room) (low : total < total_room) {w : ℕ} (is : w ≡ chart_word (0 ∷ points ∷ total ∷ crossings ∷ [])) where
  chart-low : word_refusal w ≡ 0
  chart-low = omega arith

  chart-points : word_points w ≡ points
  chart-points = omega arith

  chart-total : word_total w ≡ total
  chart-total = omega arith

  chart-crossings : word_crossings w ≡ crossings
  chart-crossings = omega arith

  pub chart-unpacks : chart_read w ≡ 0 ∷ points ∷ total ∷ crossings ∷ []
  unfolding chart_read
  chart-unpacks = rw (chart-low, chart-points, chart-total, chart-crossings)

module _ (points crossings floor : ℕ) (few : points < points_room) (low : floor < total_room) {w : ℕ} (is : w ≡ order_word (0 ∷ points ∷ crossings ∷ floor ∷ [])) where
  order-low : word_refusal w ≡ 0
  order-low = omega arith

  order-points : word_points w ≡ points
  order-points = omega arith

  order-floor : word_floor w ≡ floor
  order-floor = omega arith

  order-crossings : word_crossings w ≡ crossings
  order-crossings = omega arith

  pub order-unpacks : order_read w ≡ 0 ∷ points ∷ crossings ∷ floor ∷ []
  unfolding order_read
  order-unpacks = rw (order-low, order-points, order-crossings, order-floor)

-- so much is said of a word that tells values: the numbers read out of it, and which word it is
told : (read : ℕ → List ℕ) (word : List ℕ → ℕ) {w : ℕ} {values numbers : List ℕ} → read w ≡ values → w ≡ word values → values ≡ numbers
    → (read w ≡ numbers) × (w ≡ word numbers)
told read word u is e = (u ∙ e, is ∙ ap word e)

pub done-told : {numbers : List ℕ} → 0 ∷ [] ≡ numbers → (done_read 0 ≡ numbers) × (0 ≡ done_word numbers)
done-told e = told done_read done_word (done-unpacks refl) refl e

pub written-told : (len : ℕ) {w : ℕ} → w ≡ done_word (0 ∷ len ∷ []) → {numbers : List ℕ} → 0 ∷ len ∷ [] ≡ numbers
    → (written_read w ≡ numbers) × (w ≡ done_word numbers)
written-told len is e = told written_read done_word (written-unpacks len is) is e

pub points-told : (points : ℕ) → points < points_room → {w : ℕ} → w ≡ done_word (0 ∷ points ∷ []) → {numbers : List ℕ} → 0 ∷ points ∷ [] ≡ numbers
    → (points_read w ≡ numbers) × (w ≡ done_word numbers)
points-told points few is e = told points_read done_word (points-unpacks points is few) is e

pub counts-told : (steps edges : ℕ) → steps < second → {w : ℕ} → w ≡ counts_word (0 ∷ steps ∷ edges ∷ []) → {numbers : List ℕ}
    → 0 ∷ steps ∷ edges ∷ [] ≡ numbers → (counts_read w ≡ numbers) × (w ≡ counts_word numbers)
counts-told steps edges h is e = told counts_read counts_word (counts-unpacks steps edges h is) is e

pub name-told : (start len : ℕ) → len < second → {w : ℕ} → w ≡ name_word (0 ∷ start ∷ len ∷ []) → {numbers : List ℕ}
    → 0 ∷ start ∷ len ∷ [] ≡ numbers → (name_read w ≡ numbers) × (w ≡ name_word numbers)
name-told start len h is e = told name_read name_word (name-unpacks start len h is) is e

pub chart-told : (points total crossings : ℕ) → points < points_room → total < total_room → {w : ℕ} → w ≡ chart_word (0 ∷ points ∷ total ∷ crossings ∷ [])
    → {numbers : List ℕ} → 0 ∷ points ∷ total ∷ crossings ∷ [] ≡ numbers → (chart_read w ≡ numbers) × (w ≡ chart_word numbers)
chart-told points total crossings few low is e = told chart_read chart_word (chart-unpacks points total crossings few low is) is e

pub order-told : (points crossings floor : ℕ) → points < points_room → floor < total_room → {w : ℕ} → w ≡ order_word (0 ∷ points ∷ crossings ∷ floor ∷ [])
    → {numbers : List ℕ} → 0 ∷ points ∷ crossings ∷ floor ∷ [] ≡ numbers → (order_read w ≡ numbers) × (w ≡ order_word numbers)
order-told points crossings floor few low is e = told order_read order_word (order-unpacks points crossings floor few low is) is e

-- ---- demand 3, from the answer to the word

-- the same is promised where the same is told
pub same-told : {numbers : List ℕ} {P : Type 0} {told : List ℕ} → told ≡ numbers → {read : List ℕ} → read ≡ numbers → (refusal_in told ≡ 0 → P)
    → refusal_in read ≡ 0 → P
same-told e r b zero = b (ap refusal_in (e ∙ sym r) ∙ zero)
