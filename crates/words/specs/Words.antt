-- The answers for C: several numbers in one word of 64 bits, and what the functions of the header read out of it.
use Rattle.std.specs.Prelude.{cond, List, [], ◌∷◌, ℕ, ◌+◌, ◌*◌, ◌/◌, ◌%◌, eqb, get_or}

-- ---- what the header's functions do

-- the low byte: 0, or the number of the refusal
abbrev pub word_refusal : ℕ → ℕ
word_refusal w = w % 0x100

-- the step that comes with a loop
abbrev pub word_loop_step : ℕ → ℕ
word_loop_step w = w / 0x100 % 0x100

-- counts
abbrev pub word_steps : ℕ → ℕ
word_steps w = w / 0x100 % 0x100

abbrev pub word_edges : ℕ → ℕ
word_edges w = w / 0x10000

-- the name of a step
abbrev pub word_name_length : ℕ → ℕ
word_name_length w = w / 0x100 % 0x100

abbrev pub word_name_start : ℕ → ℕ
word_name_start w = w / 0x10000

-- a chart: 11 bits for the points, 25 for the total, 20 for the crossings
abbrev pub word_points : ℕ → ℕ
word_points w = w / 0x100 % 0x800

abbrev pub word_total : ℕ → ℕ
word_total w = w / 0x80000 % 0x2000000

abbrev pub word_crossings : ℕ → ℕ
word_crossings w = w / 0x100000000000

-- how many bytes were written
abbrev pub word_written : ℕ → ℕ
word_written w = w / 0x100

-- the case of a stroke
abbrev pub word_case : ℕ → ℕ
word_case w = w / 0x100 % 0x100

-- the floor of a row, where a chart has its total; the row's points and crossings are read as those of a chart
abbrev pub word_floor : ℕ → ℕ
word_floor w = w / 0x80000 % 0x2000000

-- ---- all that is read out of a word, as the numbers that a call tells

-- the refusal's number, and with a loop (11) the step
abbrev pub refusal_read : ℕ → List ℕ
refusal_read w = cond (eqb (word_refusal w) 11) (word_refusal w ∷ word_loop_step w ∷ []) (word_refusal w ∷ [])

-- 0 and values, or a refusal
abbrev pub word_read : (ℕ → List ℕ) → ℕ → List ℕ
word_read values w = cond (eqb (word_refusal w) 0) (0 ∷ values w) (refusal_read w)

unfoldable pub done_read : ℕ → List ℕ
done_read = word_read (λ w. [])

unfoldable pub written_read : ℕ → List ℕ
written_read = word_read (λ w. word_written w ∷ [])

unfoldable pub points_read : ℕ → List ℕ
points_read = word_read (λ w. word_points w ∷ [])

unfoldable pub stroke_read : ℕ → List ℕ
stroke_read = word_read (λ w. word_case w ∷ [])

unfoldable pub counts_read : ℕ → List ℕ
counts_read = word_read (λ w. word_steps w ∷ word_edges w ∷ [])

unfoldable pub name_read : ℕ → List ℕ
name_read = word_read (λ w. word_name_start w ∷ word_name_length w ∷ [])

unfoldable pub chart_read : ℕ → List ℕ
chart_read = word_read (λ w. word_points w ∷ word_total w ∷ word_crossings w ∷ [])

unfoldable pub order_read : ℕ → List ℕ
order_read = word_read (λ w. word_points w ∷ word_crossings w ∷ word_floor w ∷ [])

-- ---- the words: each number that a call tells times its unit, so that no bit is left free

abbrev pub second : ℕ
second = 0x100

abbrev pub third : ℕ
third = 0x10000

-- of the total and the crossings of a chart
abbrev pub total_unit : ℕ
total_unit = 0x80000

abbrev pub crossings_unit : ℕ
crossings_unit = 0x100000000000

-- what the points, the total and the crossings of a chart are below: 11, 25 and 20 bits
abbrev pub points_room : ℕ
points_room = 0x800

abbrev pub total_room : ℕ
total_room = 0x2000000

abbrev pub crossings_room : ℕ
crossings_room = 0x100000

-- 0 or a refusal's number, and above it what else is told: with a loop the step, the bytes of a table or the x that were written, the case
-- of a stroke, or nothing
abbrev pub done_word : List ℕ → ℕ
done_word numbers = get_or numbers 0 0 + get_or numbers 1 0 * second

-- the steps, and above them the edges
abbrev pub counts_word : List ℕ → ℕ
counts_word numbers = get_or numbers 0 0 + get_or numbers 1 0 * second + get_or numbers 2 0 * third

-- the length of a name, and above it its start in the table
abbrev pub name_word : List ℕ → ℕ
name_word numbers = get_or numbers 0 0 + get_or numbers 2 0 * second + get_or numbers 1 0 * third

-- the points, above them the total, and above that the crossings
abbrev pub chart_word : List ℕ → ℕ
chart_word numbers = get_or numbers 0 0 + get_or numbers 1 0 * second + get_or numbers 2 0 * total_unit + get_or numbers 3 0 * crossings_unit

-- the points of a row, above them the floor, and above that the crossings
abbrev pub order_word : List ℕ → ℕ
order_word numbers = get_or numbers 0 0 + get_or numbers 1 0 * second + get_or numbers 3 0 * total_unit + get_or numbers 2 0 * crossings_unit
