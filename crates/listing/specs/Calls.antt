-- The call of the printer: what it answers, and what the lent buffer holds at its end.
use Rattle.std.specs.Prelude.{cond, List, [], ◌∷◌, ◌++◌, ℕ, leb, length, take, drop, Result, Ok, Err}
use Rattle.outcome.specs.declared.Refusal.TheVariants.{ShortBuffer}
use Rattle.table.specs.Limits.{max_input}
use Rattle.outcome.specs.Refusal.{number_of}
use Rattle.listing.specs.declared.TooShort.{TooShort}
use Rattle.listing.specs.Listing.{listing}

-- a call's answer in numbers, and the buffer at its end
pub record ListingEnd : Type 0 where
  pub numbers : List ℕ
  pub out : List ℕ

-- The lines are the first bytes of the buffer, and the others stay: 0 and how many they are. A buffer with fewer bytes stays as it was:
-- refusal 13 and how many there are to be. (Document 01 has no call for the listing, so what comes with 13 is ours.)
abbrev pub listing_end : List ℕ → List ℕ → ListingEnd
listing_end lines old =
    cond (leb (length lines) (length old)) (record { numbers = 0 ∷ length lines ∷ []; out = lines ++ drop (length lines) old })
    (record { numbers = number_of ShortBuffer ∷ length lines ∷ []; out = old })

unfoldable pub listing_call : List ℕ → List ℕ → ListingEnd
listing_call bytes old = listing_end (listing bytes) old

-- what the code answers, in numbers
abbrev pub listing_numbers : Result ℕ TooShort → List ℕ
listing_numbers (Ok len) = 0 ∷ len ∷ []
listing_numbers (Err short) = number_of ShortBuffer ∷ short.needed ∷ []

-- what the program prints for all that comes on its standard input: it judges the first bytes of a longer input
unfoldable pub printed : List ℕ → List ℕ
printed input = listing (take max_input input)
