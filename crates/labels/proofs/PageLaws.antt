-- A page on which a text is put part by part, and other lists that are put together so.
use mathlib.Core.Path.{◌≡◌, refl, sym, ap, ◌∙◌}
use mathlib.Core.List.{List, [], ◌++◌, append_assoc, append-nil}
use Prim.Native.Nat.{◌+◌, ◌≤◌}
use native.Mathlib.Omega.{arith}
use lib.ListN.{length, length-append}

-- two parts that make up a whole
pub record Parts {A : Type 0} (whole front back : List A) : Type 0 where
  pub is : whole ≡ front ++ back

-- With the rest behind what is on the page it would be whole: what was there, and the text. Loops that put a text have this as their
-- invariant.
pub record Putting {A : Type 0} (old text page rest : List A) : Type 0 where
  pub completes : page ++ rest ≡ old ++ text

pub putting_start : {A : Type 0} (old text : List A) → Putting old text old text
putting_start old text = record { completes = refl }

module _ {A : Type 0} {old text page rest : List A} (p : Putting old text page rest) where
  -- there is room for the next part where there was room for the text
  pub putting-room : {part more : List A} → Parts rest part more → length page + length part ≤ length old + length text
  putting-room e = omega (arith, simp length-append at (ap length p.completes), simp length-append at (ap length e.is))

  -- one part more
  pub putting-part : {part more next : List A} → Parts rest part more → next ≡ page ++ part → Putting old text next more
  putting-part {part} {more} {next} e f =
      record { completes = ap (λ l. l ++ more) f ∙ append_assoc page part more ∙ ap (λ l. page ++ l) (sym e.is) ∙ p.completes }

  -- and none
  pub putting-end : rest ≡ [] → page ≡ old ++ text
  putting-end e = sym (append-nil page) ∙ ap (λ l. page ++ l) (sym e) ∙ p.completes

-- the two parts of a text, one put behind the other: there is room for the second, and the two leave the text
module _ {A : Type 0} (old : List A) {text front back page : List A} (e : Parts text front back) (s : page ≡ old ++ front) where
  pub parts-room : length page + length back ≡ length old + length text
  parts-room = omega (arith, simp length-append at (ap length s), simp length-append at (ap length e.is))

  pub parts-put : {next : List A} → next ≡ page ++ back → next ≡ old ++ text
  parts-put t = t ∙ ap (λ l. l ++ back) s ∙ append_assoc old front back ∙ ap (λ l. old ++ l) (sym e.is)
