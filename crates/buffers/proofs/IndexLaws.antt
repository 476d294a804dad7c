-- What a read, a store or a turn of a loop asks, over plain numbers. A need that is one of these laws applied is checked much faster than
-- one that omega proves among all that is known at its place.
use mathlib.Core.Path.{◌≡◌}
use Prim.Native.Nat.{ℕ, ◌+◌, ◌-◌, ◌*◌, ◌^◌, ◌≤◌, ◌<◌}
use borrow.Author.Rules.{scaled_Fits}
use native.Mathlib.Nat.{lt_of_lt_of_le}
use native.Mathlib.Omega.{arith}
use mir.Syntax.{w64}
use mir.Val.{Fits}

-- ---- places

-- the offset of an entry of a slice, whose entries have k bytes each and all of them fewer than 2 ^ 63, fits a word
pub offset : (i n k : ℕ) → i < n → n * k < 2 ^ 63 → Fits w64 (i * k)
offset i n k h few = scaled_Fits i n k h few

-- so it does where there are no more entries than a limit allows
pub scaled : (i n most k : ℕ) → i < n → n ≤ most → most * k < 2 ^ 63 → Fits w64 (i * k)
scaled i n most k h l few = scaled_Fits i most k (lt_of_lt_of_le h l) few

-- a place some bytes on from within a slice fits a word; the second premise is what a reference to bytes tells of their number
pub near : (n at k : ℕ) → k ≤ 2 ^ 63 → n * 1 < 2 ^ 63 → at < n → Fits w64 (at + k)
near n at k l r h = omega arith

-- what a test on the bytes left says
pub more : (n at k : ℕ) → k < n - at → at + k < n
more n at k h = omega arith

pub few : (n at k : ℕ) → n - at ≤ k → n ≤ at + k
few n at k h = omega arith

-- ---- lengths

-- an index stays inside where the length is the same, or larger
pub inside-same : (i n m : ℕ) → i < n → m ≡ n → i < m
inside-same i n m h e = omega arith

pub inside-more : (i n m : ℕ) → i < n → n ≤ m → i < m
inside-more i n m h k = omega arith

-- a buffer of n entries has room for n, and keeps its room where its length is kept
pub room : (m n : ℕ) → m ≡ n → n ≤ m
room m n e = omega arith

pub wide : (m n k : ℕ) → n ≤ m → k ≡ m → n ≤ k
wide m n k h e = omega arith

-- ---- a loop that counts up to n: the next number is no larger than n, fits where n fits, and is nearer to it

pub next_le : (i n : ℕ) → i < n → i + 1 ≤ n
next_le i n h = omega arith

pub next_fits : (i n : ℕ) → i < n → Fits w64 n → Fits w64 (i + 1)
next_fits i n h f = omega arith

pub nearer : (i n : ℕ) → i < n → n - (i + 1) < n - i
nearer i n h = omega arith

-- ---- above 0, or not

pub above : (a b : ℕ) → a ≡ b → 0 < a → 0 < b
above a b e h = omega arith

pub none : (a b : ℕ) → a ≡ b → a ≤ 0 → b ≡ 0
none a b e h = omega arith

pub positive : (a : ℕ) → (a ≡ 0 → ⊥) → 0 < a
positive a h = omega (arith, h)

pub some : (a b : ℕ) → a < b → 1 ≤ b
some a b h = omega arith
