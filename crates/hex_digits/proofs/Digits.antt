-- A byte's value as a digit: by the definition's tests, and by the code's table. Assumes nothing.
use mathlib.Core.Path.{◌≡◌, refl, sym}
use mathlib.Core.Bool.{Bool, true, false, ◌&&◌, true≢false}
use Prim.Native.Nat.{ℕ, ◌+◌, ◌-◌, ◌<◌, ◌≤◌}
use lib.Dec.{T, leb, leb→le, eqb, eqb→eq}
use lib.ListN.{get_or}
use lib.Ieee.Fits.{and_l, and_r}
use borrow.Author.Tests.{leb-true}
use Rattle.cube.proofs.Table.{all_under, under}
use Rattle.hex_digits.specs.declared.TheConstants.{VALUES}
use Rattle.hex_digits.specs.Hex.{digit_of}

pub first : (p q : Bool) → p && q ≡ true → p ≡ true
first true q h = refl
first false q h = h

pub second : (p q : Bool) → p && q ≡ true → q ≡ true
second true q h = h
second false q h = absurd (true≢false (sym h))

-- whether a byte is from m to n
abbrev pub from_to : ℕ → ℕ → ℕ → Bool
from_to m n b = leb m b && leb b n

pub not_before : (m n b : ℕ) → from_to m n b ≡ true → m ≤ b
not_before m n b h = leb-true m b (first (leb m b) (leb b n) h)

module _ (b : ℕ) where
  pub number : from_to 48 57 b ≡ true → b - 48 ≡ digit_of b
  unfolding digit_of
  number h = rw h

  pub letter : from_to 48 57 b ≡ false → from_to 97 102 b ≡ true → b - 97 + 10 ≡ digit_of b
  unfolding digit_of
  letter g h = rw (g, h)

  pub other : from_to 48 57 b ≡ false → from_to 97 102 b ≡ false → 16 ≡ digit_of b
  unfolding digit_of
  other g h = rw (g, h)

-- the code's table has each byte's value, and none is above the value of what is no digit
abbrev entry_right : ℕ → Bool
entry_right b = eqb (get_or VALUES b 0) (digit_of b) && leb (digit_of b) 16

all_right : T (all_under 256 entry_right)
unfolding digit_of
all_right = tt

pub in_table : (b : ℕ) → b < 256 → (get_or VALUES b 0 ≡ digit_of b) × (digit_of b ≤ 16)
in_table b h =
    let t = under 256 entry_right all_right b h in
    let same = eqb (get_or VALUES b 0) (digit_of b) in
    let most = leb (digit_of b) 16 in
    (eqb→eq (get_or VALUES b 0) (digit_of b) (and_l same most t), leb→le (digit_of b) 16 (and_r same most t))
