-- A number below 2^32 is read back from its eight hex digits. Assumes nothing.
use mathlib.Core.Path.{◌≡◌, refl, ◌∙◌}
use Prim.Native.Nat.{ℕ, ◌+◌, ◌*◌, ◌/◌, ◌%◌, ◌<◌}
use native.Mathlib.Omega.{arith}
use borrow.Author.Tests.{lt-ltb}
use Rattle.cube.proofs.Table.{values_of, agree}
use Rattle.hex_digits.specs.Hex.{digit_of, joined, word_of}
use Rattle.line.specs.Written.{hex_digit, hex_text}

digits : values_of (λ d. digit_of (hex_digit d)) 16 ≡ values_of (λ d. d) 16
unfolding digit_of
digits = refl

digit_back : (d : ℕ) → d < 16 → digit_of (hex_digit d) ≡ d
digit_back = agree (λ d. digit_of (hex_digit d)) (λ d. d) 16 digits

joins : (base high low x y : ℕ) → high ≡ x → low ≡ y → x < base → y < base → joined base high low ≡ x * base + y
unfolding joined
joins base high low x y h l g k = rw (h, l, lt-ltb x base g, lt-ltb y base k)

-- ---- two digits, four, and eight
abbrev pair : ℕ → ℕ
pair n = joined 16 (digit_of (hex_digit (n / 16 % 16))) (digit_of (hex_digit (n % 16)))

abbrev half : ℕ → ℕ
half n = joined 256 (pair (n / 16 / 16)) (pair n)

pair_back : (n : ℕ) → pair n ≡ n % 256
pair_back n =
    joins 16 (digit_of (hex_digit (n / 16 % 16))) (digit_of (hex_digit (n % 16))) (n / 16 % 16) (n % 16)
    (digit_back (n / 16 % 16) (omega arith)) (digit_back (n % 16) (omega arith)) (omega arith) (omega arith)
    ∙ omega arith

half_back : (n : ℕ) → half n ≡ n % 65536
half_back n =
    joins 256 (pair (n / 16 / 16)) (pair n) (n / 16 / 16 % 256) (n % 256)
    (pair_back (n / 16 / 16)) (pair_back n) (omega arith) (omega arith)
    ∙ omega arith

pub word_back : (bits : ℕ) → bits < 0x100000000 → word_of (hex_text 8 bits) 0 ≡ bits
unfolding hex_text
word_back n h =
    joins 65536 (half (n / 16 / 16 / 16 / 16)) (half n) (n / 16 / 16 / 16 / 16 % 65536) (n % 65536)
    (half_back (n / 16 / 16 / 16 / 16)) (half_back n) (omega arith) (omega arith)
    ∙ omega arith
