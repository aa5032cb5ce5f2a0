-- Lines that are refused for their length alone. Assumes nothing.
use mathlib.Core.Path.{◌≡◌, ap, ◌∙◌}
use mathlib.Core.Bool.{Bool, ◌&&◌}
use mathlib.Core.List.{List, ◌∷◌, ◌++◌}
use Prim.Native.Nat.{ℕ, suc, ◌+◌, ◌≤◌, ◌<◌}
use native.Mathlib.Omega.{arith}
use lib.Dec.{T, leb, leb→le, ltb→lt}
use lib.Ieee.Fits.{and_l, and_r}
use lib.IntN.{ℤ, pos, negsuc}
use lib.ListN.{length, length-append}
use Rattle.cube.proofs.Table.{under}
use Rattle.put.specs.Decimal.{decimal_in, decimal}
use Rattle.line.specs.Line.{malformed, parse_line}
use Rattle.line.specs.Written.{in_byte, signed_text, hex_text, corner, line_of}
use Rattle.line.proofs.OnlyWritten.{not_written}

abbrev size : ℤ → ℕ
size z = length (signed_text z)

abbrev one_to_four : ℤ → Bool
one_to_four z = leb 1 (size z) && leb (size z) 4

number_length : (z : ℤ) → T (in_byte z) → T (one_to_four z)
unfolding signed_text decimal decimal_in
number_length (pos n) h = under 128 (λ k. one_to_four (pos k)) tt n (ltb→lt n 128 h)
number_length (negsuc n) h = under 128 (λ k. one_to_four (negsuc k)) tt n (ltb→lt n 128 h)

number_bounds : (z : ℤ) → T (in_byte z) → (1 ≤ size z) × (size z ≤ 4)
number_bounds z h =
    let t = number_length z h in
    (leb→le 1 (size z) (and_l (leb 1 (size z)) (leb (size z) 4) t), leb→le (size z) 4 (and_r (leb 1 (size z)) (leb (size z) 4) t))

line_length : (x y : ℤ) (a b c d e f g h : ℕ) → length (line_of x y a b c d e f g h) ≡ size x + suc (size y) + 72
unfolding line_of hex_text
line_length x y a b c d e f g h =
    length-append (signed_text x ++ (32 ∷ signed_text y)) (corner a ++ (corner b ++ (corner c ++ (corner d ++ (corner e ++ (corner f ++ (corner g ++ corner h)))))))
    ∙ ap (λ n. n + 72) (length-append (signed_text x) (32 ∷ signed_text y))

module _ (line : List ℕ) where
  -- two digits, a space and the corners are 75 bytes
  pub short : length line < 75 → parse_line line ≡ malformed
  short h =
      not_written line (λ x y q w.
      let l = ap length w.1.1.0 ∙ line_length x y _ _ _ _ _ _ _ _ in
      omega (arith, l, (number_bounds x w.0).0, (number_bounds y w.1.0).0))

  -- two numbers as -128, a space and the corners are 81 bytes
  pub long : 81 < length line → parse_line line ≡ malformed
  long h =
      not_written line (λ x y q w.
      let l = ap length w.1.1.0 ∙ line_length x y _ _ _ _ _ _ _ _ in
      omega (arith, l, (number_bounds x w.0).1, (number_bounds y w.1.0).1))
