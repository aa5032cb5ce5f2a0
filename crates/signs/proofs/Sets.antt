-- The set of a cube, bit by bit. Assumes nothing.
use mathlib.Core.Path.{◌≡◌, refl, sym, ◌∙◌, ap}
use mathlib.Core.Bool.{Bool, true, false, cond}
use mathlib.Core.List.{List, [], ◌∷◌, map}
use Prim.Native.Nat.{ℕ, zero, suc, ◌+◌, ◌-◌, ◌*◌, ◌/◌, ◌%◌, ◌^◌, ◌<◌}
use native.Mathlib.Nat.{div-div-eq-div-mul, pow-succ', zero-div, div-one}
use native.Mathlib.Omega.{arith}
use lib.Dec.{lit≤}
use lib.ListN.{get_or, replicate}
use lib.Lanes.{zip2, top, mask_l}
use lib.Ieee.{Float, lt}
use mir.Syntax.{w32}
use Rattle.std.proofs.lemmas.Simd.{tops_compared, mask_l-mod}
use Rattle.binary32.specs.Numbers.{plus_zero}
use Rattle.cube.specs.declared.Cube.{Cube}
use Rattle.cube.specs.Bits.{bit_of, number_of}
use Rattle.cube.specs.Corners.{corners, value_at, corner_of}
use Rattle.cube.proofs.Bounds.{number_below}
use Rattle.cube.proofs.Table.{agree}
use Rattle.signs.specs.Sets.{eight, bit, set_by, set_of, BitsBelong}

abbrev belong : Cube → List Bool
belong q = map (λ n. lt plus_zero (corner_of q n)) eight

pub set_below : (q : Cube) → set_of q < 256
unfolding set_of set_by
set_below q = number_below (belong q)

-- what the code reads: the mask of eight lanes, each compared with 0
abbrev zeros : List Float
zeros = replicate 8 plus_zero

-- the lanes of a comparison
abbrev compared : List Float → List Float → List ℕ
compared xs ys = zip2 (λ a b. cond (lt a b) (2 ^ 32 - 1) 0) xs ys

pub read_set : (q : Cube) (xs : List Float) → xs ≡ corners q → mask_l (map (top 31) (compared zeros xs)) % 2 ^ 64 ≡ set_of q
unfolding set_of set_by number_of corner_of value_at corners
read_set q xs e =
    ap (λ (ys : List Float). mask_l (map (top 31) (compared zeros ys)) % 2 ^ 64) e
    ∙ ap (λ (ms : List Bool). mask_l ms % 2 ^ 64) (tops_compared w32 lt zeros (corners q))
    ∙ mask_l-mod (zip2 lt zeros (corners q)) 64 (lit≤ tt)

low_bit : (b : Bool) (n : ℕ) → (bit_of b + 2 * n) % 2 ≡ bit_of b
low_bit true n = omega arith
low_bit false n = omega arith

halved : (b : Bool) (n : ℕ) → (bit_of b + 2 * n) / 2 ≡ n
halved true n = omega arith
halved false n = omega arith

-- the answers of a number are read back
bit_at : (bs : List Bool) (n : ℕ) → bit (number_of bs) n ≡ bit_of (get_or bs n false)
unfolding number_of
bit_at [] n = ap (λ (k : ℕ). k % 2) (zero-div (2 ^ n))
bit_at (b ∷ bs) zero = ap (λ (k : ℕ). k % 2) (div-one (bit_of b + 2 * number_of bs)) ∙ low_bit b (number_of bs)
bit_at (b ∷ bs) (suc n) =
    let m = bit_of b + 2 * number_of bs in
    ap (λ (k : ℕ). m / k % 2) (pow-succ' 2 n) ∙ ap (λ (k : ℕ). k % 2) (sym (div-div-eq-div-mul m 2 (2 ^ n))) ∙ ap (λ (k : ℕ). k / 2 ^ n % 2) (halved b (number_of bs)) ∙ bit_at bs n

belongs_at : (q : Cube) → BitsBelong q (set_of q)
unfolding set_of set_by
belongs_at q n h = bit_at (belong q) n ∙ ap bit_of (agree (λ k. get_or (belong q) k false) (λ k. lt plus_zero (corner_of q k)) 8 refl n h)

pub bits_belong : (q : Cube) (set : ℕ) → set ≡ set_of q → BitsBelong q set
bits_belong q set e n h = ap (λ (s : ℕ). bit s n) e ∙ belongs_at q n h
