-- That the definitions say something, by computation: document 01's counts, where SUB_CONFIG_13 has no tiling, that every column of every tiling is
-- reached, and for answers written down the choice that handle_cube makes. Assumes nothing.
use mathlib.Core.Path.{◌≡◌, refl}
use mathlib.Core.Bool.{Bool, true, false, cond, not, ◌&&◌, ◌||◌}
use mathlib.Core.List.{List, [], ◌∷◌, map, foldr}
use Prim.Native.Nat.{ℕ, ◌+◌, ◌/◌, ◌%◌, ◌^◌}
use lib.IntN.{ℤ, pos, negsuc}
use lib.Dec.{T, eqb}
use lib.ListN.{get_or, length}
use Rattle.cube.proofs.Table.{all_under, values_of}
use Rattle.tilings.specs.Tilings.{tilings_of, columns_of, has_centre}
use Rattle.tilings.specs.Plan.{ask_in_turn, no_tiling, settled, run}
use Rattle.tilings.proofs.Trials.{is_below, reaches_all, Test, test, chosen_in, tiled, centred}
use Rattle.family_13.specs.Tables.{TEST_13, SUB_CONFIG_13}
use Rattle.family_13.specs.Plans.{parts13, last_from, tile13, part13, plan13}

rows : length TEST_13 ∷ length SUB_CONFIG_13 ∷ [] ≡ 2 ∷ 64 ∷ []
unfolding TEST_13 SUB_CONFIG_13
rows = refl

-- ---- SUB_CONFIG_13
abbrev sub13 : ℕ → ℤ
sub13 k = get_or SUB_CONFIG_13 k (negsuc 0)

abbrev is_number : ℕ → ℤ → Bool
is_number n (pos k) = eqb n k
is_number n (negsuc k) = false

abbrev count : List Bool → ℕ
count bs = foldr (λ b n. cond b 1 0 + n) 0 bs

-- the answer to the face asked at place k
abbrev answer : ℕ → ℕ → Bool
answer sub k = eqb (sub / 2 ^ k % 2) 1

-- the faces asked at places 0 and 2, 1 and 3, 4 and 5 are opposite
abbrev pair_at : (Bool → Bool) → ℕ → ℕ → ℕ → Bool
pair_at f sub j k = f (answer sub j) && f (answer sub k)

abbrev some_pair : (Bool → Bool) → ℕ → Bool
some_pair f sub = pair_at f sub 0 2 || (pair_at f sub 1 3 || pair_at f sub 4 5)

no_tiling_where : values_of (λ k. is_below (sub13 k)) 64 ≡ values_of (λ k. some_pair (λ b. b) k && some_pair not k) 64
unfolding SUB_CONFIG_13
no_tiling_where = refl

each_once : T (all_under 46 (λ n. eqb (count (map (is_number n) SUB_CONFIG_13)) 1))
unfolding SUB_CONFIG_13
each_once = tt

-- ---- for configuration 0
all_reached : T (reaches_all (get_or tilings_of 13 []) (plan13 0))
unfolding tilings_of columns_of parts13 last_from tile13 part13 plan13 ask_in_turn TEST_13 SUB_CONFIG_13
all_reached = tt

tests : List Test
tests =
    -- 13_5_2 uses the other configuration's row; opposite faces 1 and 3 true with none of the others: no tiling
    test (plan13 0) [] true (tiled 29 0 0) 6
    ∷ test (plan13 0) (1 ∷ 2 ∷ 3 ∷ 4 ∷ 5 ∷ 6 ∷ []) true (tiled 30 0 0) 6
    ∷ test (plan13 0) (1 ∷ []) true (tiled 31 0 0) 6
    ∷ test (plan13 0) (1 ∷ 2 ∷ []) true (centred 33 0 0) 6
    ∷ test (plan13 0) (1 ∷ 2 ∷ 6 ∷ []) true (centred 35 0 0) 6
    ∷ test (plan13 0) (1 ∷ 2 ∷ 5 ∷ []) true (tiled 36 0 0) 7
    ∷ test (plan13 0) (1 ∷ 2 ∷ 5 ∷ []) false (tiled 37 1 0) 7
    ∷ test (plan13 1) (2 ∷ 3 ∷ 5 ∷ []) false (tiled 37 0 0) 7
    ∷ test (plan13 0) (1 ∷ 3 ∷ []) true (no_tiling 0 5) 6
    ∷ []

tests_hold : map chosen_in tests ≡ map (λ t. t.makes) tests
unfolding tests run settled has_centre parts13 last_from tile13 part13 plan13 ask_in_turn TEST_13 SUB_CONFIG_13
tests_hold = refl
