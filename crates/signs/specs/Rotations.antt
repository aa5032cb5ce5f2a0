-- Document 02, 'Change 1': the cube's 24 rotations, no reflection, from where the source's CUBE_OFFSETS puts the corners. Definitions only.
use Rattle.std.specs.Prelude.{ℕ, ◌+◌, ◌-◌, ◌%◌, Bool, ◌&&◌, cond, List, [], ◌∷◌, map, eqb, ltb, get_or, filter, flat_map, sum}
use Rattle.std.specs.List.{position_or_len}

-- CUBE_OFFSETS: x, y and z of corners 0 to 7
unfoldable pub offsets : List (List ℕ)
offsets =
    (0 ∷ 0 ∷ 0 ∷ [])
    ∷ (1 ∷ 0 ∷ 0 ∷ [])
    ∷ (1 ∷ 1 ∷ 0 ∷ [])
    ∷ (0 ∷ 1 ∷ 0 ∷ [])
    ∷ (0 ∷ 0 ∷ 1 ∷ [])
    ∷ (1 ∷ 0 ∷ 1 ∷ [])
    ∷ (1 ∷ 1 ∷ 1 ∷ [])
    ∷ (0 ∷ 1 ∷ 1 ∷ [])
    ∷ []

abbrev same_place : List ℕ → List ℕ → Bool
same_place p r = let at : ℕ → Bool = λ k. eqb (get_or p k 0) (get_or r k 0) in at 0 && at 1 && at 2

-- the corner that stands there
abbrev corner_at : List ℕ → ℕ
corner_at place = position_or_len (same_place place) offsets

-- a way to lay the cube on itself: which of its axes x, y and z (0, 1 and 2) comes to lie along x, along y and along z, and of each 1 if it is turned about
pub record Laid : Type 0 where
  pub order : List ℕ
  pub about : List ℕ

-- where a place comes to lie
abbrev moved : Laid → List ℕ → List ℕ
moved l place =
    let along : ℕ → ℕ = λ k. let v = get_or place (get_or l.order k 0) 0 in cond (eqb (get_or l.about k 0) 1) (1 - v) v in
    along 0 ∷ along 1 ∷ along 2 ∷ []

-- where corners 0 to 7 come to lie
abbrev pub corners_laid : Laid → List ℕ
corners_laid l = map (λ place. corner_at (moved l place)) offsets

abbrev orders : List (List ℕ)
orders = (0 ∷ 1 ∷ 2 ∷ []) ∷ (0 ∷ 2 ∷ 1 ∷ []) ∷ (1 ∷ 0 ∷ 2 ∷ []) ∷ (1 ∷ 2 ∷ 0 ∷ []) ∷ (2 ∷ 0 ∷ 1 ∷ []) ∷ (2 ∷ 1 ∷ 0 ∷ []) ∷ []

abbrev abouts : List (List ℕ)
abouts = flat_map (λ i. flat_map (λ j. map (λ k. i ∷ j ∷ k ∷ []) (0 ∷ 1 ∷ [])) (0 ∷ 1 ∷ [])) (0 ∷ 1 ∷ [])

-- all 48
unfoldable pub ways : List Laid
ways = flat_map (λ order. map (λ about. record { order = order; about = about }) abouts) orders

-- how many pairs of axes have changed their order
abbrev exchanges : List ℕ → ℕ
exchanges order =
    let before : ℕ → ℕ → ℕ = λ j k. cond (ltb (get_or order k 0) (get_or order j 0)) 1 0 in
    before 0 1 + before 0 2 + before 1 2

-- an exchange of two axes is a reflection, and so is turning one about: an even number of both is none
unfoldable pub is_rotation : Laid → Bool
is_rotation l = eqb ((exchanges l.order + sum l.about) % 2) 0

-- the 24 rotations, each by where it brings corners 0 to 7
unfoldable pub rotations : List (List ℕ)
rotations = map corners_laid (filter is_rotation ways)
