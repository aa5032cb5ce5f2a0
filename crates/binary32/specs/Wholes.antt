-- A value as a whole number over a power of two, exactly: document 02, Change 6, 'The exact values are whole numbers over a common power of two'. Definitions only.
use Rattle.std.specs.Prelude.{◌≡◌, ℕ, ◌*◌, ◌/◌, ◌^◌, Bool, cond, T, ℤ, pos, neg_ℤ, ◌*ℤ◌, Float}
use Rattle.std.specs.Float.{nan, inf, fin, binary32}
use Rattle.std.specs.Float.Ieee.{up, down, low, fits}
use Rattle.std.specs.Float.Ieee.Scale.{finite}

-- n, or -n where s is true
abbrev pub signed : Bool → ℕ → ℤ
signed s n = cond s (neg_ℤ (pos n)) (pos n)

-- x is finite, and it is the number X / 2 ^ k. A zero of either sign is 0
abbrev pub Exactly : ℕ → Float → ℤ → Type 0
Exactly k nan X = ⊥
Exactly k (inf s) X = ⊥
Exactly k (fin s m e) X = signed s (m * up e * 2 ^ k) ≡ X *ℤ pos (down e)

-- how many times the smallest f32, 2 ^ -149, a finite one is
unfoldable pub whole_of : Float → ℤ
whole_of nan = pos 0
whole_of (inf s) = pos 0
whole_of (fin s m e) = signed s (m * up e * 2 ^ low binary32 / down e)

-- every finite f32 is a whole number over 2 ^ 149
abbrev pub EachIsWhole : Type 0
EachIsWhole = (x : Float) → T (fits binary32 x) → T (finite x) → Exactly (low binary32) x (whole_of x)
