-- `cube::all_finite` tells what `all_finite` does.
use mathlib.Core.Path.{◌≡◌, refl, sym}
use mathlib.Core.Bool.{Bool, true, false, ◌&&◌, and-true, and-false, and_assoc}
use mathlib.Core.List.{[], ◌∷◌, map, foldr}
use lib.Ieee.{Float, binary32, add, sub, eq, of_bits}
use lib.Ieee.Scale.{finite}
use Rattle.binary32.proofs.Finite.{minus_itself, both_finite, is_nought}
use Rattle.cube.specs.Corners.{corners, all_finite}
use Rattle.cube.proofs.all_finite.Goals as goal

exchanged : (p q r s : Bool) → p && q && (r && s) ≡ p && r && (q && s)
exchanged false q r s = refl
exchanged true false r s = sym (and-false r)
exchanged true true r s = refl

-- the code takes corner k with corner k + 4
reorder : (a b c d e f g h : Bool) → a && e && (c && g) && (b && f && (d && h)) ≡ a && (b && (c && (d && (e && (f && (g && h))))))
reorder a b c d e f g h =
    rw (exchanged a e c g, exchanged b f d h, exchanged (a && c) (e && g) (b && d) (f && h), exchanged a c b d, exchanged e g f h) (simp and_assoc)

told : (a b c d e f g h : Float)
    → eq (add binary32
    (add binary32 (add binary32 (sub binary32 a a) (sub binary32 e e)) (add binary32 (sub binary32 c c) (sub binary32 g g)))
    (add binary32 (add binary32 (sub binary32 b b) (sub binary32 f f)) (add binary32 (sub binary32 d d) (sub binary32 h h)))) (of_bits binary32 0)
    ≡ foldr ◌&&◌ true (map finite (a ∷ b ∷ c ∷ d ∷ e ∷ f ∷ g ∷ h ∷ []))
told a b c d e f g h = simp (minus_itself, both_finite, is_nought, and-true) (reorder (finite a) (finite b) (finite c) (finite d) (finite e) (finite f) (finite g) (finite h))

pub returns : goal.returns
unfolding corners all_finite
returns c = told _ _ _ _ _ _ _ _
