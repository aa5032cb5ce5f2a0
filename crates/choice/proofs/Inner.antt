-- After refusals 1, 2 and 3 no inner number leaves its table. Assumes nothing.
use Prim.Native.Nat.{ℕ, ◌<◌}
use mathlib.Core.List.{map}
use lib.Dec.{T}
use lib.IntN.{negsuc}
use lib.ListN.{get_or, length}
use Rattle.cube.specs.declared.Cube.{Cube}
use Rattle.cube.proofs.Bounds.{number_below}
use Rattle.cube.proofs.Table.{under}
use Rattle.face.specs.Face.{face_of}
use Rattle.notes.specs.Notes.{no_notes}
use Rattle.interior.proofs.Picks.{an_edge}
use Rattle.tilings.specs.Tilings.{columns_of}
use Rattle.tilings.specs.Answers.{answers_of}
use Rattle.tilings.proofs.Turns.{in_turn}
use Rattle.family_13.specs.Tables.{SUB_CONFIG_13}
use Rattle.family_13.specs.Plans.{parts13, last_from, part_at13, faces13, plan13}
use Rattle.families.specs.Plans.{parts7, part7, faces7, plan7}
use Rattle.choice.specs.Inner.{is_offset, SubBelow, InnerNumbers}
use Rattle.choice.proofs.Ranges.{hands_on_lem}

by_seven : (q : Cube) (c : ℕ) → SubBelow q (faces7 c) (length (parts7 c)) (plan7 c) (part7 c)
unfolding plan7
by_seven q c = record { below = number_below (map (face_of q) (faces7 c)); follows = in_turn (answers_of q) (faces7 c) (part7 c) no_notes }

by_thirteen : (q : Cube) (c : ℕ) → SubBelow q (faces13 c) (length SUB_CONFIG_13) (plan13 c) (part_at13 c)
unfolding plan13 SUB_CONFIG_13
by_thirteen q c = record { below = number_below (map (face_of q) (faces13 c)); follows = in_turn (answers_of q) (faces13 c) (part_at13 c) no_notes }

all_offsets : (sub : ℕ) → sub < length SUB_CONFIG_13 → T (is_offset (get_or SUB_CONFIG_13 sub (negsuc 0)))
unfolding is_offset parts13 last_from columns_of SUB_CONFIG_13
all_offsets = under 64 (λ sub. is_offset (get_or SUB_CONFIG_13 sub (negsuc 0))) tt

pub inner_numbers : InnerNumbers
inner_numbers = record { sub7 = by_seven; sub13 = by_thirteen; offsets = all_offsets; edges = an_edge; asked = hands_on_lem }
