-- The lists of `Tries` by computation, their choices by the table; and that the number of a list's refusal says something. Assumes nothing.
use mathlib.Core.Path.{◌≡◌, refl}
use mathlib.Core.List.{[], ◌∷◌, map}
use lib.ListN.{length}
use lib.Ieee.{of_bits, neg, add, sub, mul, div, lt, eq, le, is_nan, of_int}
use Rattle.cube.specs.Bits.{number_of}
use Rattle.cube.specs.Corners.{corners, value_at, corner_of, all_finite}
use Rattle.face.specs.Face.{face_corners, face_corner, rule, face_by, face_of}
use Rattle.edge.specs.Edge.{moves, move_of, cross_by, read_by, edge_by}
use Rattle.interior.specs.Pick.{diagonals, last_match, any_match, pick_with, pick_by}
use Rattle.interior.specs.Interior.{joined, seen_as, look_at, inside_by, inside_of}
use Rattle.tilings.specs.Tilings.{configurations, has_centre}
use Rattle.tilings.specs.Plan.{ask_in_turn, settled, run}
use Rattle.family_13.specs.Tables.{TEST_13, SUB_CONFIG_13}
use Rattle.family_13.specs.Plans.{parts13, last_from, tile13, part13, plan13}
use Rattle.families.specs.Tables.{TEST_3, TEST_4, TEST_6}
use Rattle.families.specs.Plans.{plan3, plan4, plan6, plans, plan_of}
use Rattle.choice.specs.Choice.{choice_of}
use Rattle.signs.specs.Sets.{set_by, set_of}
use Rattle.signs.specs.Table.{families, family_at}
use Rattle.reader.specs.Reader.{cube_at}
use Rattle.rows.specs.Rows.{bytes_of, done, refused_at}
use Rattle.list.specs.Lists.{first_from, result_by, rows_of}
use Rattle.list_signs.specs.Lists.{refusal_at, result_of, number_in}
use Rattle.list_signs.specs.Tries.{tries, values}
use Rattle.list_signs.proofs.Tabled.{answers_tabled}

pub answers_hold : map (λ t. answers_tabled (values t) t.answers) tries ≡ map (λ t. t.leaves) tries
unfolding tries refusal_at first_from result_by result_of bytes_of rows_of cube_at families family_at set_of set_by number_of choice_of run settled ask_in_turn plan_of plans plan3 plan4 plan6 plan13 part13 tile13 last_from parts13 TEST_3 TEST_4 TEST_6 TEST_13 SUB_CONFIG_13 configurations has_centre face_of face_by rule face_corner face_corners inside_of inside_by joined look_at seen_as pick_by pick_with last_match any_match diagonals edge_by read_by cross_by move_of moves corner_of value_at corners all_finite of_bits neg add sub mul div lt eq le is_nan of_int
answers_hold = refl

pub outcomes_hold : map (λ t. result_of (values t) (length t.answers)) tries ≡ map (λ t. t.says) tries
unfolding tries refusal_at first_from result_by result_of cube_at corner_of value_at corners all_finite of_bits
outcomes_hold = refl

numbers_hold : map number_in (done ∷ refused_at 6 0 ∷ refused_at 3 300 ∷ []) ≡ 0 ∷ 6 ∷ 3 ∷ []
numbers_hold = refl
