-- The tries of `Tries`: its lists by computation, any number of cubes by `Empties`. Assumes nothing.
use mathlib.Core.Path.{refl}
use lib.Ieee.{of_bits, neg, add, sub, mul, div, lt, eq, le, is_nan, of_int}
use Rattle.cube.specs.Corners.{corners, value_at, corner_of, all_finite}
use Rattle.face.specs.Face.{face_corners, face_corner, rule, face_by, face_of}
use Rattle.edge.specs.Edge.{moves, move_of, cross_by, read_by, edge_by}
use Rattle.interior.specs.Pick.{diagonals, last_match, any_match, pick_with, pick_by}
use Rattle.interior.specs.Interior.{joined, seen_as, look_at, inside_by, inside_of}
use Rattle.tilings.specs.Tilings.{configurations, has_centre}
use Rattle.tilings.specs.Plan.{ask_in_turn, settled, run}
use Rattle.two_faces.specs.Tables.{TEST_12}
use Rattle.two_faces.specs.Plans.{two_faces, plan12}
use Rattle.family_13.specs.Tables.{TEST_13, SUB_CONFIG_13}
use Rattle.family_13.specs.Plans.{parts13, last_from, tile13, part13, plan13}
use Rattle.families.specs.Tables.{TEST_3, TEST_4, TEST_7}
use Rattle.families.specs.Plans.{plan3, plan4, part7, plan7, plans, plan_of}
use Rattle.choice.specs.Choice.{refusal_of, choice_of}
use Rattle.reader.specs.Reader.{cube_at}
use Rattle.rows.specs.Rows.{refusal_at, choice_at, bytes_of}
use Rattle.list.specs.Lists.{lengths_agree, first_from, result_by, result_of, rows_of, answers_of}
use Rattle.list.specs.Tries.{tries, ListTries}
use Rattle.list.proofs.Empties.{any_number_lem}

pub tries_hold : ListTries
unfolding tries lengths_agree refusal_at choice_at first_from result_by result_of bytes_of rows_of answers_of cube_at refusal_of choice_of run settled ask_in_turn plan_of plans plan3 plan4 plan7 part7 two_faces plan12 plan13 part13 tile13 last_from parts13 TEST_3 TEST_4 TEST_7 TEST_12 TEST_13 SUB_CONFIG_13 configurations has_centre face_of face_by rule face_corner face_corners inside_of inside_by joined look_at seen_as pick_by pick_with last_match any_match diagonals edge_by read_by cross_by move_of moves corner_of value_at corners all_finite of_bits neg add sub mul div lt eq le is_nan of_int
tries_hold = record { outcomes = refl; answers = refl; any_number = any_number_lem }
