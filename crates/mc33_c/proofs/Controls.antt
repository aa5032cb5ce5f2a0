-- That the definitions say something, by computation: the numbers of each answer, no two fields alike where they can differ. Document 01, 'Program' and 'List', gives
-- those of a choice and of a list; the kinds of a reading are in its order. Assumes nothing.
use mathlib.Core.Path.{◌≡◌, refl}
use mathlib.Core.Bool.{true, false}
use mathlib.Core.List.{[], ◌∷◌, map}
use Rattle.binary32.specs.Numbers.{plus_zero}
use Rattle.face.specs.Face as Face
use Rattle.trust.specs.declared.Trust.TheVariants.{Sure, Turned, Unknown}
use Rattle.trust.specs.Trust as Trusts
use Rattle.edge.specs.Edge.{rising, beyond, crossed, blank, one, two}
use Rattle.edge.specs.Edge as Edge
use Rattle.notes.specs.Notes.{no_notes, tests_of}
use Rattle.tilings.specs.Plan.{empty, no_tiling, tiling, reach}
use Rattle.choice.specs.Choice.{made, refused}
use Rattle.rows.specs.Rows.{done, refused_at}
use Rattle.mc33_c.specs.Answers.{reached_numbers, choice_numbers, face_numbers, trust_number, trust_numbers, reading_numbers, edge_numbers, outcome_numbers}

choices : map choice_numbers
    (made (reach empty no_notes)
    ∷ made (reach (no_tiling 1 5) (tests_of 6))
    ∷ made (reach (tiling 33 11 7 true) (record { unsettled = 3; unmatched = 1; readings = 4 }))
    ∷ made (reach (tiling 32 11 7 false) (record { unsettled = 0; unmatched = 2; readings = 5 }))
    ∷ refused 2
    ∷ refused 3
    ∷ [])
    ≡ record { refusal = 0; code = 0; row = 0; column = 0; centre = 0; unsettled = 0; unmatched = 0; readings = 0 }
    ∷ record { refusal = 0; code = 255; row = 1; column = 5; centre = 0; unsettled = 0; unmatched = 0; readings = 6 }
    ∷ record { refusal = 0; code = 33; row = 11; column = 7; centre = 1; unsettled = 3; unmatched = 1; readings = 4 }
    ∷ record { refusal = 0; code = 32; row = 11; column = 7; centre = 0; unsettled = 0; unmatched = 2; readings = 5 }
    ∷ record { refusal = 2; code = 0; row = 0; column = 0; centre = 0; unsettled = 0; unmatched = 0; readings = 0 }
    ∷ record { refusal = 3; code = 0; row = 0; column = 0; centre = 0; unsettled = 0; unmatched = 0; readings = 0 }
    ∷ []
unfolding choice_numbers reached_numbers
choices = refl

faces : map face_numbers (Face.answer true ∷ Face.answer false ∷ Face.refused 4 ∷ Face.refused 3 ∷ [])
    ≡ record { refusal = 0; answer = 1 } ∷ record { refusal = 0; answer = 0 } ∷ record { refusal = 4; answer = 0 } ∷ record { refusal = 3; answer = 0 } ∷ []
unfolding face_numbers
faces = refl

trusts : map trust_numbers
    (Trusts.told true Sure ∷ Trusts.told false Sure ∷ Trusts.told true Turned ∷ Trusts.told false Unknown ∷ Trusts.refused 4 ∷ Trusts.refused 3 ∷ [])
    ≡ record { refusal = 0; answer = 1; trust = 1 }
    ∷ record { refusal = 0; answer = 0; trust = 1 }
    ∷ record { refusal = 0; answer = 1; trust = 2 }
    ∷ record { refusal = 0; answer = 0; trust = 3 }
    ∷ record { refusal = 4; answer = 0; trust = 0 }
    ∷ record { refusal = 3; answer = 0; trust = 0 }
    ∷ []
unfolding trust_numbers trust_number
trusts = refl

edges : map edge_numbers
    (Edge.reading rising ∷ Edge.reading (beyond two) ∷ Edge.reading (crossed one two) ∷ Edge.reading blank ∷ Edge.refused 5 ∷ Edge.refused 3 ∷ [])
    ≡ record { refusal = 0; kind = 1; t = plus_zero; product = plus_zero }
    ∷ record { refusal = 0; kind = 2; t = two; product = plus_zero }
    ∷ record { refusal = 0; kind = 3; t = one; product = two }
    ∷ record { refusal = 0; kind = 4; t = plus_zero; product = plus_zero }
    ∷ record { refusal = 5; kind = 0; t = plus_zero; product = plus_zero }
    ∷ record { refusal = 3; kind = 0; t = plus_zero; product = plus_zero }
    ∷ []
unfolding edge_numbers reading_numbers
edges = refl

outcomes : map outcome_numbers (done ∷ refused_at 6 0 ∷ refused_at 3 300 ∷ [])
    ≡ record { refusal = 0; place = 0 } ∷ record { refusal = 6; place = 0 } ∷ record { refusal = 3; place = 300 } ∷ []
unfolding outcome_numbers
outcomes = refl
