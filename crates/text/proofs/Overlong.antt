-- A line longer than 81 bytes is refused, whatever comes. Assumes nothing.
use mathlib.Core.Path.{◌≡◌, refl, ap}
use mathlib.Core.Bool.{Bool, true, false, cond}
use mathlib.Core.List.{List, [], ◌∷◌, ◌++◌}
use Prim.Native.Nat.{ℕ, suc, ◌≤◌}
use native.Mathlib.Nat.{not-suc-le-zero}
use native.Mathlib.Omega.{arith}
use lib.Dec.{eqb, leb}
use lib.ListN.{length, length-append}
use Rattle.line.proofs.Lengths.{long}
use Rattle.answer.proofs.Same.{unequal_lengths}
use Rattle.answer.specs.Answer.{Reply, answer, refusal, same, input_names, output_names, cube_reply, reply_to, refused_line}
use Rattle.text.specs.Run.{at_end, follow, run_from}

not_names : (line : List ℕ) → 82 ≤ length line → same line input_names ≡ false
unfolding input_names
not_names line h = unequal_lengths line input_names (λ (e : length line ≡ 35). omega arith)

either : {A : Type 0} (t : Bool) {x y z : A} → x ≡ z → y ≡ z → cond t x y ≡ z
either true p q = p
either false p q = q

pub reply_overlong : (n : ℕ) (line : List ℕ) → 82 ≤ length line → reply_to n line ≡ refusal 8
unfolding reply_to cube_reply
reply_overlong n line h =
    either (leb n 1)
    (ap (λ (t : Bool). cond t (answer output_names) (refusal 8)) (not_names line h))
    (ap cube_reply (long line h))

end_overlong : (n : ℕ) (part : List ℕ) → 82 ≤ length part → at_end n part ≡ refused_line 8 n
unfolding at_end
end_overlong n [] h = absurd (not-suc-le-zero h)
end_overlong n (b ∷ bs) h = refl

pub run_overlong : (n : ℕ) (part rest : List ℕ) → 82 ≤ length part → run_from n part rest ≡ refused_line 8 n
unfolding run_from follow
run_overlong n part [] h = end_overlong n part h
run_overlong n part (b ∷ bs) h =
    either (eqb b 10)
    (ap (λ (r : Reply). follow r n (run_from (suc n) [] bs)) (reply_overlong n part h))
    (run_overlong n (part ++ (b ∷ [])) bs (omega (arith, length-append part (b ∷ []))))
