-- How the code keeps a case with its configuration. Definitions only.
use Rattle.std.specs.Prelude.{ℕ, cond, ℤ, pos, negsuc, Result, Ok, Err}
use Rattle.cube.specs.declared.Refusal.{Refusal}
use Rattle.cube.specs.Refusals.{refusal_number}
use Rattle.choice.specs.declared.Family.{Family}
use Rattle.choice.specs.declared.Family.TheVariants.{Nothing, Known}
use Rattle.choice.specs.Choice.{is_case, is_configuration, nat_of}

pub data Kin : Type 0 where
  nothing : Kin
  known : ℕ → ℕ → Kin
  refused : ℕ → Kin

-- of a case's configurations the one below 0 is case 0's
abbrev pub member : ℕ → ℤ → Kin
member case (pos c) = known case c
member case (negsuc c) = nothing

unfoldable pub kin_of : ℤ → ℤ → Kin
kin_of case configuration = cond (is_case case) (cond (is_configuration (nat_of case) configuration) (member (nat_of case) configuration) (refused 2)) (refused 1)

abbrev pub kin : Result Family Refusal → Kin
kin (Ok Nothing) = nothing
kin (Ok (Known case c)) = known case c
kin (Err why) = refused (refusal_number why)
