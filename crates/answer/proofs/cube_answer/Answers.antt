-- `answer::cube_answer` is the reply to a cube's line. Assumes nothing.
use Rattle.std.proofs.Common.{arith}
use borrow.Author.Rules.{rules}
use mir.Syntax.{w8}
use mir.ValLaws.{to_z-of_z}
use Rattle.choice.proofs.Ranges.{few_in}
use Rattle.answer.proofs.Lines.{malformed_reply, made_cube, given_length}
use Rattle.answer.proofs.cube_answer.Goals as goal

pub returns-in_err-parsed-clause-reply : goal.returns-in_err-parsed-clause-reply
returns-in_err-parsed-clause-reply c = rw c.from_residual.ensures (malformed_reply _ _ c.parse_line.ensures.line c.in_err-parsed.was)

pub returns-clause-reply : goal.returns-clause-reply
returns-clause-reply c =
    made_cube _ _ c.parse_line.ensures.line _ c.in_ok-parsed.was _ _ (to_z-of_z w8 _ (search rules)) (to_z-of_z w8 _ (search rules)) c.handle_cube.result c.handle_cube.ensures.choice

pub returns-clause-readings : goal.returns-clause-readings
returns-clause-readings c = let few = few_in _ _ c.handle_cube.ensures.ranges in omega arith

pub returns-clause-long : goal.returns-clause-long
returns-clause-long c = given_length _ _ c.parse_line.ensures.line _ c.in_ok-parsed.was
