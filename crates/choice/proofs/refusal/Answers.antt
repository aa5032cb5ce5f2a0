-- `choice::refusal` is `refusal_of`.
use Rattle.choice.proofs.Families.{corners_told, number_told}
use Rattle.choice.proofs.refusal.Goals as goal

pub returns-in-Ok : goal.returns-in-Ok
returns-in-Ok c = search corners_told

pub returns-in-Err : goal.returns-in-Err
returns-in-Err c = search number_told
