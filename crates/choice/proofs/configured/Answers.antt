-- `choice::configured` tells what `kin_of` does of a case below 15.
use Rattle.choice.proofs.Families.{one_of, past, of_0, not_of_0}
use Rattle.choice.proofs.configured.Goals as goal

pub returns-in-Ok : goal.returns-in-Ok
returns-in-Ok c = search one_of

pub returns-in-Err : goal.returns-in-Err
returns-in-Err c = search of_0

pub returns-in_default : goal.returns-in_default
returns-in_default c = search past

pub returns-in_default-2 : goal.returns-in_default-2
returns-in_default-2 c = search not_of_0
