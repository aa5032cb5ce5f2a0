-- `choice::family_of` tells what `kin_of` does.
use Rattle.choice.proofs.Families.{case_of, too_high, too_low}
use Rattle.choice.proofs.family_of.Goals as goal

pub returns-in-Ok : goal.returns-in-Ok
returns-in-Ok c = search case_of

pub returns-in_default : goal.returns-in_default
returns-in_default c = search too_high

pub returns-in_default-2 : goal.returns-in_default-2
returns-in_default-2 c = search too_low
