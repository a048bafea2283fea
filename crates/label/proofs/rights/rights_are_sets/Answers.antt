use Rattle.label.proofs.Bits.{sets}
use Rattle.label.proofs.rights.rights_are_sets.Goals as goal

pub returns : goal.returns
returns c = sets
