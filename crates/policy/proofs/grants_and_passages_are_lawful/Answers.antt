use Rattle.policy.proofs.Lawful.{laws}
use Rattle.policy.proofs.grants_and_passages_are_lawful.Goals as goal

pub returns : goal.returns
returns c = laws
