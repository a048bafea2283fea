use Rattle.rules.proofs.Lawful.{laws}
use Rattle.rules.proofs.typing_follows_the_rules.Goals as goal

pub returns : goal.returns
returns c = laws
