use Rattle.policy.proofs.Asks.{asks}
use Rattle.policy.proofs.the_machine_is_told_what_the_tables_say.Goals as goal

pub returns : goal.returns
returns c = asks
