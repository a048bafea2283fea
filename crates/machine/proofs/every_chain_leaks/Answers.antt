use Rattle.std.proofs.Common.{refl}
use Rattle.machine.proofs.every_chain_leaks.Goals as goal
use Rattle.machine.proofs.Bearer.{chain_leaks}

pub returns : goal.returns
returns c = record { leak = chain_leaks; answer = refl }
