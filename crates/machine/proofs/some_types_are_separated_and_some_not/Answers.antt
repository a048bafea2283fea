use Rattle.std.proofs.Common.{refl}
use Rattle.machine.proofs.some_types_are_separated_and_some_not.Goals as goal
use Rattle.machine.proofs.OneWay.{one_way}

pub returns : goal.returns
returns c = record { valve = one_way; answer = refl }
