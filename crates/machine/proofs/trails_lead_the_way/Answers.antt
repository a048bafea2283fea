use Rattle.std.proofs.Common.{refl}
use Rattle.machine.proofs.trails_lead_the_way.Goals as goal
use Rattle.machine.proofs.Trails.{trails_lead, nodes_apart}

pub returns : goal.returns
returns c = record { trails = trails_lead; nodes = nodes_apart; answer = refl }
