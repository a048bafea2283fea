use Rattle.std.proofs.Common.{rules}
use Rattle.reach.specs.Distances.{distance_of}
use Rattle.reach.proofs.table.Reach.distance.Goals as goal

pub returns : goal.returns
unfolding distance_of
returns c = search rules
