use Rattle.reach.specs.TrailLaws.{written_is_shortest_walk}
use Rattle.reach.proofs.traces_are_shortest_walks.Goals as goal

pub returns : goal.returns
returns c = written_is_shortest_walk
