use Rattle.reach.specs.Queue.{Started}
use Rattle.reach.specs.Walks.{among}
use Rattle.reach.proofs.search.start.Given as goal

abbrev pub invariant-loop-v : goal.invariant-loop-v
invariant-loop-v l = Started (among l.from) l.v l.search
