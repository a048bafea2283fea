use Rattle.reach.proofs.Expanding.{Expanding}
use Rattle.reach.proofs.search.expand.Given as goal

abbrev pub invariant-loop-v : goal.invariant-loop-v
invariant-loop-v g l = Expanding (g.G.Graph.edge l.graph) l.place l.u l.level l.v l.initial.search l.search
