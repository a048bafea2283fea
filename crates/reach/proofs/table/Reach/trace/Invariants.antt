use Rattle.reach.proofs.SteppingBack.{Stepping}
use Rattle.reach.proofs.table.Reach.trace.Given as goal

abbrev pub invariant-loop-k : goal.invariant-loop-k
invariant-loop-k l = Stepping l.self l.to l.n l.k l.initial.nodes l.nodes
