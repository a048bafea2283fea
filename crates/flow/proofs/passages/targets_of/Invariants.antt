use Rattle.policy.specs.Abstract.{asked}
use Rattle.flow.specs.Passages.{TargetsOf}
use Rattle.flow.proofs.passages.targets_of.Given as goal

abbrev pub invariant-loop-o : goal.invariant-loop-o
invariant-loop-o l = TargetsOf (asked l.policy.policy) l.dom.0 l.o l.targets
