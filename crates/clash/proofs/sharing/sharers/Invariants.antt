use Rattle.clash.proofs.Marks.{Gathering}
use Rattle.clash.proofs.sharing.sharers.Given as goal

abbrev pub invariant-loop-entry : goal.invariant-loop-entry
invariant-loop-entry l = Gathering l.entries l.low.0 l.entry-index l.row
