use Rattle.std.proofs.Common.{◌≡◌, length}
use Rattle.clash.proofs.Marks.{Marking}
use Rattle.clash.proofs.sharing.mark_entered.Given as goal

abbrev pub invariant-loop-entry : goal.invariant-loop-entry
invariant-loop-entry l = (length l.row ≡ 32) × Marking l.entries l.low.0 l.path l.entry-index l.initial.row l.row
