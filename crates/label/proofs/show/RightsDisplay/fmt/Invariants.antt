use Rattle.std.proofs.Common.{take}
use Rattle.std.specs.Fmt.{IsPlainFormatter, HasWritten}
use Rattle.label.specs.Shown.{those}
use Rattle.label.proofs.show.RightsDisplay.fmt.Given as goal

-- what is written so far
abbrev pub invariant-loop-letter : goal.invariant-loop-letter
invariant-loop-letter g l = IsPlainFormatter l.initial.f → HasWritten g.W.Write.write_str_gives l.initial.f (those l.self (take l.letter-index l.letter-items)) l.f
