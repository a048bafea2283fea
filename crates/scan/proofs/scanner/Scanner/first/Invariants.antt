use Rattle.std.proofs.Common.{◌≤◌, max, length}
use Rattle.scan.specs.Lex.{tokens_from}
use Rattle.scan.proofs.Turns.{Going}
use Rattle.scan.proofs.scanner.Scanner.first.Given as goal

abbrev pub invariant-loop-place : goal.invariant-loop-place
invariant-loop-place l = Going l.mode l.text l.start l.place (tokens_from l.text l.self.place) × (l.place ≤ max l.self.place (length l.text))
