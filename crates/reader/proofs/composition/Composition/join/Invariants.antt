use Rattle.std.proofs.Common.{◌≡◌, length}
use Rattle.scan.specs.Lex.{tokens}
use Rattle.reader.specs.Composed.{composed}
use Rattle.reader.specs.Reading.{read, reading}
use Rattle.reader.proofs.composition.Composition.join.Given as goal

-- what is still to come gives what the whole text gives
abbrev pub invariant-loop-next : goal.invariant-loop-next
invariant-loop-next l = read (composed l.initial.self) l.text ≡ reading (composed l.self) l.position (tokens l.scanner)

abbrev pub decreases-loop-next : goal.decreases-loop-next
decreases-loop-next l = length (tokens l.scanner)
