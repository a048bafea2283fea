use Rattle.std.proofs.Common.{◌≡◌, drop}
use Rattle.label.specs.Letters.{none}
use Rattle.words.specs.Letters.{with_letters}
use Rattle.words.proofs.letters.letters_of.Given as goal

abbrev pub invariant-loop-b : goal.invariant-loop-b
invariant-loop-b l = with_letters l.set (drop l.b-index l.bytes) ≡ with_letters none l.bytes
