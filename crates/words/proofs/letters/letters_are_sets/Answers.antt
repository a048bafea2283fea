use Rattle.words.proofs.Sets.{letters_as_sets}
use Rattle.words.proofs.letters.letters_are_sets.Goals as goal

pub returns : goal.returns
returns c = letters_as_sets
