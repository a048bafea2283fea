use Rattle.words.proofs.Spells.{read_as_spelled}
use Rattle.words.proofs.spelled.words_are_spellings.Goals as goal

pub returns : goal.returns
returns g c = read_as_spelled g.W.Spelled.spelling g.W.Spelled.every g.met.W.Spelled.own
