use Rattle.words.proofs.Cuts.{split_at_the_first}
use Rattle.words.proofs.arrow.words_split_at_the_first_arrow.Goals as goal

pub returns : goal.returns
returns c = split_at_the_first
