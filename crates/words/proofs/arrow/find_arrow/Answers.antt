use Rattle.std.proofs.Common.{rules}
use Rattle.words.proofs.Cuts.{pair_found}
use Rattle.words.proofs.arrow.find_arrow.Goals as goal

pub returns-clause-place : goal.returns-clause-place
returns-clause-place c = pair_found _ _ (search rules)
