use Rattle.clash.proofs.Lawful.{laws}
use Rattle.clash.proofs.none_clash_exactly_when_each_auto_passage_is_the_only_one.Goals as goal

pub returns : goal.returns
returns c = laws
