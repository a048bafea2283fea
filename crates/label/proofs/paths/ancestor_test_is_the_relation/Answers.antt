use Rattle.label.proofs.Fronts.{ancestors}
use Rattle.label.proofs.paths.ancestor_test_is_the_relation.Goals as goal

pub returns : goal.returns
returns c = ancestors
