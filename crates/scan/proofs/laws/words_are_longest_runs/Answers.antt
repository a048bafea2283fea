use Rattle.std.proofs.Common.{refl}
use Rattle.scan.proofs.Runs.{words_are_longest_runs}
use Rattle.scan.proofs.laws.words_are_longest_runs.Goals as goal

pub returns : goal.returns
returns c = record { runs = words_are_longest_runs; answer = refl }
