use Rattle.std.proofs.Common.{refl}
use Rattle.scan.proofs.Kept.{nothing_is_lost, nothing_hidden_is_seen}
use Rattle.scan.proofs.laws.nothing_is_lost.Goals as goal

pub returns : goal.returns
returns c = record { kept = nothing_is_lost; seen = nothing_hidden_is_seen; answer = refl }
