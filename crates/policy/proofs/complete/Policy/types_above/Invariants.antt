use Rattle.std.proofs.Common.{◌≡◌, length}
use Rattle.policy.specs.Holds.{model_of}
use Rattle.policy.specs.Grants.{Above}
use Rattle.policy.proofs.complete.Policy.types_above.Given as goal

abbrev pub invariant-loop-n : goal.invariant-loop-n
invariant-loop-n l = (length l.types ≡ 64) × Above (model_of l.self) l.path l.types l.n
