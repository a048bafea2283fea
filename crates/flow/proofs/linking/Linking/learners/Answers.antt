use Rattle.std.proofs.Common.{◌≡◌, true, false, ◌↔◌, rules}
use Rattle.machine.specs.Flow.{obj, dom}
use Rattle.flow.specs.Grounds.{Linked}
use Rattle.flow.proofs.Filling.{filled}
use Rattle.flow.proofs.linking.Linking.learners.Goals as goal

pub returns : goal.returns
returns c d l =
    filled _ _ (λ k r. (r ≡ true) ↔ Linked c.args.self.now (obj c.args.obj.0) (dom k)) (λ k r f e. search rules) _ _ c.from_fn.ensures.items d false l
