use Rattle.std.proofs.Common.{rules}
use Rattle.policy.specs.Holds.{model_of}
use Rattle.policy.proofs.Answers.{entered-known}
use Rattle.policy.proofs.sealed.Sealed.enters.Goals as goal

pub returns : goal.returns
returns c = entered-known (model_of c.args.self.now.policy) c.args.dom.0 c.args.obj.0 _ _ _ c.cell.ensures (λ x h. search rules) c.is_ok_and.ensures
