use Rattle.std.proofs.Common.{rules}
use Rattle.machine.specs.Policy.{reading}
use Rattle.policy.specs.Grants.{read_on}
use Rattle.policy.specs.Holds.{model_of}
use Rattle.policy.proofs.Asks.{asks}
use Rattle.flow.proofs.Allowed.{answer-allowed}
use Rattle.flow.proofs.asking.may_read.Goals as goal

pub returns : goal.returns
returns c =
    let p = c.args.policy.now.policy in
    rw (← answer-allowed p reading c.args.dom.0 c.args.obj.0 (read_on (model_of p) c.args.dom.0 c.args.obj.0) (asks.reads p c.args.dom.0 c.args.obj.0)) (search rules)
