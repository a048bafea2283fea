use Rattle.std.proofs.Common.{is_ok, ap, ◌∙◌}
use Rattle.machine.specs.Policy.{running}
use Rattle.policy.proofs.Asks.{asks}
use Rattle.flow.proofs.Allowed.{answer-allowed}
use Rattle.flow.proofs.asking.may_run.Goals as goal

pub returns : goal.returns
returns c =
    c.is_ok.ensures.value
    ∙ ap is_ok c.decide.ensures
    ∙ answer-allowed c.args.policy.now.policy running c.args.dom.0 c.args.obj.0 _ (asks.runs c.args.policy.now.policy c.args.dom.0 c.args.obj.0)
