use Rattle.std.proofs.Common.{rules}
use Rattle.flow.proofs.Allowed.{answers_changed}
use Rattle.flow.proofs.asking.may_change.Goals as goal

pub returns-then-is_ok-2 : goal.returns-then-is_ok-2
returns-then-is_ok-2 c = rw (← answers_changed c.args.policy.now.policy c.args.dom.0 c.args.obj.0) (search rules)

pub returns-else-is_ok-2 : goal.returns-else-is_ok-2
returns-else-is_ok-2 c = rw (← answers_changed c.args.policy.now.policy c.args.dom.0 c.args.obj.0) (search rules)
