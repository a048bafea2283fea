use Rattle.std.proofs.Common.{is_some, is_ok, length}
use Rattle.label.specs.Texts.{text}
use Rattle.rules.specs.Typing.{rule_on}
use Rattle.rules.proofs.Adds.{distinct_after_push, not_refused}
use Rattle.rules.proofs.table.Rules.add.Goals as goal

pub invariant_of-self-clause-distinct : goal.invariant_of-self-clause-distinct
invariant_of-self-clause-distinct c =
    let rs = c.args.self.now.list.items in
    let r = c.args.rule in
    distinct_after_push rs c.push.new.self.items r (is_ok c.push.result) c.push.ensures.items c.args.self.now.distinct
    (not_refused (is_some (rule_on rs r.flag (text r.path))) (length rs) 256 c.in-None.ensures).0
