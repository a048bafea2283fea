use Rattle.std.proofs.Common.{◌∙◌, rules, tests}
use Rattle.std.proofs.lemmas.Iterator.{YieldsList-from_slice}
use Rattle.std.proofs.lemmas.Iterator.Search.{find_from_yields_List}
use Rattle.rules.specs.Typing.{stands_on, rule_on}
use Rattle.rules.proofs.table.Rules.find.Goals as goal

pub returns : goal.returns
unfolding rule_on
returns c =
    c.copied.ensures
    ∙ find_from_yields_List (λ r. stands_on r c.args.flag c.args.path.now) _ _ _ c.find.ensures.ran (YieldsList-from_slice c.args.self.now.list.items cc) (λ x b q k. search (rules, tests))
