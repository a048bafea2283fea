-- The rules that a table holds.
use Rattle.std.specs.Prelude.{List, length, is_some, vec_items, Option}
use Rattle.label.specs.Refusals.{refuses_more}
use Rattle.label.specs.Texts.{text}
use Rattle.label.specs.declared.refusal.Refusal.{Refusal}
use Rattle.rules.specs.declared.rule.Rule.{Rule}
use Rattle.rules.specs.declared.table.Rules.{Rules}
use Rattle.rules.specs.Typing.{rule_on}

abbrev pub rules_of : Rules → List Rule
rules_of t = vec_items t.list

-- why one more rule is refused, if it is
abbrev pub refusal_of : List Rule → Rule → Option Refusal
refusal_of rs r = refuses_more (is_some (rule_on rs r.flag (text r.path))) (length rs) 256
