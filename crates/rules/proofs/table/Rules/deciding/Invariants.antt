use Rattle.std.proofs.Common.{◌≡◌, drop, None}
use Rattle.rules.specs.Ranks.{highest}
use Rattle.rules.proofs.table.Rules.deciding.Given as goal

abbrev pub invariant-loop-rule : goal.invariant-loop-rule
invariant-loop-rule l = highest (drop l.rule-index l.rule-items) l.path l.most l.best ≡ highest l.rule-items l.path 0 None
