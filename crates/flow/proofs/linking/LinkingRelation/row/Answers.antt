use Rattle.std.proofs.Common.{sym, ◌∙◌}
use Rattle.flow.proofs.BlankRows.{dead_row}
use Rattle.flow.proofs.linking.LinkingRelation.row.Goals as goal

pub returns-in-Domain-2 : goal.returns-in-Domain-2
returns-in-Domain-2 c = dead_row c.args.self.now c.args.from c.in-Domain.dom c.in-Domain.is (sym c.is_live.ensures ∙ c.if-is_live.false)
