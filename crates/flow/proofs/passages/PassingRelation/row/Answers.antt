use Rattle.std.proofs.Common.{sym, subst}
use Rattle.policy.specs.Abstract.{asked}
use Rattle.flow.specs.Nodes.{meant}
use Rattle.flow.specs.Passages.{Passage}
use Rattle.flow.specs.Tables.{RowOf}
use Rattle.flow.proofs.Bounded.{objects_few}
use Rattle.flow.proofs.BlankRows.{object_row}
use Rattle.flow.proofs.Targets.{passages_row}
use Rattle.flow.proofs.passages.PassingRelation.row.Goals as goal

pub returns-in-Object : goal.returns-in-Object
returns-in-Object c = object_row (asked c.args.self.now.0.now.policy) c.args.from c.in-Object.field-0 c.in-Object.is

pub returns-in-Domain : goal.returns-in-Domain
returns-in-Domain c =
    let p = c.args.self.now.0.now.policy in
    subst (λ n. RowOf (Passage (asked p) (meant n)) c.to_domains.result) (sym c.in-Domain.is)
    (passages_row (asked p) c.in-Domain.dom.0 c.targets_of.result c.to_domains.result (objects_few p) c.targets_of.ensures c.to_domains.ensures)
