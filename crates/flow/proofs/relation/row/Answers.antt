use Rattle.std.proofs.Common.{sym, subst}
use Rattle.flow.specs.Nodes.{StandsFor}
use Rattle.flow.specs.Tables.{RowOf}
use Rattle.flow.proofs.Nodes.{stands_for}
use Rattle.flow.proofs.relation.row.Goals as goal

pub returns : goal.returns
returns g c x hx is =
    let holds = g.R.Relation.holds c.args.relation.now in
    let from = stands_for c.from.result x hx (subst (λ v. StandsFor v c.from.result) (sym is) c.from.ensures) in
    subst (λ z. RowOf (holds z) c.row.result) from.1 c.row.ensures
