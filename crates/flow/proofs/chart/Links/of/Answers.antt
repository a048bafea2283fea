use Rattle.std.proofs.Common.{◌≡◌, [], refl, rules}
use Rattle.machine.specs.Flow.{Node, number}
use Rattle.flow.specs.Nodes.{Numbered}
use Rattle.flow.specs.Tables.{RowOf}
use Rattle.flow.proofs.Filling.{filled}
use Rattle.flow.proofs.Nodes.{number_below}
use Rattle.flow.proofs.chart.Links.of.Goals as goal

pub returns : goal.returns
returns g c x y hx hy =
    let holds = g.R.Relation.holds c.args.relation.now in
    filled _ _ (λ u row. (z : Node) → Numbered z → number z ≡ u → RowOf (holds z) row) (λ u row f e. search rules) _ _ c.from_fn.ensures.items (number x) [] (number_below x hx) x hx refl y hy
