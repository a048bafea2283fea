use Rattle.flow.proofs.Explored.{spread_of}
use Rattle.flow.specs.Sets.{among}
use Rattle.flow.proofs.chart.Chart.spread.Goals as goal

pub returns : goal.returns
returns c P charts = spread_of P c.args.self.now charts (among c.args.from.now) c.sources-sources.result c.sources-sources.ensures (record { reach = c.explore.result }) c.explore.ensures
