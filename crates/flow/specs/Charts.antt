-- The chart of a policy: its links, as a table over the numbers of the nodes.
use Rattle.std.specs.Prelude.{◌≡◌, ◌≤◌}
use Rattle.machine.specs.Flow.{Link}
use Rattle.machine.specs.Policy.{Policy as Asked}
use Rattle.flow.specs.declared.chart.Chart.{Chart}
use Rattle.flow.specs.Tables.{TableOf}

pub record Charts (P : Asked) (chart : Chart) : Type 0 where
  pub objects : chart.objects ≡ P.objects
  pub objects_few : P.objects ≤ 128
  pub domains_few : P.domains ≤ 32
  -- the table links two nodes exactly if the policy does
  pub links : TableOf (Link P) chart.links
