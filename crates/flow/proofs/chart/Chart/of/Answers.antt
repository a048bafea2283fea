use Rattle.std.proofs.Common.{length, sym, ap, ◌∙◌}
use Rattle.tables.specs.Model.{model}
use Rattle.policy.proofs.Asks.{asks}
use Rattle.flow.proofs.Bounded.{objects_few, domains_few}
use Rattle.flow.proofs.LinkParts.{linked_is_link}
use Rattle.flow.proofs.chart.Chart.of.Goals as goal

pub returns : goal.returns
returns c =
    let p = c.args.policy.now.policy in
    record {
      objects = c.object_count.ensures ∙ ap (λ t. length (model t).objects) (c.tables.ensures ∙ ap (λ q. q.tables) c.policy.ensures) ∙ sym (asks.objects p);
      objects_few = objects_few p;
      domains_few = domains_few p;
      links = λ x y hx hy.
          let t = c.of.ensures x y hx hy in
          let k = linked_is_link (record { policy = c.args.policy; passages = c.of-passages.result; live = c.live_domains-live.result }) c.live_domains-live.ensures c.of-passages.ensures x y hx hy in
          (λ h. k.0 (t.0 h), λ h. t.1 (k.1 h));
    }
