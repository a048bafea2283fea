use Rattle.std.proofs.Common.{length, subst, ◌∙◌, rules}
use Rattle.std.proofs.iter.runs.Sources.{range_runs}
use Rattle.std.specs.Iterator.Runs.{ItemsCountUp}
use Rattle.tables.specs.Model.{model}
use Rattle.clash.proofs.Searches.{pair_at, pair_is, first_found}
use Rattle.clash.proofs.sharing.Sharing.pair.Goals as goal

pub returns : goal.returns
returns c =
    let m = model c.args.self.now.tables.now in
    let ran = c.find_map.ensures.runs in
    first_found (pair_at m c.args.dom.0) ran.0 _ (length m.domains)
    (subst (λ n. ItemsCountUp ran.0 0 n) c.domain_count.ensures (subst (λ s. ItemsCountUp ran.0 s.start s.end) ran.1 (range_runs ran.0 ran.0.seen)))
    (λ e y q h. search rules) (λ e y h. search rules) c.find_map.result ran.2
    ∙ pair_is m c.args.dom.0
