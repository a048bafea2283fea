use Rattle.std.proofs.Common.{◌≡◌, option_map, rules}
use Rattle.flow.specs.declared.spread.Near.{Near}
use Rattle.flow.specs.Sets.{among}
use Rattle.flow.proofs.Nearest.{fewest_links}
use Rattle.flow.proofs.spread.Spread.links_to.Goals as goal

pub returns : goal.returns
returns c P From of =
    let e : c.map.result ≡ option_map (λ (n : Near). n.links) c.nearest.result = search rules in
    rw e (fewest_links P From (among c.args.to.now) c.args.self.now of c.nearest.result c.nearest.ensures)
