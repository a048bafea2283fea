use Rattle.std.proofs.Common.{◌≡◌, ◌∙◌, subst, rules}
use Rattle.std.specs.List.{filter_map}
use Rattle.reach.specs.Distances.{distance_of}
use Rattle.flow.specs.Nearest.{end_at}
use Rattle.flow.specs.Sets.{among}
use Rattle.flow.proofs.Nearest.{IsLeastOf, picks_least, least_end}
use Rattle.flow.proofs.Ranges.{counts_up}
use Rattle.flow.proofs.spread.Spread.nearest.Goals as goal

pub returns : goal.returns
returns c =
    let distance = distance_of c.args.self.now.reach in
    let To = among c.args.to.now in
    let p = c.min_by_key.ensures.runs in
    let q = c.filter_map.ensures.runs p.0 p.0.seen p.1 in
    let items : p.0.items ≡ filter_map (end_at distance To) q.0.items = q.2.3 (end_at distance To) (λ x r f e. search rules) in
    let objects = counts_up q.0 128 q.1 (q.2.0 ∙ p.2) in
    least_end distance To q.0.items objects.0 objects.1 c.min_by_key.result
    (subst (λ xs. IsLeastOf xs c.min_by_key.result) items
    (picks_least p.0 _ _ (λ a r f e. search rules) (λ x n f e. search rules) c.min_by_key.result p.3))
