use Rattle.std.proofs.Common.{◌≡◌, ◌+◌, false, is_some, sym, ap, ◌∙◌, rules}
use Rattle.reach.specs.Distances.{distance_of, parent_of}
use Rattle.policy.specs.Abstract.{asked}
use Rattle.policy.specs.Holds.{model_of}
use Rattle.flow.proofs.Allowed.{first_told}
use Rattle.flow.proofs.Bounded.{domains_few}
use Rattle.flow.proofs.Filling.{filled}
use Rattle.flow.proofs.Lives.{lives_from_first}
use Rattle.flow.proofs.live.live_domains.Goals as goal

pub returns : goal.returns
returns c d l =
    let p = c.args.policy.now.policy in
    let distance = distance_of c.explore-reached.result in
    let is = filled _ _ (λ i r. r ≡ is_some (distance (128 + i))) (λ i r f e. search rules) _ _ c.from_fn.ensures.items d false l in
    let first = first_told p c.first.result (c.first.ensures ∙ ap (λ q. (model_of q).first) c.policy.ensures) in
    let r = lives_from_first (asked p) (domains_few p) c.args.passages.now c.requires c.from.result (c.from.ensures ∙ ap (λ k. 128 + k) first) distance (parent_of c.explore-reached.result) c.explore-reached.ensures d in
    (λ h. r.0 (sym is ∙ h), λ L. is ∙ r.1 L)
