use Rattle.std.proofs.Common.{◌≡◌, true, false, ap, ◌∙◌, rules}
use Rattle.std.proofs.lemmas.Iterator.{first_from_Range}
use Rattle.std.specs.Option.{option_map}
use Rattle.policy.specs.Holds.{model_of}
use Rattle.policy.specs.Lowest.{lowest}
use Rattle.policy.specs.Passages.{leads}
use Rattle.policy.proofs.Lowest.{lowest_found}
use Rattle.policy.proofs.site.Site.target.Goals as goal

pub returns : goal.returns
returns c =
    let s = c.args.self.now in
    let m = model_of s.policy.now in
    let f = leads m c.args.dom.0 s.path.now in
    let mapped : c.map.result ≡ option_map (λ e. record { 0 = e }) c.find.result = search rules in
    mapped
    ∙ ap (option_map (λ e. record { 0 = e })) (
    lowest_found f c.domain_count.result _
    (first_from_Range _ _ _ _ (λ n. f n ≡ true) (λ n. f n ≡ false) c.find.ensures.ran (λ n q k. search rules) (λ n q k. (search rules, search rules)))
    ∙ ap (lowest f) c.domain_count.ensures
    )
