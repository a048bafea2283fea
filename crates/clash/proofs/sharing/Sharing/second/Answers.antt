use Rattle.std.proofs.Common.{ℕ, Bool, ◌≡◌, ◌&&◌, true, false, ltb, ap, ◌∙◌, rules}
use Rattle.std.proofs.lemmas.Iterator.{first_from_Range}
use Rattle.std.specs.Option.{option_map}
use Rattle.tables.specs.Model.{model}
use Rattle.policy.specs.Lowest.{lowest}
use Rattle.policy.proofs.Lowest.{lowest_found}
use Rattle.clash.specs.Clashes.{clashing}
use Rattle.clash.proofs.sharing.Sharing.second.Goals as goal

pub returns : goal.returns
returns c =
    let m = model c.args.self.now.tables.now in
    let t : ℕ → Bool = λ f. ltb c.args.low.0 f && clashing m c.args.dom.0 c.args.low.0 f in
    let mapped : c.map.result ≡ option_map (λ f. record { 0 = f }) c.find.result = search rules in
    mapped
    ∙ ap (option_map (λ f. record { 0 = f }))
    (lowest_found t c.domain_count.result _
    (first_from_Range _ _ _ _ (λ f. t f ≡ true) (λ f. t f ≡ false) c.find.ensures.ran (λ f q k. search rules) (λ f q k. (search rules, search rules)))
    ∙ ap (lowest t) c.domain_count.ensures)
