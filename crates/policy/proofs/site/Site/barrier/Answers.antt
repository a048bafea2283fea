use Rattle.std.proofs.Common.{◌≡◌, true, false, length, rules}
use Rattle.std.proofs.lemmas.Iterator.{first_from_Range}
use Rattle.policy.specs.Grants.{barred}
use Rattle.policy.specs.Holds.{model_of}
use Rattle.policy.proofs.Lowest.{lowest_found}
use Rattle.policy.proofs.site.Site.barrier.Goals as goal

pub returns : goal.returns
returns c =
    let s = c.args.self.now in
    let f = barred (model_of s.policy.now) c.args.dom.0 s.path.now in
    lowest_found f (length s.path.now) _
    (first_from_Range _ _ _ _ (λ n. f n ≡ true) (λ n. f n ≡ false) c.find.ensures.ran (λ n q k. search rules) (λ n q k. (search rules, search rules)))
