use Rattle.std.proofs.Common.{◌≡◌, ap, ◌∙◌, rules}
use Rattle.label.specs.Letters.{has}
use Rattle.policy.specs.Cells.{cell_of}
use Rattle.policy.specs.Grants.{verdict, grant_on}
use Rattle.policy.specs.Holds.{model_of, refusal}
use Rattle.policy.proofs.Answers.{answer-known}
use Rattle.policy.proofs.sealed.Sealed.decide.Goals as goal

pub returns : goal.returns
unfolding cell_of grant_on
returns c =
    let l = c.args.letter in
    let refused : c.map_err.result ≡ refusal c.grant.result = search rules in
    refused
    ∙ ap refusal c.grant.ensures
    ∙ answer-known (model_of c.args.self.now.policy) c.args.dom.0 c.args.obj.0 c.in_ok-cell.field-0 (λ x. verdict x.barrier (has x.letters l) x.long l) (search rules)
