use Rattle.std.proofs.Common.{◌≡◌, ◌||◌, ap, ◌∙◌, sym, rules}
use Rattle.label.specs.Letters.{has, letter_r, letter_x}
use Rattle.policy.specs.Cells.{cell_of}
use Rattle.policy.specs.Grants.{verdict, read_on}
use Rattle.policy.specs.Holds.{model_of, refusal}
use Rattle.policy.proofs.Answers.{answer-known}
use Rattle.policy.proofs.sealed.Sealed.decide_read.Goals as goal

pub returns : goal.returns
unfolding cell_of read_on
returns c =
    let refused : c.map_err.result ≡ refusal c.grant_read.result = search rules in
    refused
    ∙ ap refusal c.grant_read.ensures
    ∙ answer-known (model_of c.args.self.now.policy) c.args.dom.0 c.args.obj.0 c.in_ok-cell.field-0 (λ x. verdict x.barrier (has x.letters letter_r || has x.letters letter_x) x.long letter_r) (sym c.in_ok-cell.was ∙ c.cell.ensures)
