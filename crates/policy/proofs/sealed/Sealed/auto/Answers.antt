use Rattle.std.proofs.Common.{None, Some, sym, ap, ◌∙◌}
use Rattle.std.specs.Option.{option_and}
use Rattle.std.specs.Result.{result_ok}
use Rattle.policy.specs.Holds.{model_of}
use Rattle.policy.proofs.Answers.{auto-known}
use Rattle.policy.proofs.sealed.Sealed.auto.Goals as goal

pub returns-in_err-cell : goal.returns-in_err-cell
returns-in_err-cell c =
    c.from_residual.ensures
    ∙ auto-known (model_of c.args.self.now.policy) c.args.dom.0 c.args.obj.0 None (sym c.in_err-cell.was ∙ c.ok.ensures.value ∙ ap result_ok c.cell.ensures)

pub returns : goal.returns
returns c =
    c.and.ensures
    ∙ ap (λ o. option_and o c.in_ok-cell.cell.target) (c.ok-2.ensures.value ∙ ap result_ok c.grant.ensures)
    ∙ auto-known (model_of c.args.self.now.policy) c.args.dom.0 c.args.obj.0 (Some c.in_ok-cell.cell) (sym c.in_ok-cell.was ∙ c.ok.ensures.value ∙ ap result_ok c.cell.ensures)
