use Rattle.std.proofs.Common.{Ok, sym, ap, ◌∙◌, rules}
use Rattle.std.proofs.lemmas.Bool.{cond-false}
use Rattle.policy.proofs.Sheets.{written_tells}
use Rattle.policy.proofs.sealed.Sealed.cell.Goals as goal

pub returns : goal.returns
returns c =
    let there = c.in_ok-sheet.ensures.there in
    let made = written_tells _ _ (c.args.self.now.cells (c.args.obj.0, c.args.dom.0) (search rules, search rules)) in
    rw (c.from.ensures, there.1) (ap Ok made ∙ sym (cond-false _ _ _ there.0 ∙ cond-false _ _ _ (sym c.if-no_domain.ensures)))
