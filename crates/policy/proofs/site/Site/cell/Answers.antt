use Rattle.std.proofs.Common.{◌≡◌, ap, ◌∙◌}
use Rattle.policy.specs.Cells.{cell_of}
use Rattle.policy.specs.Grants.{type_at, letters_on}
use Rattle.policy.specs.Holds.{model_of}
use Rattle.policy.proofs.site.Site.cell.Goals as goal

pub returns : goal.returns
unfolding cell_of
returns c =
    let s = c.args.self.now in
    let m = model_of s.policy.now in
    let held : c.letters_on.result ≡ letters_on m c.args.dom.0 (type_at m s.path.now) = c.letters_on.ensures ∙ ap (letters_on m c.args.dom.0) s.typed in
    cc
