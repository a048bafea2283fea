use Rattle.std.proofs.Common.{◌≡◌, Ok, sym, ap, subst}
use Rattle.draft.specs.Composing.{tabled, Composes}
use Rattle.draft.specs.Drafts.{kept_in, base, trying}
use Rattle.draft.specs.declared.draft.State.TheVariants.{Rest}
use Rattle.draft.proofs.draft.Draft.try_module.Goals as goal

pub returns-in-Ok-clause-tries : goal.returns-in-Ok-clause-tries
returns-in-Ok-clause-tries c =
    let e : c.args.self.now.state ≡ Rest c.in-Rest.kept = cc in
    let b : tabled c.in-Rest.kept ≡ base (kept_in c.args.self.now.state) = ap (λ s. base (kept_in s)) (sym e) in (
      tabled c.in-Ok.tried,
      (
        subst (λ x. Composes c.args.self.now.modules x c.args.text.now (Ok (tabled c.in-Ok.tried))) b c.in-Ok.ensures,
        ap (λ x. trying c.args.self.now.modules x (tabled c.in-Ok.tried)) b,
      ),
    )
