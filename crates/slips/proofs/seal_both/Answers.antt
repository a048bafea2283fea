use Rattle.std.proofs.Common.{Err, subst}
use Rattle.draft.specs.Composing.{Composes}
use Rattle.draft.specs.Drafts.{View, base}
use Rattle.slips.specs.Policies.Refused.{second}
use Rattle.slips.proofs.seal_both.Goals as goal

pub returns-in-Err-try_module : goal.returns-in-Err-try_module
returns-in-Err-try_module c =
    let opened = c.in-Ok.ensures in
    second opened.0 opened.1.0
    (subst (λ (v : View). Composes v.modules (base v.kept) c.args.extra.now (Err c.in-Err-try_module.failure)) opened.1.1 c.in-Err-try_module.ensures.tries.0)
