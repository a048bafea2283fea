use Rattle.std.proofs.Common.{rules}
use Rattle.policy.specs.Holds.{model_of}
use Rattle.policy.proofs.Sheets.{sheet_made}
use Rattle.policy.proofs.complete.Policy.sheet_of.Goals as goal

pub returns : goal.returns
returns c =
    let found = c.get.ensures.lookup in
    sheet_made (model_of c.args.self.now) c.objects.result.now c.args.o c.map_or.result _ _ _ c.objects.ensures.objects found.1 found.2 (λ x h. search rules) c.map_or.ensures
