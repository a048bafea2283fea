use Rattle.std.proofs.Common.{sym, ap, ◌∙◌, rules}
use Rattle.policy.specs.Grants.{type_at}
use Rattle.policy.specs.Holds.{model_of}
use Rattle.policy.proofs.complete.Policy.site.Goals as goal

pub invariant_of-result : goal.invariant_of-result
invariant_of-result c =
    let m = model_of c.args.self.now in
    let p = c.as_bytes-bytes.result.now in
    record {
      short = c.as_bytes-bytes.ensures.short;
      ancestors = c.types_above.ensures;
      typed = c.type_of.ensures ∙ ap (type_at m) (sym c.as_bytes-bytes.ensures.value);
      enters = λ e l. search rules;
    }
