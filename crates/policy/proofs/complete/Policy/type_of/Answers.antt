use Rattle.std.proofs.Common.{is_some, ap, ◌∙◌}
use Rattle.rules.specs.Typing.{type_of}
use Rattle.rules.proofs.Lawful.{path_typed}
use Rattle.policy.specs.Holds.{model_of}
use Rattle.policy.proofs.complete.Policy.type_of.Goals as goal

pub unwrap-requires : goal.unwrap-requires
unwrap-requires c =
    ap is_some (c.type_of.ensures ∙ ap (λ rs. type_of rs c.as_bytes.result.now) c.rules.ensures)
    ∙ path_typed (model_of c.args.self.now).rules c.args.self.now.rooted c.as_bytes.result.now c.as_bytes.ensures.path
