use Rattle.std.proofs.Common.{◌≡◌, Bool, true, false, refl, ◌∙◌}
use Rattle.machine.specs.Flow.{of_type}
use Rattle.policy.specs.Abstract.{asked}
use Rattle.policy.specs.Grants.{no_object}
use Rattle.policy.specs.Holds.{model_of}
use Rattle.flow.specs.Sets.{within}
use Rattle.flow.proofs.Allowed.{type_told, no_type_told}
use Rattle.flow.proofs.objects.has_type.Goals as goal

pub returns : goal.returns
returns c = by (no_object (model_of c.args.policy.now.policy) c.args.obj.0) refl
  where
    by : (b : Bool) → no_object (model_of c.args.policy.now.policy) c.args.obj.0 ≡ b → c.eq.result ≡ within (asked c.args.policy.now.policy) (of_type (asked c.args.policy.now.policy) c.args.typ.0) c.args.obj.0
    by true q = rw (c.type_of.ensures, q) at c.eq.ensures ∙ no_type_told c.args.policy.now.policy c.args.obj.0 c.args.typ.0 q
    by false q = rw (c.type_of.ensures, q) at c.eq.ensures ∙ type_told c.args.policy.now.policy c.args.obj.0 c.args.typ.0 q
