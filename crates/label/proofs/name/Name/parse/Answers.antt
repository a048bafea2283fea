use Rattle.std.proofs.Common.{sym, refl, ap}
use Rattle.std.specs.Option.{ok_or}
use Rattle.std.proofs.lemmas.Bool.{false≢true}
use Rattle.label.specs.Held.{named_held, named_none}
use Rattle.label.specs.declared.refusal.Refusal.TheVariants.{Misshapen}
use Rattle.label.proofs.name.Name.parse.Goals as goal

pub returns-then-not-is_name-clause-value : goal.returns-then-not-is_name-clause-value
returns-then-not-is_name-clause-value c = sym (ap (λ o. ok_or o Misshapen) (named_none _ (λ n. absurd (false≢true (c.if-not-is_name.ensures.1 n)))))

pub returns-clause-value : goal.returns-clause-value
returns-clause-value c = sym (ap (λ o. ok_or o Misshapen) (named_held _ _ (c.if-not-is_name.ensures.0 refl) c.of.ensures.bytes c.of.ensures.len))
