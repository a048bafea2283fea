use Rattle.std.proofs.Common.{sym, refl, ap}
use Rattle.std.specs.Option.{ok_or}
use Rattle.std.proofs.lemmas.Bool.{false≢true}
use Rattle.label.specs.Held.{pathed_held, pathed-none}
use Rattle.label.specs.declared.refusal.Refusal.TheVariants.{Misshapen}
use Rattle.label.proofs.path.Path.parse.Goals as goal

pub returns-then-not-is_path-clause-value : goal.returns-then-not-is_path-clause-value
returns-then-not-is_path-clause-value c = sym (ap (λ o. ok_or o Misshapen) (pathed-none _ (λ n. absurd (false≢true (c.if-not-is_path.ensures.1 n)))))

pub returns-clause-value : goal.returns-clause-value
returns-clause-value c = sym (ap (λ o. ok_or o Misshapen) (pathed_held _ _ (c.if-not-is_path.ensures.0 refl) c.of.ensures.bytes c.of.ensures.len))
