-- A policy has at most 128 objects and 32 domains, and a passage is from one of its domains.
use Rattle.std.proofs.Common.{◌≡◌, ℕ, ◌<◌, ◌≤◌, true, sym, ◌∙◌, subst}
use Rattle.policy.specs.Abstract.{asked}
use Rattle.policy.specs.Holds.{model_of}
use Rattle.policy.specs.declared.complete.Policy.{Policy}
use Rattle.policy.proofs.Asks.{asks}
use Rattle.policy.proofs.Lawful.{laws}

pub objects_few : (p : Policy) → (asked p).objects ≤ 128
objects_few p = subst (λ n. n ≤ 128) (p.tables.objects.list.ok.0 ∙ sym (asks.objects p)) p.tables.objects.few

pub domains_few : (p : Policy) → (asked p).domains ≤ 32
domains_few p = subst (λ n. n ≤ 32) (p.tables.domains.list.ok.0 ∙ sym (asks.domains p)) p.tables.domains.few

pub pass_from : (p : Policy) (d o e : ℕ) → (asked p).pass d o e ≡ true → d < (asked p).domains
pass_from p d o e h = subst (λ n. d < n) (sym (asks.domains p)) (laws.pass_from (model_of p) d o e (sym (asks.passes p d o e) ∙ h))
