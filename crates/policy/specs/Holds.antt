-- What a complete or sealed policy says.
use Rattle.std.specs.Prelude.{ℕ, Bool, cond, ◌&&◌, is_some, Ok, Err, codes, Result}
use Rattle.label.specs.declared.refusal.Refusal.{Refusal}
use Rattle.label.specs.declared.refusal.Refusal.TheVariants.{NoObject, NoDomain, Denied}
use Rattle.rules.specs.Typing.{rule_on}
use Rattle.rules.specs.declared.rule.Flag.TheVariants.{R}
use Rattle.tables.specs.Model.{Model, model, no_domain}
use Rattle.policy.specs.declared.complete.Policy.{Policy}
use Rattle.policy.specs.Grants.{no_object, grant_on, read_on}

abbrev pub model_of : Policy → Model
model_of p = model p.tables

-- a default domain and an -r rule on / are there
abbrev pub complete : Model → Bool
complete m = is_some m.first && is_some (rule_on m.rules R (codes "/"))

-- a denial is a refusal that carries its pair
abbrev pub refusal : Result (Unit {0}) (ℕ × ℕ) → Result (Unit {0}) Refusal
refusal (Ok u) = Ok tt
refusal (Err pair) = Err (Denied pair)

-- the answer on an object and a domain by their numbers: no such object, no such domain, and then the grant
abbrev pub answer : Model → ℕ → ℕ → Result (Unit {0}) (ℕ × ℕ) → Result (Unit {0}) Refusal
answer m d o g = cond (no_object m o) (Err NoObject) (cond (no_domain m d) (Err NoDomain) (refusal g))

abbrev pub decision : Model → ℕ → ℕ → ℕ → Result (Unit {0}) Refusal
decision m d o l = answer m d o (grant_on m d o l)

abbrev pub read_decision : Model → ℕ → ℕ → Result (Unit {0}) Refusal
read_decision m d o = answer m d o (read_on m d o)
