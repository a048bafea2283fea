-- What the machine is told when it asks a policy: what the tables say.
use Rattle.std.specs.Prelude.{◌≡◌, ℕ, length, Some}
use Rattle.std.specs.Option.{option_map}
use Rattle.label.specs.Letters.{letter_w, letter_a, letter_x, letter_c}
use Rattle.machine.specs.Policy.{reading, writing, appending, making, running}
use Rattle.policy.specs.declared.complete.Policy.{Policy}
use Rattle.policy.specs.Abstract.{asked}
use Rattle.policy.specs.Grants.{grant_on, read_on}
use Rattle.policy.specs.Holds.{model_of}
use Rattle.policy.specs.Passages.{pass, auto}
use Rattle.policy.specs.Sheets.{type_number}

pub record Asks : Type 0 where
  pub objects : (p : Policy) → (asked p).objects ≡ length (model_of p).objects
  pub domains : (p : Policy) → (asked p).domains ≡ length (model_of p).domains
  pub first : (p : Policy) → Some (record { 0 = (asked p).first }) ≡ (model_of p).first
  pub typ : (p : Policy) (o : ℕ) → (asked p).typ o ≡ type_number (model_of p) o
  pub reads : (p : Policy) (d o : ℕ) → (asked p).verdict reading d o ≡ read_on (model_of p) d o
  pub writes : (p : Policy) (d o : ℕ) → (asked p).verdict writing d o ≡ grant_on (model_of p) d o letter_w
  pub appends : (p : Policy) (d o : ℕ) → (asked p).verdict appending d o ≡ grant_on (model_of p) d o letter_a
  pub makes : (p : Policy) (d o : ℕ) → (asked p).verdict making d o ≡ grant_on (model_of p) d o letter_c
  pub runs : (p : Policy) (d o : ℕ) → (asked p).verdict running d o ≡ grant_on (model_of p) d o letter_x
  pub passes : (p : Policy) (d o e : ℕ) → (asked p).pass d o e ≡ pass (model_of p) d o e
  pub autos : (p : Policy) (d o : ℕ) → (asked p).auto d o ≡ option_map (λ e. e.0) (auto (model_of p) d o)
