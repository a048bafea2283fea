-- A policy as the machine asks it.
use Rattle.std.specs.Prelude.{◌≡◌, ℕ, ◌<◌, true, length, is_some, Some, None, vec_len, Option, Result}
use Rattle.std.proofs.Common.{sym, ap, subst}
use Rattle.std.proofs.Math.Bridge.{le_prop}
use Rattle.std.proofs.lemmas.Bool.{true≢false, ltb-true}
use Rattle.std.specs.Option.{option_map}
use Rattle.label.specs.Letters.{letter_w, letter_a, letter_x, letter_c}
use Rattle.label.specs.declared.numbers.Dom.{Dom}
use Rattle.machine.specs.Policy.{Act, reading, writing, appending, making, running, Policy as Asked}
use Rattle.tables.specs.Begins.{declared_in}
use Rattle.tables.specs.Model.{Model}
use Rattle.policy.specs.declared.complete.Policy.{Policy}
use Rattle.policy.specs.Grants.{grant_on, read_on}
use Rattle.policy.specs.Holds.{model_of}
use Rattle.policy.specs.Passages.{pass, auto}
use Rattle.policy.specs.PassageLaws.{run_reads, pass_runs, pass_object, pass_to, auto_passes}
use Rattle.policy.specs.Sheets.{type_number}

-- what grants each act
abbrev pub verdict_on : Model → Act → ℕ → ℕ → Result (Unit {0}) (ℕ × ℕ)
verdict_on m reading d o = read_on m d o
verdict_on m writing d o = grant_on m d o letter_w
verdict_on m appending d o = grant_on m d o letter_a
verdict_on m making d o = grant_on m d o letter_c
verdict_on m running d o = grant_on m d o letter_x

-- the number of the default domain, which every policy has
abbrev pub first_number : Option Dom → ℕ
first_number None = 0
first_number (Some d) = d.0

first_declared : (f : Option Dom) (n : ℕ) → is_some f ≡ true → declared_in f n ≡ true → first_number f < n
first_declared None n s t = absurd (true≢false (sym s))
first_declared (Some d) n s t = ltb-true d.0 n t

pub first_is : (p : Policy) → first_number (model_of p).first < length (model_of p).domains
first_is p = subst (λ n. first_number (model_of p).first < n) p.tables.domains.list.ok.0 (first_declared (model_of p).first (vec_len p.tables.domains.list) p.begins p.tables.begins)

-- the policy that tables with a declared default domain are to the machine
unfoldable pub asked_of : (m : Model) → first_number m.first < length m.domains → Asked
asked_of m first_is = record {
  objects = length m.objects;
  domains = length m.domains;
  first = first_number m.first;
  first_is = first_is;
  typ = type_number m;
  verdict = verdict_on m;
  pass = pass m;
  auto = λ d o. option_map (λ e. e.0) (auto m d o);
  run_reads = run_reads m;
  pass_runs = pass_runs m;
  pass_object = pass_object m;
  pass_domain = pass_to m;
  auto_pass = auto_passes m;
}

unfoldable pub asked : Policy → Asked
asked p = asked_of (model_of p) (first_is p)

-- a policy is asked what its tables are asked
pub asked_of_tables : (p : Policy) (first_is : first_number (model_of p).first < length (model_of p).domains) → asked p ≡ asked_of (model_of p) first_is
unfolding asked
asked_of_tables p h = ap (asked_of (model_of p)) (le_prop (first_is p) h)
