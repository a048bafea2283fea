-- What it is that tables have no clash, and which clash is named.
use Rattle.std.specs.Prelude.{◌≡◌, ℕ, ◌<◌, ◌≤◌, true, ◌⊎◌, ◌↔◌, List, length, Some, None}
use Rattle.std.specs.Option.{option_map}
use Rattle.label.specs.declared.numbers.Dom.{Dom}
use Rattle.tables.specs.Model.{Model}
use Rattle.policy.specs.Grants.{path_of}
use Rattle.policy.specs.Passages.{leads, pass, auto}
use Rattle.clash.specs.Clashes.{clash}

-- auto passages of d lead to e and to f by one path, whether or not an object has that path
pub record Clash (m : Model) (d e f : ℕ) : Type 0 where
  pub path : List ℕ
  pub to_first : leads m d path e ≡ true
  pub to_second : leads m d path f ≡ true

-- to declared domains each auto passage of d is the only one by its path
abbrev pub Clear : Model → ℕ → Type 0
Clear m d = (e f : ℕ) → e < length m.domains → f < length m.domains → Clash m d e f → e ≡ f

-- e and f are the lowest pair of the lowest domain that has a clash
pub record LowestClash (m : Model) (e f : ℕ) : Type 0 where
  pub dom : ℕ
  pub declared : dom < length m.domains
  pub clashes : Clash m dom e f
  pub ordered : e < f
  pub within : f < length m.domains
  pub no_lower_domain : (d : ℕ) → d < dom → Clear m d
  pub no_lower_pair : (x y : ℕ) → x < y → y < length m.domains → Clash m dom x y → (e < x) ⊎ ((e ≡ x) × (f ≤ y))

pub record Laws : Type 0 where
  pub none : (m : Model) → (clash m ≡ None) ↔ ((d : ℕ) → d < length m.domains → Clear m d)
  pub some : (m : Model) (e f : Dom) → clash m ≡ Some (e, f) → LowestClash m e.0 f.0
  -- where nothing clashes, a run without a wish takes the auto passage that leads by the object's path
  pub auto_taken : (m : Model) (d o e : ℕ) → clash m ≡ None → pass m d o e ≡ true → leads m d (path_of m o) e ≡ true → option_map (λ x. x.0) (auto m d o) ≡ Some e
