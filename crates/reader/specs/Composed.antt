-- What the modules that were read come to.
use Rattle.std.specs.Prelude.{Bool, true, false, List, replicate, slice_index_or, slice_set}
use Rattle.label.specs.declared.numbers.Dom.{Dom}
use Rattle.tables.specs.Model.{Model, model, empty}
use Rattle.reader.specs.declared.composition.Composition.{Composition}

pub record Composed : Type 0 where
  pub tables : Model
  -- the domains that had their spec_domain, by number
  pub specified : List Bool

abbrev pub composed : Composition → Composed
composed c = record { tables = model c.tables; specified = c.specified }

-- before any module
abbrev pub nothing : Composed
nothing = record { tables = empty; specified = replicate 32 false }

-- the same with other tables
abbrev pub tabled : Composed → Model → Composed
tabled c m = record { tables = m; specified = c.specified }

abbrev pub is_specified : Composed → Dom → Bool
is_specified c d = slice_index_or c.specified d.0 false

abbrev pub specifying : Composed → Dom → Composed
specifying c d = record { tables = c.tables; specified = slice_set c.specified d.0 true }
