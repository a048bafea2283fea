-- A domain that is declared.
use Rattle.std.specs.Prelude.{ℕ, Bool, true, Some, None, Option, nat_lt}
use Rattle.label.specs.declared.numbers.Dom.{Dom}

-- the domain, if there is one, is one of the first n
abbrev pub declared_in : Option Dom → ℕ → Bool
declared_in None n = true
declared_in (Some d) n = nat_lt d.0 n
