-- What is decided once about a domain and an object.
use Rattle.std.specs.Prelude.{ℕ, cond, List, length, Ok, Err, Option, Result}
use Rattle.label.specs.declared.numbers.Typ.{Typ}
use Rattle.tables.specs.Entries.{enters}
use Rattle.label.specs.declared.refusal.Refusal.{Refusal}
use Rattle.label.specs.declared.refusal.Refusal.TheVariants.{NoObject, NoDomain}
use Rattle.tables.specs.Model.{Model, no_domain}
use Rattle.policy.specs.declared.cell.Cell.{Cell}
use Rattle.policy.specs.Grants.{path_of, object_type, no_object, barrier, letters_on}
use Rattle.policy.specs.Passages.{target}

unfoldable pub cell_of : Model → ℕ → List ℕ → Option Typ → Cell
cell_of m d p t = record { barrier = barrier m d p; long = length p; letters = letters_on m d t; enters = enters m.entries d p; target = target m d p }

-- the same by the numbers of an object and a domain: no such object, no such domain, and then the cell
abbrev pub known : Model → ℕ → ℕ → Result Cell Refusal
known m d o = cond (no_object m o) (Err NoObject) (cond (no_domain m d) (Err NoDomain) (Ok (cell_of m d (path_of m o) (object_type m o))))
